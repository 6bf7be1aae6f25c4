use Rattle.std.proofs.Common.{◌≡◌, Ok, Err, sym, ap, ◌∙◌}
use Rattle.std.proofs.lemmas.Result.{err_from_is_err_and}
use Rattle.text.specs.Cursors.{tokens_left, part_of}
use Rattle.cores.specs.Links.{joined}
use Rattle.book.specs.Books.{site}
use Rattle.book.specs.Answers.{link_answer}
use Rattle.survey.specs.Surveys.{numbers, spot_of, placed, linked_with}
use Rattle.survey.specs.Reached.{reached}
use Rattle.survey.proofs.Numerals.{found, others_too, no_fault}
use Rattle.survey.proofs.Links.{done, linked_on, linked_off, linked_none}
use Rattle.survey.proofs.line.Line.link_with.Goals as goal

pub returns-in_err-other : goal.returns-in_err-other
returns-in_err-other c =
    absurd (no_fault c.args.self.now.number c.in-Some.ensures.steps.cut c.loop-token.invariant.0 c.in_err-other.field-0.0 (sym c.number_in.ensures ∙ c.in_err-other.was))

pub loop-token-preserved : goal.loop-token-preserved
loop-token-preserved c =
    let n = c.args.self.now.number in
    let a = c.args.station in
    let g = site c.loop-token.book in
    let v = c.in_ok-other.other in
    let spot = spot_of n (part_of c.in-Some.token) in
    let cut = c.in-Some.ensures.steps.cut in
    let right = c.loop-token.invariant.0 in
    let number = sym c.number_in.ensures ∙ c.in_ok-other.was in
    let told : placed spot (link_answer g a v) ≡ Ok tt = ap (placed spot) (sym c.link.ensures.answer) ∙ sym c.placed.ensures ∙ c.in_ok-placed.was in
    let now : site c.link.new.self ≡ joined g a v = c.link.ensures.site ∙ done spot g (link_answer g a v) told in (
      others_too n cut right v number,
      ap (λ h. linked_with a h (found (numbers n (tokens_left c.next.new.self)))) now ∙ linked_on n a g v cut right number told ∙ c.loop-token.invariant.1,
    )

pub returns-in_err-placed : goal.returns-in_err-placed
returns-in_err-placed c =
    let n = c.args.self.now.number in
    let a = c.args.station in
    let g = site c.loop-token.book in
    let v = c.in_ok-other.other in
    let spot = spot_of n (part_of c.in-Some.token) in
    let number = sym c.number_in.ensures ∙ c.in_ok-other.was in
    let fault = c.in_err-placed.field-0.0 in
    let told : placed spot (link_answer g a v) ≡ Err fault = ap (placed spot) (sym c.link.ensures.answer) ∙ sym c.placed.ensures ∙ c.in_err-placed.was in
    let e = err_from_is_err_and c.from_residual-in_err-placed.result c.from_residual-in_err-placed.ensures.1 in
    ap (λ r. reached r (site c.link.new.self)) e.1 ∙ ap Err e.2 ∙ linked_off n a g v c.in-Some.ensures.steps.cut c.loop-token.invariant.0 number fault told ∙ c.loop-token.invariant.1

pub returns : goal.returns
returns c = linked_none c.args.self.now.number c.args.station (site c.loop-token.book) c.in-None.ensures.steps.done ∙ c.loop-token.invariant.1
