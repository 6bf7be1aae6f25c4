use Rattle.std.proofs.Common.{◌≡◌, Ok, Err, sym, ap, ◌∙◌}
use Rattle.std.proofs.lemmas.Result.{err_from_is_err_and}
use Rattle.std.specs.Result.{result_map_both}
use Rattle.text.specs.Cursors.{part_of}
use Rattle.cores.specs.Site.{laid_out}
use Rattle.view.specs.Answers.{counted}
use Rattle.book.specs.Books.{site}
use Rattle.survey.specs.declared.faults.LineFault.TheVariants.{Book}
use Rattle.survey.specs.Surveys.{spot_of, placed, size_read}
use Rattle.survey.specs.Reached.{reached}
use Rattle.survey.proofs.Numerals.{no_fault}
use Rattle.survey.proofs.Links.{done}
use Rattle.survey.proofs.Counts.{word_next, no_word_next, without_numbers, size_late, size_on, size_with_more}
use Rattle.survey.proofs.line.Line.read_size.Goals as goal

pub returns-in_default : goal.returns-in_default
returns-in_default c =
    let read = size_read c.args.self.now.number (site c.args.book.now) in
    ap Err c.miscounted.ensures ∙ sym (without_numbers c.args.self.now.number read c.in_default.ensures.steps.done)

pub returns-then-is_some : goal.returns-then-is_some
returns-then-is_some c =
    let right = sym c.check_numbers.ensures ∙ c.in_ok-check_numbers.was in
    let next = word_next c.next.new.self c.next-2.new.self c.next-2.result c.next-2.ensures.steps (sym c.is_some.ensures ∙ c.if-is_some.true) in
    ap Err c.miscounted-then-is_some.ensures ∙ sym (size_with_more c.args.self.now.number (site c.args.book.now) c.in-Some.ensures.steps.cut right next.1)

pub returns-then-stations-ne0 : goal.returns-then-stations-ne0
returns-then-stations-ne0 c =
    let right = sym c.check_numbers.ensures ∙ c.in_ok-check_numbers.was in
    let single = no_word_next c.next.new.self c.next-2.new.self c.next-2.result c.next-2.ensures.steps (sym c.is_some.ensures ∙ c.if-is_some.false) in
    ap Err c.misplaced.ensures
    ∙ sym (size_late c.args.self.now.number (site c.args.book.now) c.in-Some.ensures.steps.cut right single (λ h. c.if-stations-ne0.true (c.stations.ensures ∙ h)))

pub returns-in_err-stations : goal.returns-in_err-stations
returns-in_err-stations c =
    let right = sym c.check_numbers.ensures ∙ c.in_ok-check_numbers.was in
    absurd (no_fault c.args.self.now.number c.in-Some.ensures.steps.cut right c.in_err-stations.field-0.0 (sym c.number_in.ensures ∙ c.in_err-stations.was))

pub returns-in_err-placed : goal.returns-in_err-placed
returns-in_err-placed c =
    let n = c.args.self.now.number in
    let v = c.in_ok-stations.stations in
    let spot = spot_of n (part_of c.in-Some.size) in
    let right = sym c.check_numbers.ensures ∙ c.in_ok-check_numbers.was in
    let single = no_word_next c.next.new.self c.next-2.new.self c.next-2.result c.next-2.ensures.steps (sym c.is_some.ensures ∙ c.if-is_some.false) in
    let number = sym c.number_in.ensures ∙ c.in_ok-stations.was in
    let fault = c.in_err-placed.field-0.0 in
    let told : placed spot (counted v) ≡ Err fault = ap (placed spot) (sym c.lay_out.ensures.answer) ∙ sym c.placed.ensures ∙ c.in_err-placed.was in
    let e = err_from_is_err_and c.from_residual-in_err-placed.result c.from_residual-in_err-placed.ensures.1 in
    ap (λ r. reached r (site c.lay_out.new.self)) e.1 ∙ ap Err e.2 ∙ ap (result_map_both (λ _. laid_out v) Book) (sym told)
    ∙ sym (size_on n (site c.args.book.now) c.in-Some.ensures.steps.cut right single v number (sym c.stations.ensures ∙ c.if-stations-ne0.false))

pub returns : goal.returns
returns c =
    let n = c.args.self.now.number in
    let v = c.in_ok-stations.stations in
    let spot = spot_of n (part_of c.in-Some.size) in
    let right = sym c.check_numbers.ensures ∙ c.in_ok-check_numbers.was in
    let single = no_word_next c.next.new.self c.next-2.new.self c.next-2.result c.next-2.ensures.steps (sym c.is_some.ensures ∙ c.if-is_some.false) in
    let number = sym c.number_in.ensures ∙ c.in_ok-stations.was in
    let told : placed spot (counted v) ≡ Ok tt = ap (placed spot) (sym c.lay_out.ensures.answer) ∙ sym c.placed.ensures ∙ c.in_ok-placed.was in
    let now : site c.lay_out.new.self ≡ laid_out v = c.lay_out.ensures.site ∙ done spot (site c.args.book.now) (counted v) told in
    ap Ok now ∙ ap (result_map_both (λ _. laid_out v) Book) (sym told)
    ∙ sym (size_on n (site c.args.book.now) c.in-Some.ensures.steps.cut right single v number (sym c.stations.ensures ∙ c.if-stations-ne0.false))
