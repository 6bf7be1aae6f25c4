use Rattle.std.proofs.Common.{not, Err, sym, ap, ◌∙◌}
use Rattle.book.specs.Books.{site}
use Rattle.survey.specs.Surveys.{links_read}
use Rattle.survey.proofs.Numerals.{no_fault, others_too}
use Rattle.survey.proofs.Counts.{word_next, no_word_next, without_numbers, links_single, links_early, links_on}
use Rattle.survey.proofs.line.Line.read_links.Goals as goal

pub returns-in_default : goal.returns-in_default
returns-in_default c =
    let read = links_read c.args.self.now.number (site c.args.book.now) in
    ap Err c.miscounted.ensures ∙ sym (without_numbers c.args.self.now.number read c.in_default.ensures.steps.done)

pub returns-then-is_none : goal.returns-then-is_none
returns-then-is_none c =
    let right = sym c.check_numbers.ensures ∙ c.in_ok-check_numbers.was in
    let single = no_word_next c.next.new.self c.next-2.new.self c.next-2.result c.next-2.ensures.steps (c.is_none.ensures ∙ ap not c.if-is_none.true) in
    ap Err c.miscounted-then-is_none.ensures ∙ sym (links_single c.args.self.now.number (site c.args.book.now) c.in-Some.ensures.steps.cut right single)

pub returns-then-stations-eq0 : goal.returns-then-stations-eq0
returns-then-stations-eq0 c =
    let right = sym c.check_numbers.ensures ∙ c.in_ok-check_numbers.was in
    let next = word_next c.next.new.self c.next-2.new.self c.next-2.result c.next-2.ensures.steps (c.is_none.ensures ∙ ap not c.if-is_none.false) in
    ap Err c.misplaced.ensures
    ∙ sym (links_early c.args.self.now.number (site c.args.book.now) c.in-Some.ensures.steps.cut right next.1 (sym c.stations.ensures ∙ c.if-stations-eq0.true))

pub returns-in_err-station : goal.returns-in_err-station
returns-in_err-station c =
    let right = sym c.check_numbers.ensures ∙ c.in_ok-check_numbers.was in
    absurd (no_fault c.args.self.now.number c.in-Some.ensures.steps.cut right c.in_err-station.field-0.0 (sym c.number_in.ensures ∙ c.in_err-station.was))

pub link_with-requires : goal.link_with-requires
link_with-requires c =
    let right = sym c.check_numbers.ensures ∙ c.in_ok-check_numbers.was in
    others_too c.args.self.now.number c.in-Some.ensures.steps.cut right c.in_ok-station.station (sym c.number_in.ensures ∙ c.in_ok-station.was)

pub returns : goal.returns
returns c =
    let right = sym c.check_numbers.ensures ∙ c.in_ok-check_numbers.was in
    let next = word_next c.next.new.self c.next-2.new.self c.next-2.result c.next-2.ensures.steps (c.is_none.ensures ∙ ap not c.if-is_none.false) in
    c.link_with.ensures
    ∙ sym (links_on c.args.self.now.number (site c.args.book.now) c.in-Some.ensures.steps.cut right next.1 c.in_ok-station.station
    (sym c.number_in.ensures ∙ c.in_ok-station.was) (λ h. c.if-stations-eq0.false (c.stations.ensures ∙ h)))
