use Rattle.std.proofs.Common.{length, is_ok, Ok, sym, ap, ◌∙◌}
use Rattle.book.specs.Books.{site}
use Rattle.survey.specs.Surveys.{survey_read}
use Rattle.survey.proofs.Numerals.{accepted}
use Rattle.survey.proofs.Judged.{accepted_sized}
use Rattle.plan.proofs.Sizes.{is_written}
use Rattle.plan.proofs.plan.Goals as goal

pub unwrap-requires : goal.unwrap-requires
unwrap-requires c =
    let book = c.read_survey.new.book in
    let g = site book in
    let told = sym c.read_survey.ensures.answer ∙ c.in_ok-read_survey.was in
    let accepts = accepted (survey_read c.args.text.now) (site c.new-book.result) told in
    let counted = accepted_sized c.args.text.now g (accepts ∙ ap Ok (sym c.read_survey.ensures.site)) in
    ap is_ok c.write_out.ensures.answer ∙ is_written g (length c.args.sheet.now) c.told-sheet book.current.sound.faithful.lawful counted
