use Rattle.std.proofs.Common.{Ok, Err, sym, ap, ◌∙◌}
use Rattle.std.specs.Option.{ok_or}
use Rattle.survey.specs.Surveys.{word_fault}
use Rattle.text.specs.Cursors.{part_of}
use Rattle.survey.proofs.Numerals.{value_is}
use Rattle.survey.proofs.line.Line.number_in.Goals as goal

pub returns-in-None : goal.returns-in-None
returns-in-None c =
    let number = value_is c.read.result _ c.and_then.result c.read.ensures c.and_then.ensures in
    ap Err c.wrong.ensures ∙ ap (λ value. ok_or value (word_fault c.args.self.now.number (part_of c.args.token))) (sym c.in-None.is ∙ number)

pub returns-in-Some : goal.returns-in-Some
returns-in-Some c =
    let number = value_is c.read.result _ c.and_then.result c.read.ensures c.and_then.ensures in
    ap Ok c.from.ensures ∙ ap (λ value. ok_or value (word_fault c.args.self.now.number (part_of c.args.token))) (sym c.in-Some.is ∙ number)
