use Rattle.std.proofs.Common.{Err, sym, ap, ◌∙◌}
use Rattle.std.proofs.lemmas.Result.{err_from_is_err_and}
use Rattle.survey.specs.Reached.{answered}
use Rattle.survey.proofs.Numerals.{answered_on, numbers_off, numbers_none}
use Rattle.survey.proofs.line.Line.check_numbers.Goals as goal

pub loop-token-preserved : goal.loop-token-preserved
loop-token-preserved c = sym (answered_on c.args.self.now.number c.in-Some.ensures.steps.cut c.in_ok-number_in.field-0 (sym c.number_in.ensures ∙ c.in_ok-number_in.was)) ∙ c.loop-token.invariant

pub returns-in_err-number_in : goal.returns-in_err-number_in
returns-in_err-number_in c =
    let e = err_from_is_err_and c.from_residual.result c.from_residual.ensures.1 in
    let off = numbers_off c.args.self.now.number c.in-Some.ensures.steps.cut c.in_err-number_in.field-0.0 (sym c.number_in.ensures ∙ c.in_err-number_in.was) in
    e.1 ∙ ap Err e.2 ∙ sym off ∙ c.loop-token.invariant

pub returns : goal.returns
returns c = sym (ap answered (numbers_none c.args.self.now.number c.in-None.ensures.steps.done)) ∙ c.loop-token.invariant
