use Rattle.std.proofs.Common.{sym, refl, ◌∙◌, arith}
use Rattle.text.proofs.TokenSteps.{no_words, next_word}
use Rattle.text.proofs.cut.TokensIterator.next.Goals as goal

pub returns-in_err-start-clause-steps : goal.returns-in_err-start-clause-steps
returns-in_err-start-clause-steps c = rw c.from_residual.ensures (record { done = no_words _ _ (sym c.word_start.ensures ∙ c.in_err-start.was); same = refl })

pub returns-clause-steps : goal.returns-clause-steps
returns-clause-steps c =
    let next = next_word c.args.self.now.line.now c.args.self.now.at c.in_ok-start.field-0 c.until.result (sym c.word_start.ensures ∙ c.in_ok-start.was) c.until.ensures.first in
    record { cut = next.0; shorter = omega arith }
