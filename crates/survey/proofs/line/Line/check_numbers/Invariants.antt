use Rattle.std.proofs.Common.{◌≡◌}
use Rattle.text.specs.Cursors.{tokens_left}
use Rattle.survey.specs.Surveys.{numbers}
use Rattle.survey.specs.Reached.{answered}
use Rattle.survey.proofs.line.Line.check_numbers.Given as goal

-- The words that are left decide.
abbrev pub invariant-loop-token : goal.invariant-loop-token
invariant-loop-token l = answered (numbers l.self.number (tokens_left l.token-iterator)) ≡ answered (numbers l.self.number (tokens_left l.fn.words))
