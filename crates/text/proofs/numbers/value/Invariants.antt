use Rattle.std.proofs.Common.{◌≡◌, ◌-◌, ◌^◌, ◌≤◌, drop}
use Rattle.text.specs.Texts.{value_up_to}
use Rattle.text.proofs.DigitSteps.{value_on}
use Rattle.text.proofs.numbers.value.Given as goal

-- What is left, read on, gives what the whole gives.
abbrev pub invariant-loop-b : goal.invariant-loop-b
invariant-loop-b l = (value_on (2 ^ 64 - 1) l.sum (drop l.b-index l.bytes) ≡ value_up_to (2 ^ 64 - 1) l.bytes) × (l.sum ≤ 2 ^ 64 - 1)
