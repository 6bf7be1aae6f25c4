use Rattle.std.proofs.Common.{◌≡◌, ℕ, ◌≤◌, false, ltb, replicate, inl, inr, arith}
use mathlib.Core.Path.{fun_ext}
use Rattle.std.proofs.lemmas.Bool.{cases_lt}
use Rattle.std.proofs.lemmas.Bool.Decides.{nat_tests}
use Rattle.std.proofs.lemmas.List.{get_or-replicate}
use Rattle.sheet.proofs.RollLaws.{unmarked}
use Rattle.sheet.proofs.roll.Roll.new.Goals as goal

none_marked : (count : ℕ) → count ≤ 512 → unmarked count (replicate 512 false) ≡ (λ t. ltb t count)
none_marked count few = fun_ext (λ t. elim (cases_lt t count) [
  | inl lt ↦ let clear = get_or-replicate 512 t false false (omega arith) in grind (arith, nat_tests)
  | inr le ↦ grind (arith, nat_tests)
])

pub returns : goal.returns
returns c = none_marked c.args.count c.requires
