-- What a roll has still to name, once it names a station or does not.
use Rattle.std.proofs.Common.{◌≡◌, ℕ, ◌<◌, ◌≤◌, Bool, true, false, not, ◌&&◌, ltb, List, length, get_or, set, inl, inr, arith, get_or-set_other, get_or-set_same}
use mathlib.Core.Path.{fun_ext}
use Rattle.std.proofs.lemmas.Bool.{cases_eq}
use Rattle.std.proofs.lemmas.Bool.Decides.{nat_tests}
use Rattle.cores.specs.Numbers.{Group, without}

-- the numbers below count that are not marked
abbrev pub unmarked : ℕ → List Bool → Group
unmarked count marks t = ltb t count && not (get_or marks t false)

pub without_marked : (count s place : ℕ) (marks : List Bool) → place ≡ s → count ≤ length marks → unmarked count marks s ≡ true → unmarked count (set marks place true) ≡ without s (unmarked count marks)
unfolding without
without_marked count s place marks same few fits = fun_ext (λ t. elim (cases_eq t place) [
  | inl d ↦ let here = get_or-set_same marks place true false (let low : s < count = grind (arith, nat_tests) in omega arith) in rw d (grind (arith, nat_tests))
  | inr d ↦ let there = get_or-set_other marks place t true false d in grind (arith, nat_tests)
])

pub without_none : (s : ℕ) (X : Group) → X s ≡ false → X ≡ without s X
unfolding without
without_none s X e = fun_ext (λ t. grind (arith, nat_tests))
