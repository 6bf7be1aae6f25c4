-- What an admitted station count is.
use Rattle.std.proofs.Common.{◌≡◌, ℕ, ◌≤◌, true, Ok, arith}
use Rattle.cores.specs.Site.{sized}
use Rattle.view.specs.Answers.{counted}

pub admitted : (n : ℕ) (u : Unit {0}) → Ok u ≡ counted n → sized n ≡ true
admitted n u h = grind arith

pub sized_within : (n : ℕ) → sized n ≡ true → (1 ≤ n) × (n ≤ 512)
sized_within n h = (grind arith, grind arith)

pub within_sized : (n : ℕ) → 1 ≤ n → n ≤ 512 → sized n ≡ true
within_sized n low high = grind arith
