-- What a call of the drawer writes, or why it writes nothing.
use Rattle.std.proofs.Common.{◌≡◌, ℕ, ◌≤◌, List, length, Ok, Err, arith}
use Rattle.std.proofs.lemmas.Bool.Decides.{nat_tests}
use Rattle.refusals.specs.declared.Refusal.{Refusal}
use Rattle.cores.specs.Site.{Site}
use Rattle.view.proofs.Admitted.{sized_within}
use Rattle.drawer.specs.Calls.{written_for, stations_for}

module _ {A : Type 0} (g : Site) (room : ℕ) (xs : List A) (long : length xs ≡ g.size) where
  -- the table is taken, and all is written
  pub taken : (n : ℕ) → Ok n ≡ stations_for g room → (n ≡ g.size) × (g.size ≤ 512) × (g.size ≤ room) × (written_for g room xs ≡ Ok xs)
  taken n e = (grind (arith, nat_tests), (sized_within g.size (grind (arith, nat_tests))).1, grind (arith, nat_tests), grind (arith, nat_tests))

  -- it is not, and nothing is
  pub refused : (e : Refusal) → Err e ≡ stations_for g room → written_for g room xs ≡ Err e
  refused e h = grind (arith, nat_tests)
