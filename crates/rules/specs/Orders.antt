-- The law of an order of scores. Assumes nothing.
use Rattle.std.specs.Prelude.{◌≡◌, false}
use Rattle.std.specs.declared.cmp.Ordering.{Ordering}
use Rattle.std.specs.Ordering.{ordering_reverse, is_lt}

-- Of two scores one is below the other, level with it or above it: an ordering is exactly one of the three. Swapped scores give the swapped answer, and
-- not-below carries over.
pub record LawfulOrder {Score : Type 0} (order : Score → Score → Ordering) : Type 0 where
  pub swapped : (a b : Score) → order b a ≡ ordering_reverse (order a b)
  pub carried : (a b c : Score) → is_lt (order a b) ≡ false → is_lt (order b c) ≡ false → is_lt (order a c) ≡ false
