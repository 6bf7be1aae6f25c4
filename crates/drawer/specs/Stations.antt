-- Which stations a set has. Assumes nothing.
use Rattle.std.specs.Prelude.{◌≡◌, ℕ, ◌/◌, ◌%◌, ◌≤◌, true, false, Option, slice_index_or}
use Rattle.std.specs.Option.{ForNone, ForSome}
use Rattle.cores.specs.Numbers.{Group}
use Rattle.view.specs.Bits.{bit_set}
use Rattle.drawer.specs.declared.stations.StationSet.{StationSet}

-- the stations of a set: sixty-four in each word, the lowest at bit 0
abbrev pub is_in : StationSet → Group
is_in set t = bit_set (slice_index_or set.words (t / 64) 0) (t % 64)

-- The lowest station of a group, or none where nobody is in it.
abbrev pub IsFirst : Group → Option ℕ → Type 0
IsFirst X first = ForNone first ((t : ℕ) → X t ≡ false) × ForSome first (λ s. (X s ≡ true) × ((t : ℕ) → X t ≡ true → s ≤ t))
