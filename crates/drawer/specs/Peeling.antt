-- What the table of the remaining stations holds. Assumes nothing.
use Rattle.std.specs.Prelude.{◌≡◌, ℕ, ◌<◌, ◌≤◌, ◌==◌, Bool, false, List, [], cond, is_some, Some, None, Option, length, slice_index_or}
use Rattle.std.specs.Option.{ForNone, ForSome}
use Rattle.cores.specs.Site.{Site}
use Rattle.cores.specs.Numbers.{Group, hears}
use Rattle.drawer.specs.declared.stations.StationSet.{StationSet}
use Rattle.drawer.specs.Stations.{is_in}
use Rattle.drawer.specs.declared.removal.Removal.{Removal}

-- what a table says of a station: how many neighbours it has left, if it is there
abbrev pub entry : List (Option ℕ) → ℕ → Option ℕ
entry table t = slice_index_or table t None

-- the stations that are there
abbrev pub there : List (Option ℕ) → Group
there table t = is_some (entry table t)

-- A table has the members of X, each with how many neighbours it has in X.
abbrev pub Counts : Site → Group → List (Option ℕ) → Type 0
Counts g X table = (t : ℕ) → entry table t ≡ cond (X t) (Some (hears g X t)) None

-- A removal is to be done no later than that of another station, with so many neighbours left.
abbrev pub NoLater : Removal → ℕ → ℕ → Type 0
NoLater r left station = (r.left ≤ left) × (r.left ≡ left → r.station ≤ station)

-- The least removal of a table, or none where nobody is there.
abbrev pub IsLeast : List (Option ℕ) → Option Removal → Type 0
IsLeast table least = ForNone least ((t : ℕ) → entry table t ≡ None)
    × ForSome least (λ r. (entry table r.station ≡ Some r.left) × ((t k : ℕ) → entry table t ≡ Some k → NoLater r k t))

-- does a table's entry say k
abbrev pub says : ℕ → Option ℕ → Bool
says k None = false
says k (Some j) = j == k

-- the set at k of a list of sets; where the list ends, one without a station
abbrev pub set_at : List StationSet → ℕ → StationSet
set_at sets k = slice_index_or sets k (record { words = [] })

-- Every set has the stations for which a table says its count.
abbrev pub SortedByLeft : List (Option ℕ) → List StationSet → Type 0
SortedByLeft table sets = (k t : ℕ) → is_in (set_at sets k) t ≡ says k (entry table t)

-- Every count of a table is from one number to before another.
abbrev pub CountsWithin : ℕ → ℕ → List (Option ℕ) → Type 0
CountsWithin from to table = (t j : ℕ) → entry table t ≡ Some j → (from ≤ j) × (j < to)

-- A removal fits in a table: its station has an entry there, which can hold the neighbours left.
abbrev pub FitsIn : List ℕ → Removal → Type 0
FitsIn table r = (r.station < length table) × (r.left < 65536)
