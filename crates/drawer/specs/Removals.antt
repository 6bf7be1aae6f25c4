-- The removals of a site, in the drawn order. Assumes nothing.
use Rattle.std.specs.Prelude.{◌≡◌, ℕ, ◌<◌, List, map, slice_index, slice_index_or}
use Rattle.std.specs.List.{range_with_len}
use Rattle.cores.specs.Site.{Site}
use Rattle.cores.specs.Numbers.{hears}
use Rattle.cores.specs.Drawing.{drawn, left, left_at, IsNext}
use Rattle.drawer.specs.declared.removal.Removal.{Removal}

-- the removals of all stations: at each place of the drawn order, the station there and how many neighbours it has left
unfoldable pub removals_of : Site → List Removal
removals_of g = map (λ i. record { station = slice_index (drawn g) i; left = left_at g (drawn g) i }) (range_with_len 0 g.size)

-- A removal is in turn at place i: of those that the first i removals leave, it takes the next one, with the neighbours that it has among them.
pub record InTurn (g : Site) (removals : List Removal) (i : ℕ) (r : Removal) : Type 0 where
  pub next : IsNext g (left (map (λ r. r.station) removals) i) r.station
  pub neighbours : r.left ≡ hears g (left (map (λ r. r.station) removals) i) r.station

-- Each station is removed once, in the drawn order, and each removal is in turn.
abbrev pub StationsAreRemovedInTurn : Type 0
StationsAreRemovedInTurn = (g : Site)
    → (map (λ r. r.station) (removals_of g) ≡ drawn g)
    × ((i : ℕ) (d : Removal) → i < g.size → InTurn g (removals_of g) i (slice_index_or (removals_of g) i d))
