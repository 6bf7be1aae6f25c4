-- The links, the numbers and the places that a table of stations holds. Assumes nothing.
use Rattle.std.specs.Prelude.{◌≡◌, ℕ, ◌≤◌, List, [], map, length, replicate, slice_index_or, slice_set}
use Rattle.cores.specs.Counting.{holds}
use Rattle.cores.specs.Site.{Site}
use Rattle.view.specs.Rows.{Faithful}
use Rattle.book.specs.declared.station.Station.{Station}
use Rattle.book.specs.declared.table.Table.{Table}
use Rattle.book.specs.Stations.{entries}

-- Links as rows: the neighbours of each station there can be.
pub record Links : Type 0 where
  pub stations : ℕ
  pub rows : List (List ℕ)

-- the links that a table holds
abbrev pub links : Table → Links
links table = record { stations = table.count; rows = map entries table.stations }

-- and the numbers
abbrev pub numbers : Table → List ℕ
numbers table = map (λ (station : Station). station.number) table.stations

-- and the places at which its stations stand
abbrev pub places : Table → List ℕ
places table = table.order.places

-- the row of a station; none if it has no record
abbrev pub row : Links → ℕ → List ℕ
row l s = slice_index_or l.rows s []

-- no links between n stations
abbrev pub unlinked : ℕ → Links
unlinked n = record { stations = n; rows = replicate 512 [] }

-- links with another row for one station
abbrev pub with_row : Links → ℕ → List ℕ → Links
with_row l s xs = record { stations = l.stations; rows = slice_set l.rows s xs }

-- the site of some links: s and t are linked if t stands in the row of s
abbrev pub site_of : Links → Site
site_of l = record { size = l.stations; linked = λ s t. holds (row l s) t }

-- At most 512 stations, and rows of at most 32 neighbours that show a lawful site: each lists the neighbours of its station, rising.
pub record Sound (l : Links) : Type 0 where
  pub few : l.stations ≤ 512
  pub records : length l.rows ≡ 512
  pub room : (s : ℕ) → length (row l s) ≤ 32
  pub faithful : Faithful (site_of l) (row l)
