-- When a table is current. Assumes nothing.
use Rattle.std.specs.Prelude.{◌≡◌, ℕ, ◌≤◌, Bool, ◌&&◌, ◌||◌, List, ◌==◌, nat_le, nat_lt, count_by, slice_index}
use Rattle.cores.specs.Numbers.{number}
use Rattle.book.specs.declared.table.Table.{Table}
use Rattle.book.specs.Tables.{Links, links, numbers, places, row, site_of, Sound}

-- does t stand later than s by the numbers c and the places p: its number is greater, or it is the same and its place is not ahead
abbrev pub stands_later : List ℕ → List ℕ → ℕ → ℕ → Bool
stands_later c p s t =
    nat_lt (slice_index c s) (slice_index c t) || (slice_index c s == slice_index c t && nat_le (slice_index p s) (slice_index p t))

-- how many neighbours of a station stand later
abbrev pub later : Links → List ℕ → List ℕ → ℕ → ℕ
later l c p s = count_by (stands_later c p s) (row l s)

-- The order bears the numbers out: no station has more neighbours that stand later than its number says.
abbrev pub BearsOut : Links → List ℕ → List ℕ → Type 0
BearsOut l c p = (s : ℕ) → later l c p s ≤ slice_index c s

-- A table is current: its links are sound, each number is the core number on the site that they mean, and the order bears the numbers out.
pub record Current (table : Table) : Type 0 where
  pub sound : Sound (links table)
  pub right : (s : ℕ) → slice_index (numbers table) s ≡ number (site_of (links table)) s
  pub bears_out : BearsOut (links table) (numbers table) (places table)
