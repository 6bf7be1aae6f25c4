-- The rows of bits that a grid holds. Assumes nothing.
use Rattle.std.specs.Prelude.{ℕ, ◌+◌, ◌*◌, Bool, not, ◌&&◌, ◌||◌, List, length, is_some, Option, ◌==◌, nat_le}
use Rattle.std.specs.Int.{div_ceil}
use Rattle.std.specs.List.{between}
use Rattle.cores.specs.Counting.{some, lowest}
use Rattle.cores.specs.Site.{Site}
use Rattle.view.specs.declared.square.Grid.{Grid}
use Rattle.view.specs.Bits.{one_at}

-- Links as rows of bits, one row for each station, each of as many bytes.
pub record Bitmap : Type 0 where
  pub stations : ℕ
  pub bytes : List ℕ

-- what a grid holds
abbrev pub bitmap : Grid → Bitmap
bitmap grid = record { stations = grid.stations; bytes = grid.bytes.now }

-- how many bytes a row of n bits takes: n/8 rounded up
unfoldable pub row_length : ℕ → ℕ
row_length n = div_ceil n 8

-- are there as many bytes as the rows take
unfoldable pub shaped : Bitmap → Bool
shaped b = length b.bytes == b.stations * row_length b.stations

-- the bytes of the row of station s
unfoldable pub row_bytes : Bitmap → ℕ → List ℕ
row_bytes b s = let from = s * row_length b.stations in between from (from + row_length b.stations) b.bytes

-- does row s say that s and t are linked, in bit t mod 8 of its byte t div 8
unfoldable pub cell : Bitmap → ℕ → ℕ → Bool
cell b s t = one_at (row_bytes b s) t

-- station s cannot have t as a neighbour: t is s itself, is not on the site, so that its bit is spare, or does not have s in return
abbrev pub no_neighbour : Bitmap → ℕ → ℕ → Bool
no_neighbour b s t = (t == s) || nat_le b.stations t || not (cell b t s)

-- a row is bad if it has a bit set for what cannot be a neighbour
unfoldable pub bad_row : Bitmap → ℕ → Bool
bad_row b s = some (8 * row_length b.stations) (λ t. cell b s t && no_neighbour b s t)

-- the lowest bad row, if there is one
abbrev pub lowest_bad_row : Bitmap → Option ℕ
lowest_bad_row b = lowest b.stations (bad_row b)

-- rows of the right shape for at most 512 stations, none of them bad
unfoldable pub sound : Bitmap → Bool
sound b = nat_le b.stations 512 && shaped b && not (is_some (lowest_bad_row b))

-- the site of rows of bits: s and t are linked if the row of s says so
abbrev pub site_of : Bitmap → Site
site_of b = record { size = b.stations; linked = cell b }
