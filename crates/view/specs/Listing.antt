-- The tables of links that a listing holds. Assumes nothing.
use Rattle.std.specs.Prelude.{ℕ, ◌+◌, ◌-◌, Bool, cond, not, ◌&&◌, ◌||◌, leb, List, [], length, is_some, Option, ◌==◌, nat_le, nat_lt, slice_index, slice_index_or}
use Rattle.std.specs.List.{between}
use Rattle.cores.specs.Counting.{all, some, lowest, holds}
use Rattle.cores.specs.Site.{Site}
use Rattle.view.specs.declared.listed.Listing.{Listing}

-- Links as two lists: the neighbours of station s are the ends from place `starts[s]` to just before `starts[s + 1]`.
pub record Lists : Type 0 where
  pub starts : List ℕ
  pub ends : List ℕ

-- what a listing holds
abbrev pub lists : Listing → Lists
lists listing = record { starts = listing.starts.now; ends = listing.ends.now }

-- how many stations there are: each has a start, and one more start ends the last row
abbrev pub stations : Lists → ℕ
stations l = length l.starts - 1

-- is no start below the one before
unfoldable pub never_falls : Lists → Bool
never_falls l = all (stations l) (λ s. leb (slice_index l.starts s) (slice_index l.starts (s + 1)))

-- there is a first start and it is 0, starts never fall, and the last is the length of the ends
unfoldable pub shaped : Lists → Bool
shaped l =
    nat_lt 0 (length l.starts) && slice_index l.starts 0 == 0 && never_falls l && slice_index l.starts (stations l) == length l.ends

-- the row of station s; a station off the site has none
unfoldable pub row : Lists → ℕ → List ℕ
row l s = cond (nat_lt s (stations l)) (between (slice_index l.starts s) (slice_index l.starts (s + 1)) l.ends) []

-- station s cannot have t as a neighbour: t is s itself, is not on the site, or does not list s in return
abbrev pub no_neighbour : Lists → ℕ → ℕ → Bool
no_neighbour l s t = (t == s) || nat_le (stations l) t || not (holds (row l t) s)

-- An entry t of the row of s is bad if s cannot have t as a neighbour, or t is not above the entry before it.
abbrev pub bad_entry : Lists → ℕ → ℕ → Bool
bad_entry l s place =
    let t = slice_index_or (row l s) place 0 in
    no_neighbour l s t || (nat_lt 0 place && nat_le t (slice_index (row l s) (place - 1)))

-- a row is bad if some entry of it is
unfoldable pub bad_row : Lists → ℕ → Bool
bad_row l s = some (length (row l s)) (bad_entry l s)

-- the lowest bad row, if there is one
abbrev pub lowest_bad_row : Lists → Option ℕ
lowest_bad_row l = lowest (stations l) (bad_row l)

-- lists of the right shape without a bad row
unfoldable pub sound : Lists → Bool
sound l = shaped l && not (is_some (lowest_bad_row l))

-- the site of two lists: s and t are linked if t stands in the row of s
abbrev pub site_of : Lists → Site
site_of l = record { size = stations l; linked = λ s t. holds (row l s) t }
