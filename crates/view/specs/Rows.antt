-- What a view shows of a site: a row of neighbours for each station. Assumes nothing.
use Rattle.std.specs.Prelude.{◌≡◌, ℕ, ◌+◌, ◌<◌, List, length, filter, slice_index, Some}
use Rattle.std.specs.List.{range_with_len, slice_get}
use Rattle.cores.specs.Counting.{bit, times}
use Rattle.cores.specs.Site.{Site, Lawful}

-- each entry is above the one before
abbrev pub Rising : List ℕ → Type 0
Rising xs = (i : ℕ) → i + 1 < length xs → slice_index xs i < slice_index xs (i + 1)

-- The law of a view: the site is lawful, and the row of a station lists each of its neighbours exactly once, rising, and nothing else.
pub record Faithful (g : Site) (row : ℕ → List ℕ) : Type 0 where
  pub lawful : Lawful g
  pub once : (s t : ℕ) → times t (row s) ≡ bit (g.linked s t)
  pub rising : (s : ℕ) → Rising (row s)

-- t stands at the place before another; before place 0 there is none, and any t will do
abbrev pub StandsBefore : List ℕ → ℕ → ℕ → Type 0
StandsBefore xs place t = (i : ℕ) → i + 1 ≡ place → slice_get xs i ≡ Some t

-- the neighbours of a station by the links alone, rising
abbrev pub each_neighbour : Site → ℕ → List ℕ
each_neighbour g s = filter (g.linked s) (range_with_len 0 g.size)
