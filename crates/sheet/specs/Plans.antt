-- Plans: what a sheet says of a site, and which plans are well formed. Assumes nothing.
use Rattle.std.specs.Prelude.{◌≡◌, ◌≢◌, ℕ, ◌<◌, Bool, true, false, not, ◌&&◌, ◌||◌, List, length, take, Some, None, Option, ◌==◌, nat_le, nat_lt, slice_index, slice_index_or}
use Rattle.cores.specs.Counting.{bit, times, holds, lowest}
use Rattle.cores.specs.Site.{sized}
use Rattle.sheet.specs.declared.entry.Entry.{Entry}

-- A plan for n stations: four lists of n entries. The first three have the number, the home and the up of each station, the last an order of the stations.
pub record Plan : Type 0 where
  pub numbers : List ℕ
  pub homes : List ℕ
  pub ups : List (Option ℕ)
  pub order : List ℕ

-- how many stations a plan is for
abbrev pub stations : Plan → ℕ
stations p = length p.numbers

-- do the four lists have equally many entries
abbrev pub has_equal_lengths : Plan → Bool
has_equal_lengths p = length p.homes == stations p && length p.ups == stations p && length p.order == stations p

-- what a plan says of a station
abbrev pub entry : Plan → ℕ → Entry
entry p s = record { number = slice_index p.numbers s; home = slice_index p.homes s; up = slice_index_or p.ups s None }

-- An entry fits station s of n: its number, home and up are below n, and it has an up only if s is its own home.
pub record Fits (n s : ℕ) (e : Entry) : Type 0 where
  pub number : e.number < n
  pub home : e.home < n
  pub up : (u : ℕ) → e.up ≡ Some u → (u < n) × (e.home ≡ s)

-- A plan is well formed: it is for 1 to 512 stations, each entry fits, and the order names each station once and nothing else.
pub record WellFormed (p : Plan) : Type 0 where
  pub counted : sized (stations p) ≡ true
  pub lengths : has_equal_lengths p ≡ true
  pub fits : (s : ℕ) → s < stations p → Fits (stations p) s (entry p s)
  pub each_once : (t : ℕ) → times t p.order ≡ bit (nat_lt t (stations p))

-- is an up at fault, of station s of n with home h
abbrev pub up_at_fault : ℕ → ℕ → ℕ → Option ℕ → Bool
up_at_fault n s h None = false
up_at_fault n s h (Some u) = nat_le n u || not (h == s)

-- is an entry at fault, as that of station s of n
unfoldable pub entry_at_fault : ℕ → ℕ → Entry → Bool
entry_at_fault n s e = nat_le n e.number || nat_le n e.home || up_at_fault n s e.home e.up

-- is place i at fault in an order of n stations: does it hold a station off the site, or one that is named before
unfoldable pub place_at_fault : ℕ → List ℕ → ℕ → Bool
place_at_fault n order i = nat_le n (slice_index order i) || holds (take i order) (slice_index order i)

-- is a plan at fault at i: in the entry of station i, or at place i of its order
abbrev pub at_fault : Plan → ℕ → Bool
at_fault p i = entry_at_fault (stations p) i (entry p i) || place_at_fault (stations p) p.order i

-- the lowest i at which a plan is at fault, if there is one
abbrev pub lowest_fault : Plan → Option ℕ
lowest_fault p = lowest (stations p) (at_fault p)

-- Place i of an order of n stations holds a station of the site that no lower place holds.
pub record Placed (n : ℕ) (order : List ℕ) (i : ℕ) : Type 0 where
  pub on_site : slice_index order i < n
  pub new : (j : ℕ) → j < i → slice_index order j ≢ slice_index order i

-- A plan is without fault at i exactly if its entry fits and its order is as it should be there.
abbrev pub WithoutFaultTheEntryFits : Type 0
WithoutFaultTheEntryFits = (p : Plan) (i : ℕ) → i < length p.order
    → (at_fault p i ≡ false → Fits (stations p) i (entry p i) × Placed (stations p) p.order i)
    × (Fits (stations p) i (entry p i) → Placed (stations p) p.order i → at_fault p i ≡ false)

-- A plan with four lists of 1 to 512 entries is well formed exactly if it is nowhere at fault.
abbrev pub PlansWithoutFaultAreWellFormed : Type 0
PlansWithoutFaultAreWellFormed = (p : Plan) → sized (stations p) ≡ true → has_equal_lengths p ≡ true
    → (lowest_fault p ≡ None → WellFormed p) × (WellFormed p → lowest_fault p ≡ None)
