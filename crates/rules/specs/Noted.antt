-- What stands in a list while the levels of a site are counted into it. Assumes nothing.
use Rattle.std.specs.Prelude.{◌≡◌, ℕ, ◌+◌, ◌<◌, min, max, Bool, List, length, ◌==◌, nat_le, EachIndex, slice_index, slice_index_or}
use Rattle.rules.specs.declared.counts.Counts.{Counts}
use Rattle.cores.specs.Counting.{bit, count}
use Rattle.cores.specs.Site.{Site}
use Rattle.rules.specs.Levels.{links_below, counts_of}

-- A list has f k at each place k.
abbrev pub Holds : (ℕ → Counts) → List Counts → Type 0
Holds f list = (k : ℕ) (d : Counts) → k < length list → slice_index_or list k d ≡ f k

-- A list has a place for each number of a table.
abbrev pub HasRoom : List ℕ → List Counts → Type 0
HasRoom numbers list = EachIndex numbers (λ s. slice_index numbers s < length list)

-- is k the smaller of the numbers that s and t have by c
abbrev pub is_smaller : (ℕ → ℕ) → ℕ → ℕ → ℕ → Bool
is_smaller c k s t = min (c s) (c t) == k

-- is it the greater
abbrev pub is_greater : (ℕ → ℕ) → ℕ → ℕ → ℕ → Bool
is_greater c k s t = max (c s) (c t) == k

-- what is noted at k of the stations below n, by the numbers c: how many have k, how many links have it as the smaller
-- number of their ends, and, in the place of the boundary, how many have it as the greater one
abbrev pub noted : Site → (ℕ → ℕ) → ℕ → ℕ → Counts
noted g c n k = record {
  members = count n (λ s. c s == k);
  inside = links_below g n (is_smaller c k);
  boundary = links_below g n (is_greater c k);
}

-- what stands at k where x stood, with a link between the numbers a and b too
abbrev pub with_link : ℕ → ℕ → ℕ → Counts → Counts
with_link a b k x = record {
  members = x.members;
  inside = x.inside + bit (min a b == k);
  boundary = x.boundary + bit (max a b == k);
}

-- the counts of the stations that have k or more by the numbers c
abbrev pub counts_from : Site → (ℕ → ℕ) → ℕ → Counts
counts_from g c k = counts_of g (λ s. nat_le k (c s))
