-- How numbers follow a change of links, station by station. Assumes nothing.
use Rattle.std.specs.Prelude.{◌≡◌, ◌⊎◌, ℕ, ◌+◌, ◌<◌, ◌≤◌, Bool, true, false, ◌&&◌, List, ◌==◌, nat_le, nat_lt, count_by, length, drop, slice_index}
use Rattle.cores.specs.Counting.{bit, times, holds}
use Rattle.cores.specs.Site.{Site}
use Rattle.cores.specs.Numbers.{number}
use Rattle.book.specs.Tables.{Links, row, site_of, Sound}
use Rattle.book.specs.Current.{later, BearsOut}

-- how many neighbours of a station have k or more by the numbers c
abbrev pub support : Links → List ℕ → ℕ → ℕ → ℕ
support l c k s = count_by (λ t. nat_le k (slice_index c t)) (row l s)

-- has a station of number k fewer than k neighbours that have k or more
unfoldable pub falls : Links → List ℕ → ℕ → ℕ → Bool
falls l c k s = slice_index c s == k && nat_lt (support l c k s) k

-- has a station of number k more than k neighbours that stand later
unfoldable pub rises : Links → List ℕ → List ℕ → ℕ → ℕ → Bool
rises l c p k s = slice_index c s == k && nat_lt k (later l c p s)

-- is t in the row of s
abbrev pub in_row : Links → ℕ → ℕ → Bool
in_row l s t = holds (row l s) t

-- is t in the row of s, and at a place that is not ahead
abbrev pub in_row_behind : Links → List ℕ → ℕ → ℕ → Bool
in_row_behind l p s t = holds (row l s) t && nat_le (slice_index p s) (slice_index p t)

-- does a list hold t, and stands it at a place or behind it
abbrev pub at_or_behind : List ℕ → ℕ → List ℕ → ℕ → Bool
at_or_behind p place list t = holds list t && nat_le place (slice_index p t)

-- Whoever is to move is still to be looked at: it is listed, or near one noted at place v or later.
pub record Watched (near : ℕ → ℕ → Bool) (moving listed : ℕ → Bool) (noted : List ℕ) (v : ℕ) : Type 0 where
  pub within : v ≤ length noted
  pub seen : (t : ℕ) → moving t ≡ true
      → (listed t ≡ true) ⊎ ((s : ℕ) × (holds (drop v noted) s ≡ true) × (near s t ≡ true))

-- Whoever rises from k is still to be looked at, and so is whoever falls from it.
abbrev pub RisersWatched : Links → ℕ → List ℕ → List ℕ → (ℕ → Bool) → List ℕ → ℕ → Type 0
RisersWatched l k c p = Watched (in_row_behind l p) (rises l c p k)

abbrev pub FallersWatched : Links → ℕ → List ℕ → (ℕ → Bool) → List ℕ → ℕ → Type 0
FallersWatched l k c = Watched (in_row l) (falls l c k)

-- Each number is right for a site, or else it is k and one too high.
abbrev pub AtMostOneHigh : Site → ℕ → List ℕ → Type 0
AtMostOneHigh g k c = (s : ℕ) → (slice_index c s ≡ number g s) ⊎ ((s < g.size) × (slice_index c s ≡ k) × (number g s + 1 ≡ k))

-- Numbers on their way down from k: on sound links none is too low, the order bears them out, and whoever is noted has one less
-- than k, and is noted once.
pub record Lowering (l : Links) (k : ℕ) (c p noted : List ℕ) : Type 0 where
  pub sound : Sound l
  pub entries : length c ≡ 512
  pub high : AtMostOneHigh (site_of l) k c
  pub bears_out : BearsOut l c p
  pub fell : (t : ℕ) → times t noted ≤ bit (slice_index c t + 1 == k && nat_lt t l.stations)

-- Numbers on their way up from k: whoever is noted has one more than k, and is noted once.
pub record Raising (l : Links) (k : ℕ) (c noted : List ℕ) : Type 0 where
  pub sound : Sound l
  pub entries : length c ≡ 512
  pub rose : (t : ℕ) → times t noted ≤ bit (slice_index c t == k + 1 && nat_lt t l.stations)

-- By the numbers o before, those noted rose from k, and no other changed.
pub record Raised (k : ℕ) (o c noted : List ℕ) : Type 0 where
  pub risen : (t : ℕ) → holds noted t ≡ true → (slice_index o t ≡ k) × (slice_index c t ≡ k + 1)
  pub others : (t : ℕ) → holds noted t ≡ false → slice_index c t ≡ slice_index o t
