-- Lists that are sound show a lawful site, row by row.
use Rattle.std.specs.Prelude.{◌≡◌, ℕ, suc, ◌+◌, ◌<◌, ◌≤◌, true, false, List, [], ◌∷◌, length, slice_index, refl}
use Rattle.std.proofs.Common.{Less, sym, arith}
use Rattle.std.specs.List.{between}
use Rattle.std.proofs.lemmas.Bool.{false_from_ne_true}
use Rattle.std.specs.Cmp.{nat_cmp_is}
use Rattle.std.proofs.lemmas.Cmp.{nat_cmp_total}
use Rattle.std.proofs.lemmas.Map.Keys.{below_from_sorted, sorted_from_all_adjacent}
use Rattle.cores.specs.Counting.{bit, times, holds}
use Rattle.view.specs.Rows.{Rising, Faithful}
use Rattle.view.specs.Listing.{Lists, stations, row, bad_entry, bad_row, sound, site_of}
use Rattle.view.specs.Tables.{Entry}
use Rattle.cores.proofs.Searches.{same_test, some_at, lowest_at}
use Rattle.cores.proofs.Entries.{holds_times, place_of, held_once, times_none, times_cons}

-- a list that rises step by step rises as a whole
pub rises_far : (xs : List ℕ) → Rising xs → (i j : ℕ) → i < j → j < length xs → slice_index xs i < slice_index xs j
rises_far xs step i j = below_from_sorted xs i j 0 (sorted_from_all_adjacent nat_cmp_total xs 0 (λ k h. sym (nat_cmp_is _ _ Less (step k h))))

-- and so names a number at most once
pub rises_once : (t : ℕ) (xs : List ℕ) → Rising xs → times t xs ≤ 1
unfolding bit
rises_once t [] rising = omega (arith, times_none t)
rises_once t (x ∷ xs) rising =
    let rest = rises_once t xs (λ i h. rises_far (x ∷ xs) rising (suc i) (suc (i + 1)) (omega arith) (omega arith)) in
    let first = times_cons t x xs in
    let later : 0 < times t xs → x < t = λ h. let (k, l, e) = place_of t xs h in let up = rises_far (x ∷ xs) rising 0 (suc k) (omega arith) (omega arith) in omega arith in
    grind arith

-- the row of a station on the site, and of one off it
pub row_in : (ls : Lists) (s : ℕ) → s < stations ls → row ls s ≡ between (slice_index ls.starts s) (slice_index ls.starts (s + 1)) ls.ends
unfolding row
row_in ls s h = grind arith

pub row_out : (ls : Lists) (s : ℕ) → stations ls ≤ s → row ls s ≡ []
unfolding row
row_out ls s h = grind arith

-- a row with a place is that of a station on the site
pub row_on_site : (ls : Lists) (s place : ℕ) → place < length (row ls s) → s < stations ls
unfolding row
row_on_site ls s place h = grind arith

-- what a passed test of an entry says
pub good_entry : (ls : Lists) (s place : ℕ) → bad_entry ls s place ≡ false → Entry ls s place (slice_index (row ls s) place)
good_entry ls s place h = record { other = grind arith; on_site = grind arith; above = grind arith; in_return = grind arith }

module _ (ls : Lists) (ok : sound ls ≡ true) where
  entry : (s place : ℕ) → place < length (row ls s) → Entry ls s place (slice_index (row ls s) place)
  unfolding sound bad_row
  entry s place h =
      let good = lowest_at (stations ls) (bad_row ls) s (grind arith) (row_on_site ls s place h) in
      good_entry ls s place (some_at (length (row ls s)) (bad_entry ls s) place good h)

  -- a linked station is an entry
  linked_entry : (s t : ℕ) → holds (row ls s) t ≡ true → (place : ℕ) × Entry ls s place t
  linked_entry s t h =
      let (place, l, at) = place_of t (row ls s) (holds_times (row ls s) t h) in
      (place, rw at at (entry s place l))

  returned : (s t : ℕ) → holds (row ls s) t ≡ true → holds (row ls t) s ≡ true
  returned s t h = (linked_entry s t h).1.in_return

  rising : (s : ℕ) → Rising (row ls s)
  rising s i h = let up = (entry s (i + 1) h).above in grind arith

  pub faithful : Faithful (site_of ls) (row ls)
  faithful = record {
    lawful = record {
      inside = λ s t h. ((linked_entry t s (returned s t h)).1.on_site, (linked_entry s t h).1.on_site);
      apart = λ s. false_from_ne_true _ (λ y. (linked_entry s s y).1.other refl);
      both_ways = λ s t. same_test (holds (row ls s) t) (holds (row ls t) s) (returned s t) (returned t s);
    };
    once = λ s t. held_once t (row ls s) (rises_once t (row ls s) (rising s));
    rising = rising;
  }
