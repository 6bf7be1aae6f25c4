-- Peeling: at each turn the least removal of the table is that of the next station of the drawn order.
use Rattle.std.proofs.Common.{◌≡◌, ℕ, ◌+◌, ◌<◌, ◌≤◌, true, false, ◌&&◌, ltb, Some, None, Option, All, List, ◌++◌, length, get_or, take, drop, refl, sym, ap, ap₂, ◌∙◌, subst, inl, inr, le_antisymm, arith}
use mathlib.Core.Path.{fun_ext}
use Rattle.std.proofs.lemmas.Bool.{both_ways, cases_lt}
use Rattle.std.proofs.lemmas.Bool.Decides.{nat_tests}
use Rattle.std.proofs.lemmas.List.{take_all, take_at}
use Rattle.std.proofs.lemmas.List.FromFn.{length-map-range_with_len, get_or-map-range_with_len}
use Rattle.cores.specs.Counting.{bit, holds}
use Rattle.cores.specs.Site.{Site}
use Rattle.cores.specs.Numbers.{Group, hears, without}
use Rattle.cores.specs.Drawing.{drawn, left, left_at, IsNext}
use Rattle.cores.proofs.Searches.{by_cases}
use Rattle.cores.proofs.Sums.{once_length}
use Rattle.cores.proofs.Entries.{times_holds}
use Rattle.cores.proofs.Counts.{count_le}
use Rattle.cores.proofs.Numbers.{hears_within}
use Rattle.cores.proofs.Drawing.{drawn_is, next_only}
use Rattle.sheet.proofs.Faults.{unnamed_at, unnamed_first, unnamed_more}
use Rattle.drawer.specs.declared.removal.Removal.{Removal}
use Rattle.drawer.specs.Removals.{removals_of}
use Rattle.drawer.specs.Peeling.{entry, there, Counts, IsLeast, FitsIn}

-- the removal of the station m from X
abbrev pub removal : Site → Group → ℕ → Removal
removal g X m = record { station = m; left = hears g X m }

-- who is there, by a table that has the members of X
pub there_is : (g : Site) (X : Group) (table : List (Option ℕ)) → Counts g X table → there table ≡ X
there_is g X table counted = fun_ext (λ t. let at = counted t in by_cases (X t) (λ x. grind arith) (λ x. grind arith))

module _ (g : Site) where
  -- the stations that are still there when the first i are removed
  abbrev pub remaining : ℕ → Group
  remaining i = unnamed_at g.size (drawn g) i

  pub drawn_length : length (drawn g) ≡ g.size
  drawn_length = once_length g.size (drawn g) (drawn_is g).each_once

  -- those off the site are heard by nobody
  remaining_hears : (i s : ℕ) → hears g (remaining i) s ≡ hears g (left (drawn g) i) s
  unfolding left
  remaining_hears i s = le_antisymm
      (hears_within g (remaining i) (left (drawn g) i) s (λ t h l x. grind (arith, nat_tests)))
      (hears_within g (left (drawn g) i) (remaining i) s (λ t h l x. grind (arith, nat_tests)))

  -- a station that remains is on the site and left
  remaining_parts : (i t : ℕ) → remaining i t ≡ true → (t < g.size) × (left (drawn g) i t ≡ true)
  unfolding left
  remaining_parts i t e = (grind (arith, nat_tests), grind (arith, nat_tests))

  parts_remaining : (i t : ℕ) → t < g.size → left (drawn g) i t ≡ true → remaining i t ≡ true
  unfolding left
  parts_remaining i t h e = grind (arith, nat_tests)

  -- when all places are passed nobody remains
  none_remains : (t : ℕ) → remaining g.size t ≡ false
  unfolding bit
  none_remains t =
      let all : take g.size (drawn g) ≡ drawn g = take_all g.size (drawn g) (omega (arith, drawn_length)) in
      let once = (drawn_is g).each_once t in
      let named : t < g.size → holds (drawn g) t ≡ true = λ h. times_holds (drawn g) t (grind (arith, nat_tests)) in
      grind (arith, nat_tests)

  module _ (i : ℕ) (table : List (Option ℕ)) (low : i ≤ g.size) (counted : Counts g (remaining i) table) where
    entry_there : (t k : ℕ) → entry table t ≡ Some k → (remaining i t ≡ true) × (k ≡ hears g (left (drawn g) i) t)
    entry_there t k e = let at = counted t in let same = remaining_hears i t in (grind arith, grind arith)

    there_entry : (t : ℕ) → t < g.size → left (drawn g) i t ≡ true → entry table t ≡ Some (hears g (left (drawn g) i) t)
    there_entry t h e = let at = counted t in let same = remaining_hears i t in let there = parts_remaining i t h e in grind arith

    -- the least removal is that of the station at place i
    pub least_is_next : (r : Removal) → IsLeast table (Some r)
        → (i < g.size) × (r ≡ removal g (left (drawn g) i) (get_or (drawn g) i 0)) × (r.station < g.size) × (there table r.station ≡ true)
    least_is_next r (_, some) =
        let (here, least) = some r refl in
        let (remains, heard) = entry_there r.station r.left here in
        let (on_site, still_left) = remaining_parts i r.station remains in
        let more : i < g.size = elim (cases_lt i g.size) [ inl less ↦ less | inr more ↦ let end : i ≡ g.size = omega arith in absurd (both_ways (remaining g.size r.station) (none_remains r.station) (rw end at remains)) ] in
        let first : IsNext g (left (drawn g) i) r.station = record {
          on_site = on_site;
          member = still_left;
          fewest = λ t h x. omega (arith, heard, (least t _ (there_entry t h x)).0);
          lowest = λ t h x d. (least t _ (there_entry t h x)).1 (heard ∙ sym d);
        } in
        let at : r.station ≡ get_or (drawn g) i 0 = next_only g (left (drawn g) i) r.station (get_or (drawn g) i 0) first ((drawn_is g).in_turn i (omega (arith, drawn_length))) in
        (more, ap₂ (λ k m. record { left = k; station = m }) (heard ∙ ap (hears g (left (drawn g) i)) at) at, on_site, grind arith)

    -- there is one as long as some are left
    pub none_at_the_end : IsLeast table None → i ≡ g.size
    none_at_the_end (none, _) = elim (cases_lt i g.size) [
      | inl less ↦
          let p = (drawn_is g).in_turn i (omega (arith, drawn_length)) in
          let here = there_entry (get_or (drawn g) i 0) p.on_site p.member in
          let gone = none refl (get_or (drawn g) i 0) in
          absurd (grind arith)
      | inr more ↦ omega arith
    ]

  -- the others remain
  pub others_remain : (i : ℕ) → i < g.size → without (get_or (drawn g) i 0) (remaining i) ≡ remaining (i + 1)
  others_remain i h = unnamed_more g.size (drawn g) i (get_or (drawn g) i 0) (omega (arith, drawn_length)) refl

  pub all_remain : (λ t. ltb t g.size) ≡ remaining 0
  all_remain = unnamed_first g.size (drawn g)

-- the removals by their places
pub removals_length : (g : Site) → length (removals_of g) ≡ g.size
unfolding removals_of
removals_length g = length-map-range_with_len _ 0 g.size

pub removal_at : (g : Site) (i : ℕ) (d : Removal) → i < g.size → get_or (removals_of g) i d ≡ removal g (left (drawn g) i) (get_or (drawn g) i 0)
unfolding removals_of left_at
removal_at g i d h = get_or-map-range_with_len (λ i. removal g (left (drawn g) i) (get_or (drawn g) i 0)) 0 g.size i i d h (omega arith)

-- the table once the station of place i is removed
pub counts_on : (g h : Site) (i : ℕ) (table removed : List (Option ℕ)) (r : Removal) → h ≡ g → i < g.size → r ≡ removal g (left (drawn g) i) (get_or (drawn g) i 0)
    → Counts g (remaining g i) table → Counts h (without r.station (there table)) removed → Counts g (remaining g (i + 1)) removed
counts_on g h i table removed r same more is counted after =
    let others : without r.station (there table) ≡ remaining g (i + 1) = ap₂ without (ap (λ x. x.station) is) (there_is g (remaining g i) table counted) ∙ others_remain g i more in
    rw same at (subst (λ X. Counts h X removed) others after)

-- where no removal is found, none is left
pub no_removal : (table : List (Option ℕ)) (o : Option Removal) → IsLeast table o → ((r : Removal) → o ≡ Some r → ⊥) → IsLeast table None
no_removal table None least none = least
no_removal table (Some r) least none = absurd (none r refl)

-- every removal of a site fits in a table with an entry for each station
pub removals_fit : (g : Site) (table : List ℕ) → g.size ≤ 512 → g.size ≤ length table → All (FitsIn table) (removals_of g)
unfolding hears
removals_fit g table few room i d h =
    let more : i < g.size = omega (arith, removals_length g) in
    let on_site = ((drawn_is g).in_turn i (omega (arith, drawn_length g))).on_site in
    let heard = count_le g.size (λ t. g.linked (get_or (drawn g) i 0) t && left (drawn g) i t) in
    rw (removal_at g i d more) (omega arith, omega arith)

-- the front of the table that was peeled into
pub peeled_front : (g : Site) (n : ℕ) (out old : List Removal) → n ≡ g.size → out ≡ removals_of g ++ drop g.size old → take n out ≡ removals_of g
peeled_front g n out old counted is = ap (take n) is ∙ take_at (removals_of g) (drop g.size old) n (removals_length g ∙ sym counted)
