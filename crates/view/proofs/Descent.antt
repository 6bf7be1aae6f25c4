-- Homes and ups as the levels are looked at, from the greatest number down.
use Rattle.std.proofs.Common.{◌≡◌, ℕ, zero, suc, ◌+◌, ◌<◌, ◌≤◌, true, false, cond, ◌&&◌, eqb, leb, List, ◌++◌, map, length, get_or, slice_index, drop, replicate, Some, None, Option, sym, refl, ap, ◌∙◌, inl, inr, arith}
use mathlib.Core.Path.{fun_ext}
use Rattle.std.specs.List.{range_with_len}
use Rattle.std.proofs.lemmas.Bool.{cases_lt, cases_eq, le-leb, ne_eqb, cond-true, cond-false}
use Rattle.std.proofs.lemmas.List.{length-append, length-drop, length-replicate, get_or-replicate}
use Rattle.std.proofs.lemmas.Grind.{common_steps}
use Rattle.std.proofs.lemmas.Simd.{map-map}
use Rattle.cores.specs.Counting.{or_else}
use Rattle.cores.specs.Site.{Site}
use Rattle.cores.specs.ByNumbers.{connected_by, core_home_by, home_by, home_below_by, up_by}
use Rattle.cores.proofs.Searches.{by_cases, lowest_below, lowest_absent}
use Rattle.view.specs.Ups.{up_in_table}
use Rattle.view.specs.Forest.{forest_by}
use Rattle.view.specs.Settling.{rewritten, home_at_level, waits, up_at_level}
use Rattle.view.proofs.Written.{Change, rewritten_is, rewritten_unchanged, rewritten_again, rewritten_at}

module _ (g : Site) (c : ℕ → ℕ) where
  -- the home around s at the greatest level below m that has one, but none below k
  pub home_between : ℕ → ℕ → ℕ → Option ℕ
  home_between k zero s = None
  home_between k (suc j) s = cond (leb k j) (or_else (core_home_by g c j s) (home_between k j s)) None

  between_none : (k m s : ℕ) → m ≤ k → home_between k m s ≡ None
  unfolding home_between
  between_none k zero s h = refl
  between_none k (suc j) s h = cond-false (leb k j) _ None (grind arith)

  between_all : (m s : ℕ) → home_between 0 m s ≡ home_below_by g c m s
  unfolding home_between home_below_by
  between_all zero s = refl
  between_all (suc j) s = cond-true (leb 0 j) _ None (le-leb 0 j (omega arith)) ∙ ap (or_else (core_home_by g c j s)) (between_all j s)

  else_else : (a b d : Option ℕ) → or_else a (or_else b d) ≡ or_else (or_else a b) d
  else_else (Some x) b d = refl
  else_else None b d = refl

  else_none : (a : Option ℕ) → or_else a None ≡ a
  else_none (Some x) = refl
  else_none None = refl

  -- one level more
  between_more : (k m s : ℕ) → k < m → home_between k m s ≡ or_else (home_between (k + 1) m s) (core_home_by g c k s)
  unfolding home_between
  between_more k zero s h = absurd (omega arith)
  between_more k (suc j) s h = elim (cases_eq k j) [
    | inl d ↦
        let here = between_none k j s (omega arith) in
        let last = else_none (core_home_by g c k s) in
        rw (← d) (grind arith)
    | inr d ↦
        let below = between_more k j s (omega arith) in
        let regrouped = else_else (core_home_by g c j s) (home_between (k + 1) j s) (core_home_by g c k s) in
        grind arith
  ]

  -- what is found is on the site
  core_home_on_site : (k s h : ℕ) → core_home_by g c k s ≡ Some h → h < g.size
  unfolding core_home_by
  core_home_on_site k s h e = lowest_below g.size (λ t. eqb (c t) k && connected_by g c k s t) h e

  else_on_site : (h : ℕ) (a b : Option ℕ) → (a ≡ Some h → h < g.size) → (b ≡ Some h → h < g.size) → or_else a b ≡ Some h → h < g.size
  else_on_site h (Some x) b p q e = p e
  else_on_site h None b p q e = q e

  between_on_site : (k m s h : ℕ) → home_between k m s ≡ Some h → h < g.size
  unfolding home_between
  between_on_site k zero s h e = absurd (cc)
  between_on_site k (suc j) s h e = elim (cases_lt j k) [
    | inl low ↦ absurd (grind arith)
    | inr high ↦ else_on_site h (core_home_by g c j s) (home_between k j s) (core_home_on_site j s h) (between_on_site k j s h)
        (sym (cond-true (leb k j) _ None (le-leb k j high)) ∙ e)
  ]

  -- a level without stations has no homes
  no_core_home : (k s : ℕ) → ((t : ℕ) → t < g.size → c t ≡ k → ⊥) → core_home_by g c k s ≡ None
  unfolding core_home_by
  no_core_home k s none = lowest_absent g.size (λ t. eqb (c t) k && connected_by g c k s t) (λ t h. let other = none t h in grind arith)

  -- homes from a level on
  abbrev pub homes_from : ℕ → Change
  homes_from k s h = cond (leb k (c s)) (home_by g c s) h

  homes_level : (k s h : ℕ) → home_at_level g c k s (homes_from (k + 1) s h) ≡ homes_from k s h
  homes_level k s h = grind arith

  homes_start : (k s h : ℕ) → c s < k → homes_from k s h ≡ h
  homes_start k s h low = cond-false (leb k (c s)) _ h (grind arith)

  homes_end : (s h : ℕ) → homes_from 0 s h ≡ home_by g c s
  homes_end s h = cond-true (leb 0 (c s)) _ h (le-leb 0 (c s) (omega arith))

  -- ups to a level or more
  pub up_from : ℕ → ℕ → Option ℕ
  up_from k s = cond (eqb (home_by g c s) s) (home_between k (c s) s) None

  abbrev pub ups_from : ℕ → Change
  ups_from k s u = up_in_table (up_from k s)

  up_end : (s : ℕ) → up_from 0 s ≡ up_by g c s
  unfolding up_from up_by
  up_end s = ap (λ o. cond (eqb (home_by g c s) s) o None) (between_all (c s) s)

  up_own : (k s : ℕ) → eqb (home_by g c s) s ≡ true → up_from k s ≡ home_between k (c s) s
  unfolding up_from
  up_own k s own = cond-true (eqb (home_by g c s) s) (home_between k (c s) s) None own

  up_other : (k s : ℕ) → eqb (home_by g c s) s ≡ false → up_from k s ≡ None
  unfolding up_from
  up_other k s other = cond-false (eqb (home_by g c s) s) (home_between k (c s) s) None other

  up_start : (k s : ℕ) → c s ≤ k → up_from k s ≡ None
  unfolding up_from
  up_start k s low = let none = between_none k (c s) s low in grind arith

  module _ (few : g.size ≤ 512) (homes : List ℕ) (k s : ℕ) (right : k ≤ c s → get_or homes s 0 ≡ home_by g c s) where
    ups_waiting : k < c s → eqb (home_by g c s) s ≡ true → (o : Option ℕ) → home_between (k + 1) (c s) s ≡ o
        → up_at_level g c k homes s (up_in_table o) ≡ up_in_table (or_else o (core_home_by g c k s))
    ups_waiting above own (Some h) e =
        let on = between_on_site (k + 1) (c s) s h e in
        let had : eqb h 65535 ≡ false = ne_eqb h 65535 (λ d. omega arith) in
        cond-false (waits c k homes s h) (up_in_table (core_home_by g c k s)) h (grind arith)
    ups_waiting above own None e =
        let home = right (omega arith) in
        cond-true (waits c k homes s 65535) (up_in_table (core_home_by g c k s)) 65535 (grind arith)

    unchanged : waits c k homes s 65535 ≡ false → up_from (k + 1) s ≡ None → up_from k s ≡ None → (u : ℕ) → up_at_level g c k homes s (ups_from (k + 1) s u) ≡ ups_from k s u
    unchanged still before after u = rw (before, after) (cond-false (waits c k homes s 65535) (up_in_table (core_home_by g c k s)) 65535 still)

    pub ups_level : (u : ℕ) → up_at_level g c k homes s (ups_from (k + 1) s u) ≡ ups_from k s u
    ups_level u = elim (cases_lt k (c s)) [
      | inl above ↦ by_cases (eqb (home_by g c s) s)
          (λ own.
          ap (λ o. up_at_level g c k homes s (up_in_table o)) (up_own (k + 1) s own)
          ∙ ups_waiting above own (home_between (k + 1) (c s) s) refl
          ∙ ap up_in_table (sym (between_more k (c s) s above) ∙ sym (up_own k s own)))
          (λ own. let home = right (omega arith) in unchanged (grind arith) (up_other (k + 1) s own) (up_other k s own) u)
      | inr below ↦ unchanged (grind arith) (up_start (k + 1) s (omega arith)) (up_start k s below) u
    ]

-- the tables of a site by a table of numbers
module _ (g : Site) (numbers : List ℕ) where
  -- a level without stations changes nothing
  pub homes_skipped : (k n : ℕ) (old : List ℕ) → n ≤ g.size → n ≤ length old → ((s : ℕ) → s < g.size → get_or numbers s 0 ≡ k → ⊥)
      → old ≡ rewritten n (home_at_level g (slice_index numbers) k) old
  homes_skipped k n old on l none = rewritten_unchanged n (home_at_level g (slice_index numbers) k) old l
      (λ s h. cond-false (eqb (get_or numbers s 0) k) (home_by g (slice_index numbers) s) (get_or old s 0) (ne_eqb _ _ (none s (omega arith))))

  pub ups_skipped : (k n : ℕ) (homes old : List ℕ) → n ≤ length old → ((s : ℕ) → s < g.size → get_or numbers s 0 ≡ k → ⊥)
      → old ≡ rewritten n (up_at_level g (slice_index numbers) k homes) old
  ups_skipped k n homes old l none = rewritten_unchanged n (up_at_level g (slice_index numbers) k homes) old l
      (λ s h. let no_home = no_core_home g (slice_index numbers) k s none in grind arith)

  -- from one level to the next
  pub homes_down : (k : ℕ) (old homes : List ℕ) → g.size ≤ length old → homes ≡ rewritten g.size (homes_from g (slice_index numbers) (k + 1)) old
      → (new : List ℕ) → new ≡ rewritten g.size (home_at_level g (slice_index numbers) k) homes → new ≡ rewritten g.size (homes_from g (slice_index numbers) k) old
  homes_down k old homes l before new is =
      let c : ℕ → ℕ = slice_index numbers in
      is ∙ rw before (rewritten_again g.size (homes_from g c (k + 1)) (home_at_level g c k) (homes_from g c k) old l (λ s h. homes_level g c k s (get_or old s 0)))

  pub ups_down : (k : ℕ) → g.size ≤ 512 → (old_homes old ups : List ℕ) → g.size ≤ length old → ups ≡ rewritten g.size (ups_from g (slice_index numbers) (k + 1)) old
      → (homes new : List ℕ) → homes ≡ rewritten g.size (homes_from g (slice_index numbers) k) old_homes
      → new ≡ rewritten g.size (up_at_level g (slice_index numbers) k homes) ups → new ≡ rewritten g.size (ups_from g (slice_index numbers) k) old
  ups_down k few old_homes old ups l before homes new homes_are is =
      let c : ℕ → ℕ = slice_index numbers in
      let at_home = λ (s : ℕ) (h : s < g.size) (o : k ≤ c s).
      ap (λ hs. get_or hs s 0) homes_are ∙ rewritten_at g.size (homes_from g c k) old_homes s h
      ∙ cond-true (leb k (c s)) (home_by g c s) (get_or old_homes s 0) (le-leb _ _ o) in
      is ∙ rw before (rewritten_again g.size (ups_from g c (k + 1)) (up_at_level g c k homes) (ups_from g c k) old l
      (λ s h. ups_level g c few homes k s (at_home s h) (get_or old s 0)))

  -- before the levels, and after them
  module _ (few : (s : ℕ) → s < g.size → s < length numbers) (old : List ℕ) (l : g.size ≤ length old) where
    pub no_homes_yet : (k : ℕ) → ((s : ℕ) → s < length numbers → get_or numbers s 0 < k) → old ≡ rewritten g.size (homes_from g (slice_index numbers) k) old
    no_homes_yet k low = rewritten_unchanged g.size (homes_from g (slice_index numbers) k) old l
        (λ s h. homes_start g (slice_index numbers) k s (get_or old s 0) (low s (few s h)))

    pub no_ups_yet : (k : ℕ) → ((s : ℕ) → s < length numbers → get_or numbers s 0 < k)
        → replicate g.size 65535 ++ drop g.size old ≡ rewritten g.size (ups_from g (slice_index numbers) k) old
    no_ups_yet k low =
        let long = length-replicate {A = ℕ} g.size 65535 in
        let none = λ (s : ℕ) (h : s < g.size). up_start g (slice_index numbers) k s (omega (arith, low s (few s h))) in
        rewritten_is g.size (ups_from g (slice_index numbers) k) old (replicate g.size 65535 ++ drop g.size old) l
        (omega (arith, long, length-append (replicate g.size 65535) (drop g.size old), length-drop g.size old))
        (λ s h. let at = get_or-replicate {A = ℕ} g.size s 65535 0 h in let no_up = none s h in grind (arith, common_steps))
        (λ s h. grind (arith, common_steps))

  pub homes_done : (old : List ℕ) → rewritten g.size (homes_from g (slice_index numbers) 0) old ≡ (forest_by g numbers).homes ++ drop g.size old
  unfolding rewritten forest_by
  homes_done old = ap (λ f. map f (range_with_len 0 g.size) ++ drop g.size old) (fun_ext (λ s. homes_end g (slice_index numbers) s (get_or old s 0)))

  pub ups_done : (old : List ℕ) → rewritten g.size (ups_from g (slice_index numbers) 0) old ≡ map up_in_table (forest_by g numbers).ups ++ drop g.size old
  unfolding rewritten forest_by
  ups_done old =
      ap (λ f. map f (range_with_len 0 g.size) ++ drop g.size old) (fun_ext (λ s. ap up_in_table (up_end g (slice_index numbers) s)))
      ∙ ap (λ us. us ++ drop g.size old) (sym (map-map up_in_table (up_by g (slice_index numbers)) (range_with_len 0 g.size)))
