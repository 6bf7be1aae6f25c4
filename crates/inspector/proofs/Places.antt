-- The place of each station in an order that names each once.
use Rattle.std.proofs.Common.{◌≡◌, ℕ, suc, ◌+◌, ◌<◌, ◌≤◌, ltb, leb, ◌||◌, List, length, get_or, set, drop, get_or-set_same, get_or-set_other, sym, ap, ◌∙◌, inl, inr, le_antisymm, refl, arith, length-drop, drop-cons, ◌-◌, false}
use Rattle.std.proofs.lemmas.Bool.{cases_eq, lt-ltb, ltb-true}
use Rattle.std.proofs.lemmas.List.{get_or-drop, drop_all}
use Rattle.cores.specs.Counting.{bit, times, holds}
use Rattle.cores.specs.Site.{Site}
use Rattle.cores.specs.Orders.{after, falls, at_fault}
use Rattle.cores.specs.Numbers.{Group, hears}
use Rattle.cores.proofs.Searches.{same_test}
use Rattle.cores.proofs.Numbers.{hears_within}
use Rattle.cores.proofs.Entries.{place_of, times_at, holds_times, times_holds, one_place}
use Rattle.cores.proofs.Orders.{after_place}
use Rattle.inspector.specs.Parts.{HasPlaces, CanBeJudged}

-- groups with the same stations of the site are heard alike
hears_same : (g : Site) (X Y : Group) (s : ℕ) → ((t : ℕ) → t < g.size → X t ≡ Y t) → hears g X s ≡ hears g Y s
hears_same g X Y s same = le_antisymm (hears_within g X Y s (λ t h l x. sym (same t h) ∙ x)) (hears_within g Y X s (λ t h l y. same t h ∙ y))

-- the places of the first stations of an order are noted
abbrev pub Noted : List ℕ → List ℕ → ℕ → Type 0
Noted order places i = (j : ℕ) → j < i → get_or places (get_or order j 0) 0 ≡ j

pub noted_none : (order places : List ℕ) → Noted order places 0
noted_none order places j h = absurd (omega arith)

module _ (g : Site) (numbers order : List ℕ) (can : CanBeJudged g numbers order) where
  once : (t : ℕ) → times t order ≤ 1
  unfolding bit
  once t = let at = can.each_once t in grind arith

  pub station_on_site : (i : ℕ) → i < length order → get_or order i 0 < g.size
  unfolding bit
  station_on_site i h = let t = get_or order i 0 in let at = can.each_once t in let stands = times_at t order i h refl in grind arith

  pub noted_more : (places : List ℕ) (i : ℕ) → i < length order → g.size ≤ length places → Noted order places i → (t : ℕ) → t ≡ get_or order i 0 → Noted order (set places t i) (i + 1)
  noted_more places i h room noted t is j l =
      let on_site = station_on_site i h in
      elim (cases_eq (get_or order j 0) t) [
        | inl same ↦ rw same (get_or-set_same places t i 0 (omega (arith, is)) ∙ one_place t order (once t) i j h (omega arith) (sym is) same)
        | inr other ↦
            let before : j < i = (let differs : j ≡ i → ⊥ = λ e. other (rw e (sym is)) in omega arith) in
            get_or-set_other places t (get_or order j 0) i 0 other ∙ noted j before
      ]

  module _ (places : List ℕ) (placed : HasPlaces order places) where
    -- a station stands at its place
    pub stands_there : (t : ℕ) → t < g.size → (get_or places t 0 < length order) × (get_or order (get_or places t 0) 0 ≡ t)
    unfolding bit
    stands_there t h =
        let at = can.each_once t in
        let (i, l, is) = place_of t order (grind arith) in
        let place : get_or places t 0 ≡ i = ap (λ u. get_or places u 0) (sym is) ∙ placed i l in
        rw place (l, is)

    -- what comes after a station stands behind its place
    pub after_its_place : (s : ℕ) → s < g.size → after s order ≡ drop (suc (get_or places s 0)) order
    after_its_place s h =
        let (l, is) = stands_there s h in
        ap (λ u. after u order) (sym is) ∙ after_place order once (get_or places s 0) l

    -- so a station comes after another exactly if its place is greater
    pub comes_after : (s t : ℕ) → s < g.size → t < g.size → holds (after s order) t ≡ ltb (get_or places s 0) (get_or places t 0)
    comes_after s t h k = rw (after_its_place s h) (
        same_test _ _
        (λ e.
        let (j, l, is) = place_of t (drop (suc place) order) (holds_times _ t e) in
        let in_order : get_or order (suc place + j) 0 ≡ t = sym (get_or-drop (suc place) order j 0) ∙ is in
        let here : get_or places t 0 ≡ suc place + j = ap (λ u. get_or places u 0) (sym in_order) ∙ placed (suc place + j) (omega (arith, length-drop (suc place) order)) in
        lt-ltb place (get_or places t 0) (omega arith))
        (λ e.
        let (l, is) = stands_there t k in
        let behind = ltb-true place (get_or places t 0) e in
        let reach : suc place + (get_or places t 0 - suc place) ≡ get_or places t 0 = omega arith in
        times_holds _ t (times_at t (drop (suc place) order) (get_or places t 0 - suc place) (omega (arith, length-drop (suc place) order))
        (get_or-drop (suc place) order (get_or places t 0 - suc place) 0 ∙ ap (λ i. get_or order i 0) reach ∙ is)))
        )
      where
        place : ℕ
        place = get_or places s 0

    -- and the next one stands at the next place
    pub next_falls : (s : ℕ) → s < g.size → get_or places s 0 + 1 < length order
        → ltb (get_or numbers (get_or order (get_or places s 0 + 1) 0) 0) (get_or numbers s 0) ≡ falls (λ t. get_or numbers t 0) s (after s order)
    unfolding falls
    next_falls s h l = rw (after_its_place s h, drop-cons order (suc (get_or places s 0)) 0 (omega arith)) (ap (λ i. ltb (get_or numbers (get_or order i 0) 0) (get_or numbers s 0)) (omega arith))

    pub last_rises : (s : ℕ) → s < g.size → length order ≤ get_or places s 0 + 1 → false ≡ falls (λ t. get_or numbers t 0) s (after s order)
    unfolding falls
    last_rises s h l = rw (after_its_place s h, drop_all (suc (get_or places s 0)) order (omega arith)) refl

    -- whether a station is at fault, by what was counted along its row
    pub fault_by_counts : (s supporting later : ℕ) → s < g.size
        → supporting ≡ hears g (λ t. leb (get_or numbers s 0) (get_or numbers t 0)) s → later ≡ hears g (λ t. ltb (get_or places s 0) (get_or places t 0)) s
        → at_fault g (λ t. get_or numbers t 0) order s ≡ (ltb supporting (get_or numbers s 0) || ltb (get_or numbers s 0) later || falls (λ t. get_or numbers t 0) s (after s order))
    unfolding at_fault
    fault_by_counts s supporting later h supports comes =
        let same : hears g (λ t. ltb (get_or places s 0) (get_or places t 0)) s ≡ hears g (holds (after s order)) s = hears_same g _ _ s (λ t k. sym (comes_after s t h k)) in
        rw (supports, comes, same) refl
