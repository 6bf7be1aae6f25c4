-- Where a plan is at fault, and that it is well formed if it is nowhere.
use Rattle.std.proofs.Common.{◌≡◌, ℕ, zero, suc, ◌+◌, ◌<◌, Bool, true, false, not, ◌&&◌, ◌||◌, eqb, ltb, List, [], ◌∷◌, ◌++◌, length, get_or, take, drop, Some, None, Option, sym, refl, ap, subst, ◌∙◌, arith, length-drop}
use mathlib.Core.Path.{fun_ext}
use Rattle.std.proofs.lemmas.Bool.{both_ways}
use Rattle.std.proofs.lemmas.Bool.Decides.{nat_tests}
use Rattle.std.proofs.lemmas.List.{take_more, get_or-drop}
use Rattle.cores.specs.Counting.{bit, count, times, holds, lowest}
use Rattle.cores.specs.Laws.{Found}
use Rattle.cores.specs.Numbers.{Group, without}
use Rattle.cores.proofs.Searches.{by_cases, lowest_first, lowest_found, lowest_more}
use Rattle.cores.proofs.Counts.{count_without}
use Rattle.cores.proofs.Entries.{times_none, times_cons, times_append, times_parts, times_at, holds_none, holds_cons, front_place, place_front}
use Rattle.sheet.specs.declared.entry.Entry.{Entry}
use Rattle.sheet.specs.Plans.{Plan, Fits, stations, entry, up_at_fault, entry_at_fault, place_at_fault, at_fault, lowest_fault, Placed, WithoutFaultTheEntryFits, PlansWithoutFaultAreWellFormed}
use Rattle.sheet.proofs.SheetLaws.{count_below, none_left}

-- ---- entries

pub fits_without_fault : (n s : ℕ) (e : Entry) → entry_at_fault n s e ≡ false → Fits n s e
unfolding entry_at_fault
fits_without_fault n s e good = record { number = grind (arith, nat_tests); home = grind (arith, nat_tests); up = λ u d. up_fits u (e.up) d refl }
  where
    up_fits : (u : ℕ) (o : Option ℕ) → o ≡ Some u → e.up ≡ o → (u < n) × (e.home ≡ s)
    up_fits u o d is = let bad : up_at_fault n s e.home (Some u) ≡ false = subst (λ o. up_at_fault n s e.home o ≡ false) (is ∙ d) (grind arith) in (grind (arith, nat_tests), grind (arith, nat_tests))

pub without_fault_fits : (n s : ℕ) (e : Entry) → Fits n s e → entry_at_fault n s e ≡ false
unfolding entry_at_fault
without_fault_fits n s e fits =
    let number = fits.number in
    let home = fits.home in
    let up = up_good e.up refl in
    grind (arith, nat_tests)
  where
    up_good : (o : Option ℕ) → e.up ≡ o → up_at_fault n s e.home o ≡ false
    up_good None is = refl
    up_good (Some u) is = let both = fits.up u is in grind (arith, nat_tests)

-- ---- the order, place by place

-- the stations of n that the first i places do not name
abbrev pub unnamed_at : ℕ → List ℕ → ℕ → Group
unnamed_at n order i t = ltb t n && not (holds (take i order) t)

pub place_judged : (n : ℕ) (order : List ℕ) (i : ℕ) → place_at_fault n order i ≡ not (unnamed_at n order i (get_or order i 0))
unfolding place_at_fault
place_judged n order i = grind (arith, nat_tests)

pub unnamed_first : (n : ℕ) (order : List ℕ) → (λ t. ltb t n) ≡ unnamed_at n order 0
unnamed_first n order = fun_ext (λ t. let none = holds_none t in grind (arith, nat_tests))

holds_end : (t v : ℕ) (xs : List ℕ) → holds (xs ++ v ∷ []) t ≡ (eqb t v || holds xs t)
unfolding holds bit
holds_end t v xs = let parts = times_append t xs (v ∷ []) in let last = times_cons t v [] in let none = times_none t in grind (arith, nat_tests)

pub unnamed_more : (n : ℕ) (order : List ℕ) (i v : ℕ) → i < length order → v ≡ get_or order i 0 → without v (unnamed_at n order i) ≡ unnamed_at n order (i + 1)
unfolding without
unnamed_more n order i v h is = fun_ext (λ t. let front : holds (take (i + 1) order) t ≡ (eqb t v || holds (take i order) t) = rw (take_more order i 0 h, ← is) (holds_end t v (take i order)) in grind (arith, nat_tests))

-- each station once: at each place stands one that was not named before
abbrev InPlaces : Group → List ℕ → Type 0
InPlaces X ts = (i : ℕ) → i < length ts → (X (get_or ts i 0) ≡ true) × (holds (take i ts) (get_or ts i 0) ≡ false)

each_in_place : (n : ℕ) (X : Group) (ts : List ℕ) → ((t : ℕ) → X t ≡ true → t < n) → count n X ≡ length ts → InPlaces X ts → (t : ℕ) → times t ts ≡ bit (X t)
unfolding bit without
each_in_place n X [] below all places t = none_left n X below all t
each_in_place n X (v ∷ ts) below all places t =
    let here = (places 0 (omega arith)).0 in
    let fewer = count_without n X v (below v here) here in
    let later = each_in_place n (without v X) ts (λ u x. below u (grind arith)) (omega arith) (λ i h. (
    let at = places (suc i) (omega arith) in
    let front = holds_cons (get_or ts i 0) v (take i ts) in
    (grind (arith, nat_tests), grind (arith, nat_tests)))) t in
    let first = times_cons t v ts in
    grind (arith, nat_tests)

pub each_without_fault : (n : ℕ) (order : List ℕ) → length order ≡ n → ((i : ℕ) → i < n → place_at_fault n order i ≡ false) → (t : ℕ) → times t order ≡ bit (ltb t n)
unfolding place_at_fault
each_without_fault n order long good = each_in_place n (λ t. ltb t n) order (λ t x. grind (arith, nat_tests)) (count_below n n (omega arith) ∙ sym long) (λ i h. let at = good i (omega arith) in (grind (arith, nat_tests), grind (arith, nat_tests)))

pub without_fault_each : (n : ℕ) (order : List ℕ) → ((t : ℕ) → times t order ≡ bit (ltb t n)) → (i : ℕ) → i < length order → place_at_fault n order i ≡ false
unfolding place_at_fault holds bit
without_fault_each n order each i h =
    let t = get_or order i 0 in
    let parts = times_parts t i order in
    let behind = times_at t (drop i order) 0 (omega (arith, length-drop i order)) (get_or-drop i order 0 0 ∙ ap (λ j. get_or order j 0) (omega arith)) in
    let all = each t in
    grind (arith, nat_tests)

-- ---- in words

placed_without_fault : (n : ℕ) (order : List ℕ) (i : ℕ) → i < length order → place_at_fault n order i ≡ false → Placed n order i
unfolding place_at_fault
placed_without_fault n order i h good = record {
  on_site = grind (arith, nat_tests);
  new = λ j l d. both_ways (holds (take i order) (get_or order i 0)) (grind (arith, nat_tests)) (place_front (get_or order i 0) i j order l (omega arith) d);
}

without_fault_placed : (n : ℕ) (order : List ℕ) (i : ℕ) → Placed n order i → place_at_fault n order i ≡ false
unfolding place_at_fault
without_fault_placed n order i placed =
    let on_site = placed.on_site in
    let new : holds (take i order) (get_or order i 0) ≡ false = by_cases (holds (take i order) (get_or order i 0)) (λ e. let (j, l, _, at) = front_place (get_or order i 0) i order e in absurd (placed.new j l at)) (λ e. e) in
    grind (arith, nat_tests)

pub fault_in_words : WithoutFaultTheEntryFits
fault_in_words p i h =
    let n = stations p in (
      λ good. (fits_without_fault n i (entry p i) (grind arith), placed_without_fault n p.order i h (grind arith)),
      λ fits placed. (let first = without_fault_fits n i (entry p i) fits in let second = without_fault_placed n p.order i placed in grind arith),
    )

-- ---- plans

lowest_none_from : (n : ℕ) (p : ℕ → Bool) → ((t : ℕ) → t < n → p t ≡ false) → lowest n p ≡ None
unfolding lowest
lowest_none_from zero p none = refl
lowest_none_from (suc n) p none = let below = lowest_none_from n p (λ t h. none t (omega arith)) in let here = none n (omega arith) in grind arith

none_from_lowest : (n : ℕ) (p : ℕ → Bool) → lowest n p ≡ None → (t : ℕ) → t < n → p t ≡ false
none_from_lowest n p e = subst (Found n p) e (lowest_first n p)

pub well_formed_without_fault : PlansWithoutFaultAreWellFormed
well_formed_without_fault p counted even =
    let n = stations p in
    let long : length p.order ≡ n = grind (arith, nat_tests) in (
      λ none.
          let good = none_from_lowest n (at_fault p) none in
          record {
            counted = counted;
            lengths = even;
            fits = λ s h. fits_without_fault n s (entry p s) (let here = good s h in grind arith);
            each_once = each_without_fault n p.order long (λ i h. let here = good i h in grind arith);
          },
      λ well. lowest_none_from n (at_fault p) (λ i h.
          let fits = without_fault_fits n i (entry p i) (well.fits i h) in
          let placed = without_fault_each n p.order well.each_once i (omega arith) in
          grind arith),
    )

-- ---- the search for the lowest fault, one entry at a time

pub fault_in_entry : (p : Plan) (i : ℕ) (e : Entry) → i < stations p → lowest i (at_fault p) ≡ None → e ≡ entry p i → true ≡ entry_at_fault (stations p) i e → Some i ≡ lowest_fault p
fault_in_entry p i e h none is bad = sym (lowest_found (stations p) (at_fault p) i h none (let here : entry_at_fault (stations p) i (entry p i) ≡ true = rw (← is) (sym bad) in grind arith))

pub fault_in_order : (p : Plan) (i : ℕ) (X : Group) → i < stations p → lowest i (at_fault p) ≡ None → X ≡ unnamed_at (stations p) p.order i → false ≡ X (get_or p.order i 0) → Some i ≡ lowest_fault p
fault_in_order p i X h none is bad =
    let judged = place_judged (stations p) p.order i in
    let here : unnamed_at (stations p) p.order i (get_or p.order i 0) ≡ false = subst (λ Y. Y (get_or p.order i 0) ≡ false) is (sym bad) in
    sym (lowest_found (stations p) (at_fault p) i h none (grind arith))

pub no_fault_yet : (p : Plan) (i : ℕ) (e : Entry) (X : Group) → lowest i (at_fault p) ≡ None → e ≡ entry p i → false ≡ entry_at_fault (stations p) i e
    → X ≡ unnamed_at (stations p) p.order i → true ≡ X (get_or p.order i 0) → lowest (i + 1) (at_fault p) ≡ None
no_fault_yet p i e X none entry_is entry_good named_is place_good =
    let judged = place_judged (stations p) p.order i in
    let first : entry_at_fault (stations p) i (entry p i) ≡ false = rw (← entry_is) (sym entry_good) in
    let second : unnamed_at (stations p) p.order i (get_or p.order i 0) ≡ true = subst (λ Y. Y (get_or p.order i 0) ≡ true) named_is (sym place_good) in
    lowest_more i (at_fault p) none (grind arith)
