-- Rightful orders, and what it means that no station is at fault.
use Rattle.std.proofs.Common.{◌≡◌, ℕ, zero, suc, ◌+◌, ◌<◌, ◌≤◌, true, false, leb, List, [], ◌∷◌, length, get_or, drop, sym, refl, ap, ◌∙◌, inl, inr, le_antisymm, arith, length-drop, drop-cons}
use Rattle.std.proofs.lemmas.List.{get_or-drop}
use Rattle.std.proofs.lemmas.Bool.{both_ways, cases_eq, eq-eqb, ne_eqb, leb-true, le-leb, ltb-false, le-ltb}
use Rattle.cores.specs.Counting.{bit, times, holds}
use Rattle.cores.specs.Site.{Site, Lawful, EachOnce}
use Rattle.cores.specs.Numbers.{Group, hears, number, IsSteady}
use Rattle.cores.specs.Drawing.{drawn, left, left_at}
use Rattle.cores.specs.Orders.{falls, rightful, after, at_fault, IsRightful, CoreNumbers, Faultless, AtFaultIsJudgedAtItsPlace, RightfulHoldsAtEachPlace, TheDrawnOrderIsRightful, AfterIsTheRestBehind, FaultlessMeansCoreNumbersInARightfulOrder}
use Rattle.cores.proofs.Searches.{by_cases}
use Rattle.cores.proofs.Entries.{times_cons, times_parts, times_holds, times_at, holds_none, holds_cons, holds_first, holds_more, holds_later, holds_nothing, holds_times}
use Rattle.cores.proofs.Numbers.{hears_within, number_group, number_atleast, number_heard}
use Rattle.cores.proofs.Drawing.{drawn_is, number_met}

module _ (g : Site) (c : ℕ → ℕ) where
  -- what is asked of a station and of those behind it
  abbrev Judged : ℕ → List ℕ → Type 0
  Judged s later = (falls c s later ≡ false) × (hears g (holds later) s ≤ c s)

  rightful_parts : (s : ℕ) (later : List ℕ) → rightful g c (s ∷ later) ≡ true → Judged s later × (rightful g c later ≡ true)
  unfolding rightful
  rightful_parts s later e = ((grind arith, grind arith), grind arith)

  rightful_more : (s : ℕ) (later : List ℕ) → Judged s later → rightful g c later ≡ true → rightful g c (s ∷ later) ≡ true
  unfolding rightful
  rightful_more s later (rises, few) rest = grind arith

  rightful_none : rightful g c [] ≡ true
  unfolding rightful
  rightful_none = refl

  -- the next station carries no less
  next_rises : (s : ℕ) (later : List ℕ) → falls c s later ≡ false → 0 < length later → c s ≤ c (get_or later 0 0)
  unfolding falls
  next_rises s [] e h = absurd (omega arith)
  next_rises s (t ∷ later) e h = ltb-false (c t) (c s) e

  rises_next : (s : ℕ) (later : List ℕ) → (0 < length later → c s ≤ c (get_or later 0 0)) → falls c s later ≡ false
  unfolding falls
  rises_next s [] f = refl
  rises_next s (t ∷ later) f = le-ltb (c t) (c s) (f (omega arith))

  -- place by place
  places_more : (s : ℕ) (later : List ℕ) → Judged s later → IsRightful g c later → IsRightful g c (s ∷ later)
  places_more s later (rises, few) p = record { never_falls = rise; few_after = behind }
    where
      rise : (i : ℕ) → suc i < length (s ∷ later) → c (get_or (s ∷ later) i 0) ≤ c (get_or (s ∷ later) (suc i) 0)
      rise zero h = next_rises s later rises (omega arith)
      rise (suc i) h = p.never_falls i (omega arith)

      behind : (i : ℕ) → i < length (s ∷ later) → hears g (holds (drop (suc i) (s ∷ later))) (get_or (s ∷ later) i 0) ≤ c (get_or (s ∷ later) i 0)
      behind zero h = few
      behind (suc i) h = p.few_after i (omega arith)

  rightful_places : (order : List ℕ) → rightful g c order ≡ true → IsRightful g c order
  rightful_places [] e = record { never_falls = λ i h. absurd (omega arith); few_after = λ i h. absurd (omega arith) }
  rightful_places (s ∷ later) e = let (first, rest) = rightful_parts s later e in places_more s later first (rightful_places later rest)

  places_rightful : (order : List ℕ) → IsRightful g c order → rightful g c order ≡ true
  places_rightful [] p = rightful_none
  places_rightful (s ∷ later) p =
      rightful_more s later (rises_next s later (λ h. p.never_falls 0 (omega arith)), p.few_after 0 (omega arith))
      (places_rightful later (record { never_falls = λ i h. p.never_falls (suc i) (omega arith); few_after = λ i h. p.few_after (suc i) (omega arith) }))

  -- no later station carries less
  rightful_climbs : (s : ℕ) (later : List ℕ) → rightful g c (s ∷ later) ≡ true → (t : ℕ) → holds later t ≡ true → c s ≤ c t
  rightful_climbs s [] e t h = holds_nothing t h
  rightful_climbs s (u ∷ later) e t h =
      let ((rises, few), rest) = rightful_parts s (u ∷ later) e in
      let near : c s ≤ c u = next_rises s (u ∷ later) rises (omega arith) in
      elim (cases_eq t u) [ inl d ↦ rw d near | inr d ↦ omega (arith, rightful_climbs u later rest t (holds_later t u later h d)) ]

  -- the first member of a steady group that a rightful order names hears only such as come after it
  rightful_bound : Lawful g → (k : ℕ) (X : Group) → IsSteady g k X → (order : List ℕ) → rightful g c order ≡ true
      → ((t : ℕ) → X t ≡ true → holds order t ≡ true) → (s : ℕ) → X s ≡ true → k ≤ c s
  rightful_bound law k X p [] e named s x = holds_nothing s (named s x)
  rightful_bound law k X p (m ∷ later) e named s x =
      let ((rises, few), rest) = rightful_parts m later e in
      let behind : (t : ℕ) → X t ≡ true → (t ≡ m → ⊥) → holds later t ≡ true = λ t y d. holds_later t m later (named t y) d in
      by_cases (X m)
      (λ y.
      let heard = hears_within g X (holds later) m (λ t h l z. behind t z (λ d. both_ways (g.linked m m) (law.apart m) (rw d at l))) in
      let own : k ≤ c m = omega (arith, p.heard m y) in
      elim (cases_eq s m) [ inl d ↦ rw d own | inr d ↦ omega (arith, rightful_climbs m later e s (behind s x d)) ])
      (λ y. rightful_bound law k X p later rest (λ t z. behind t z (λ d. both_ways (X m) y (rw d at z))) s x)

-- what comes after a station, in a list that begins with it or with another
after_first : (s t : ℕ) (later : List ℕ) → s ≡ t → after s (t ∷ later) ≡ later
unfolding after
after_first s t later d = rw (eq-eqb s t d) refl

after_later : (s t : ℕ) (later : List ℕ) → (s ≡ t → ⊥) → after s (t ∷ later) ≡ after s later
unfolding after
after_later s t later d = rw (ne_eqb s t d) refl

pub after_rest : AfterIsTheRestBehind
after_rest s [] e = holds_nothing s e
after_rest s (t ∷ later) e = elim (cases_eq s t) [
  | inl d ↦ ([], holds_none s, rw (after_first s t later d) (ap (λ x. x ∷ later) (sym d)))
  | inr d ↦
      let (front, free, whole) = after_rest s later (holds_later s t later e d) in
      let one = holds_cons s t front in
      (t ∷ front, grind arith, rw (after_later s t later d) (ap (λ xs. t ∷ xs) whole))
]

-- in an order that names nobody twice, it is what stands at later places
pub after_place : (order : List ℕ) → ((t : ℕ) → times t order ≤ 1) → (i : ℕ) → i < length order → after (get_or order i 0) order ≡ drop (suc i) order
unfolding bit
after_place [] once i h = absurd (omega arith)
after_place (t ∷ later) once zero h = after_first t t later refl
after_place (t ∷ later) once (suc i) h =
    let s = get_or later i 0 in
    let here = times_at s later i (omega arith) refl in
    let twice = times_cons s t later in
    let few = once s in
    after_later s t later (λ d. grind arith) ∙ after_place later (λ u. omega (arith, once u, times_cons u t later)) i (omega arith)

module _ (g : Site) (c : ℕ → ℕ) where
  -- rightful, station by station
  judged_rightful : (order : List ℕ) → ((t : ℕ) → times t order ≤ 1) → ((s : ℕ) → holds order s ≡ true → Judged g c s (after s order))
      → rightful g c order ≡ true
  unfolding bit
  judged_rightful [] once f = rightful_none g c
  judged_rightful (s ∷ later) once f =
      let first : Judged g c s later = rw (after_first s s later refl) at (f s (holds_first s s later refl)) in
      rightful_more g c s later first (judged_rightful later (λ t. omega (arith, once t, times_cons t s later)) (λ t h.
      let twice = times_cons t s later in
      let here = holds_times later t h in
      let few = once t in
      let other : t ≡ s → ⊥ = λ d. grind arith in
      rw (after_later t s later other) at (f t (holds_more t s later h))))

  rightful_judged : (order : List ℕ) → rightful g c order ≡ true → (s : ℕ) → holds order s ≡ true → Judged g c s (after s order)
  rightful_judged [] e s h = holds_nothing s h
  rightful_judged (t ∷ later) e s h =
      let (first, rest) = rightful_parts g c t later e in
      elim (cases_eq s t) [
        | inl d ↦ rw (after_first s t later d, d) first
        | inr d ↦ rw (after_later s t later d) (rightful_judged later rest s (holds_later s t later h d))
      ]

  -- enough neighbours carry at least the number of s
  abbrev Supported : ℕ → Type 0
  Supported s = c s ≤ hears g (λ t. leb (c s) (c t)) s

  fault_parts : (order : List ℕ) (s : ℕ) → at_fault g c order s ≡ false → Supported s × Judged g c s (after s order)
  unfolding at_fault
  fault_parts order s e = (grind arith, (grind arith, grind arith))

  parts_fault : (order : List ℕ) (s : ℕ) → Supported s → Judged g c s (after s order) → at_fault g c order s ≡ false
  unfolding at_fault
  parts_fault order s supported (rises, few) = grind arith

  -- numbers that are supported are no greater than the core numbers
  supported_low : ((s : ℕ) → s < g.size → Supported s) → (s : ℕ) → s < g.size → c s ≤ number g s
  supported_low f s h = number_atleast g (c s) s (λ t. leb (c s) (c t)) h (le-leb (c s) (c s) (omega arith)) (λ t l x.
      omega (arith, leb-true (c s) (c t) x, f t l, hears_within g (λ u. leb (c t) (c u)) (λ u. leb (c s) (c u)) t (λ u m a y. grind arith)))

  -- the core numbers are supported
  core_supported : CoreNumbers g c → (s : ℕ) → s < g.size → Supported s
  core_supported f s h =
      let same = hears_within g (λ t. leb (number g s) (number g t)) (λ t. leb (c s) (c t)) s (λ t l a x. rw (f s h, f t l) x) in
      omega (arith, f s h, number_heard g s h)

  module _ (law : Lawful g) (order : List ℕ) (once : EachOnce g order) where
    named : (t : ℕ) → t < g.size → holds order t ≡ true
    unfolding bit
    named t h = let at = once t in times_holds order t (grind arith)

    on_site : (t : ℕ) → holds order t ≡ true → t < g.size
    unfolding bit
    on_site t e = let at = once t in let here = holds_times order t e in grind arith

    faultless_rightful : Faultless g c order → rightful g c order ≡ true
    unfolding bit
    faultless_rightful f = judged_rightful order (λ t. let at = once t in grind arith) (λ s e. (fault_parts order s (f s (on_site s e))).1)

    faultless_numbers : Faultless g c order → CoreNumbers g c
    faultless_numbers f s h =
        let (X, member, p) = number_group g s h in
        let low = supported_low (λ t l. (fault_parts order t (f t l)).0) s h in
        let high = rightful_bound g c law (number g s) X p order (faultless_rightful f) (λ t x. named t (p.on_site t x)) s member in
        le_antisymm low high

    rightful_faultless : CoreNumbers g c → rightful g c order ≡ true → Faultless g c order
    rightful_faultless f e s h = parts_fault order s (core_supported f s h) (rightful_judged order e s (named s h))

pub faultless_means : FaultlessMeansCoreNumbersInARightfulOrder
faultless_means g law c order once = ((λ f. (faultless_numbers g c law order once f, faultless_rightful g c law order once f)), rightful_faultless g c law order once)

-- at fault, by the place
pub fault_at_place : AtFaultIsJudgedAtItsPlace
unfolding bit
fault_at_place g c order once i h =
    let s = get_or order i 0 in
    let later = drop (suc i) order in
    let rest : after s order ≡ later = after_place order (λ t. let at = once t in grind arith) i h in
    let long = length-drop (suc i) order in
    let same : suc i + 0 ≡ suc i = omega arith in
    let next : c (get_or later 0 0) ≡ c (get_or order (suc i) 0) = ap c (get_or-drop (suc i) order 0 0 ∙ ap (λ k. get_or order k 0) same) in (
      (λ e.
          let (supported, (rises, few)) = fault_parts g c order s e in
          record { supported = supported; few_after = rw rest at few; rises = λ l. omega (arith, next_rises g c s later (rw rest at rises) (omega arith)) }),
      (λ p. parts_fault g c order s p.supported (rw rest (rises_next g c s later (λ l. omega (arith, p.rises (omega arith))), p.few_after))),
    )

pub rightful_at_each_place_lem : RightfulHoldsAtEachPlace
rightful_at_each_place_lem g c order = (rightful_places g c order, places_rightful g c order)

-- those behind a place are among those left there
behind_left : (g : Site) (order : List ℕ) → EachOnce g order → (i : ℕ) → i < length order → (t : ℕ) → holds (drop (suc i) order) t ≡ true
    → left order i t ≡ true
unfolding left holds bit
behind_left g order once i h t e =
    let at = once t in
    let parts = times_parts t i order in
    let rest = ap (times t) (drop-cons order i 0 h) in
    let first = times_cons t (get_or order i 0) (drop (suc i) order) in
    grind arith

pub drawn_rightful : TheDrawnOrderIsRightful
unfolding left_at
drawn_rightful g =
    let order = drawn g in
    let p = drawn_is g in
    let met = number_met g order p in
    places_rightful g (number g) order (record {
      never_falls = λ i h. let (j, o, e) = (met i (omega arith)).met in omega (arith, (met (suc i) h).most j (omega arith));
      few_after = λ i h.
          let fewer = hears_within g (holds (drop (suc i) order)) (left order i) (get_or order i 0) (λ t l a x. behind_left g order p.each_once i h t x) in
          omega (arith, (met i h).most i (omega arith));
    })
