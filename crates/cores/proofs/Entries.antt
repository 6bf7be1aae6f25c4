-- Where a number stands in a list, and how often.
use Rattle.std.proofs.Common.{◌≡◌, ℕ, zero, suc, ◌+◌, ◌<◌, ◌≤◌, true, false, cond, ◌||◌, eqb, List, [], ◌∷◌, ◌++◌, length, get_or, take, drop, sym, refl, ap, ◌∙◌, inl, inr, arith, take-append-drop, length-take}
use Rattle.std.specs.List.{list_any}
use Rattle.std.proofs.lemmas.List.Sums.{sum_by-cons, count_by_more_no}
use Rattle.std.proofs.lemmas.List.{get_or-take}
use Rattle.std.proofs.lemmas.Bool.{cases_eq, ne_eqb, lt-ltb, ltb-true}
use Rattle.cores.specs.Counting.{bit, times, holds, AListHoldsWhatStandsInIt}

pub times_none : (t : ℕ) → times t [] ≡ 0
unfolding times
times_none t = refl

pub times_cons : (t x : ℕ) (xs : List ℕ) → times t (x ∷ xs) ≡ bit (eqb t x) + times t xs
unfolding times bit
times_cons t x xs = let first = sum_by-cons (λ y. cond (eqb t y) 1 0) x xs in grind arith

-- one entry more, which is another number
pub times_more : (t : ℕ) (xs : List ℕ) (i : ℕ) → i < length xs → (get_or xs i 0 ≡ t → ⊥) → times t (take (i + 1) xs) ≡ times t (take i xs)
unfolding times
times_more t xs i h d = count_by_more_no (eqb t) xs i 0 h (ne_eqb t (get_or xs i 0) (λ e. d (sym e)))

-- the two parts of a list
pub times_append : (t : ℕ) (xs ys : List ℕ) → times t (xs ++ ys) ≡ times t xs + times t ys
times_append t [] ys = omega (arith, times_none t)
times_append t (x ∷ xs) ys = omega (arith, times_cons t x (xs ++ ys), times_cons t x xs, times_append t xs ys)

pub times_parts : (t i : ℕ) (xs : List ℕ) → times t xs ≡ times t (take i xs) + times t (drop i xs)
times_parts t i xs = ap (times t) (sym (take-append-drop i xs)) ∙ times_append t (take i xs) (drop i xs)

-- where a number stands
pub place_of : (t : ℕ) (xs : List ℕ) → 0 < times t xs → (k : ℕ) × (k < length xs) × (get_or xs k 0 ≡ t)
unfolding bit
place_of t [] h = absurd (omega (arith, times_none t))
place_of t (x ∷ xs) h = elim (cases_eq t x) [
  | inl d ↦ (0, omega arith, sym d)
  | inr d ↦ let first = times_cons t x xs in let (k, l, e) = place_of t xs (grind arith) in (suc k, omega arith, e)
]

pub times_at : (t : ℕ) (xs : List ℕ) (k : ℕ) → k < length xs → get_or xs k 0 ≡ t → 0 < times t xs
unfolding bit
times_at t [] k h e = absurd (omega arith)
times_at t (x ∷ xs) zero h e = let first = times_cons t x xs in grind arith
times_at t (x ∷ xs) (suc k) h e = omega (arith, times_cons t x xs, times_at t xs k (omega arith) e)

-- what stands at most once has one place
pub one_place : (t : ℕ) (xs : List ℕ) → times t xs ≤ 1 → (i j : ℕ) → i < length xs → j < length xs → get_or xs i 0 ≡ t → get_or xs j 0 ≡ t → i ≡ j
unfolding bit
one_place t [] once i j h k d e = absurd (omega arith)
one_place t (x ∷ xs) once zero zero h k d e = refl
one_place t (x ∷ xs) once zero (suc j) h k d e = let first = times_cons t x xs in let later = times_at t xs j (omega arith) e in absurd (grind arith)
one_place t (x ∷ xs) once (suc i) zero h k d e = let first = times_cons t x xs in let later = times_at t xs i (omega arith) d in absurd (grind arith)
one_place t (x ∷ xs) once (suc i) (suc j) h k d e = ap suc (one_place t xs (omega (arith, once, times_cons t x xs)) i j (omega arith) (omega arith) d e)

-- holding
pub holds_times : (xs : List ℕ) (t : ℕ) → holds xs t ≡ true → 0 < times t xs
unfolding holds
holds_times xs t e = ltb-true 0 (times t xs) e

pub times_holds : (xs : List ℕ) (t : ℕ) → 0 < times t xs → holds xs t ≡ true
unfolding holds
times_holds xs t h = lt-ltb 0 (times t xs) h

pub held_where_it_stands : AListHoldsWhatStandsInIt
held_where_it_stands xs t = ((λ e. place_of t xs (holds_times xs t e)), λ i h d. times_holds xs t (times_at t xs i h d))

-- what stands at most once, stands as often as it is held
pub held_once : (t : ℕ) (xs : List ℕ) → times t xs ≤ 1 → times t xs ≡ bit (holds xs t)
unfolding holds bit
held_once t xs h = grind arith

-- entry by entry
pub holds_none : (t : ℕ) → holds [] t ≡ false
unfolding holds
holds_none t = let none = times_none t in grind arith

pub holds_cons : (t x : ℕ) (xs : List ℕ) → holds (x ∷ xs) t ≡ (eqb t x || holds xs t)
unfolding holds bit
holds_cons t x xs = let first = times_cons t x xs in grind arith

-- the test of each entry in turn
pub holds_listed : (xs : List ℕ) (t : ℕ) → holds xs t ≡ list_any (λ x. eqb x t) xs
holds_listed [] t = holds_none t
holds_listed (x ∷ xs) t = let first = holds_cons t x xs in let rest = holds_listed xs t in grind arith

pub holds_first : (t x : ℕ) (xs : List ℕ) → t ≡ x → holds (x ∷ xs) t ≡ true
holds_first t x xs d = let one = holds_cons t x xs in grind arith

pub holds_more : (t x : ℕ) (xs : List ℕ) → holds xs t ≡ true → holds (x ∷ xs) t ≡ true
holds_more t x xs e = let one = holds_cons t x xs in grind arith

pub holds_later : (t x : ℕ) (xs : List ℕ) → holds (x ∷ xs) t ≡ true → (t ≡ x → ⊥) → holds xs t ≡ true
holds_later t x xs e d = let one = holds_cons t x xs in grind arith

pub holds_nothing : {A : Type 0} (t : ℕ) → holds [] t ≡ true → A
holds_nothing t e = let none = holds_none t in absurd (grind arith)

-- a number among the first i
pub front_place : (t i : ℕ) (xs : List ℕ) → holds (take i xs) t ≡ true → (k : ℕ) × (k < i) × (k < length xs) × (get_or xs k 0 ≡ t)
front_place t i xs e =
    let (k, h, at) = place_of t (take i xs) (holds_times (take i xs) t e) in
    let l : k < i = omega (arith, length-take i xs) in
    (k, l, omega (arith, length-take i xs), sym (get_or-take i xs k 0 l) ∙ at)

pub place_front : (t i k : ℕ) (xs : List ℕ) → k < i → k < length xs → get_or xs k 0 ≡ t → holds (take i xs) t ≡ true
place_front t i k xs l h e = times_holds (take i xs) t (times_at t (take i xs) k (omega (arith, length-take i xs)) (get_or-take i xs k 0 l ∙ e))
