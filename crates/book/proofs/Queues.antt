-- Lists that name stations: how long they are, and one station more.
use Rattle.std.proofs.Common.{◌≡◌, ℕ, zero, suc, ◌+◌, ◌<◌, ◌≤◌, Bool, true, false, ◌&&◌, ◌||◌, ltb, eqb, Some, None, List, [], ◌∷◌, ◌++◌, length, length-take, append-nil, take, drop, get_or, refl, sym, ap, ◌∙◌, inl, inr, arith}
use Rattle.std.specs.List.{slice_get}
use Rattle.std.proofs.lemmas.Option.{slice_get-get_or, slice_get_within, get_or_from_slice_get}
use Rattle.std.specs.List.Sorted.{IsPermutation}
use Rattle.std.proofs.lemmas.List.{length-take-le, take-append-le, take_all, drop_all}
use Rattle.std.proofs.lemmas.List.Sorted.{list_any-IsPermutation}
use Rattle.std.proofs.lemmas.Bool.{cases_lt}
use Rattle.cores.specs.Counting.{bit, count, total, times, holds}
use Rattle.cores.proofs.Counts.{count_le, count_lt}
use Rattle.cores.proofs.Sums.{count_total, total_same, entries_below, entries_all}
use Rattle.cores.proofs.Entries.{times_at, times_none, times_cons, times_append, holds_listed}

total_mono : (n : ℕ) (f g : ℕ → ℕ) → ((t : ℕ) → t < n → f t ≤ g t) → total n f ≤ total n g
unfolding total
total_mono zero f g less = omega arith
total_mono (suc n) f g less = omega (arith, total_mono n f g (λ t h. less t (omega arith)), less n (omega arith))

-- a list that names the numbers that pass once, and nothing else, has as many entries
pub listed_length : (n : ℕ) (p : ℕ → Bool) (xs : List ℕ) → ((t : ℕ) → p t ≡ true → t < n) → ((t : ℕ) → times t xs ≡ bit (p t)) → length xs ≡ count n p
unfolding bit
listed_length n p xs below once =
    omega (
      arith,
      entries_all n xs (λ t h. let at = once t in below t (grind arith)),
      entries_below n xs,
      count_total n p,
      total_same n (λ t. times t xs) (λ t. bit (p t)) (λ t h. once t),
    )

-- one that names none twice, and only numbers that pass
module _ (n : ℕ) (p : ℕ → Bool) (xs : List ℕ) (once : (t : ℕ) → times t xs ≤ bit (p t && ltb t n)) where
  few_named : length xs ≤ count n p
  unfolding bit
  few_named =
      omega (
        arith,
        entries_all n xs (λ t l. let at = once t in grind arith),
        entries_below n xs,
        count_total n p,
        total_mono n (λ t. times t xs) (λ t. bit (p t)) (λ t l. let at = once t in grind arith),
      )

  pub at_most_all : length xs ≤ n
  at_most_all = omega (arith, few_named, count_le n p)

  -- what stands at a place is below n, and so is the place
  pub placed_below : (v s : ℕ) → slice_get xs v ≡ Some s → (s < n) × (v < n)
  unfolding bit
  placed_below v s got =
      let h = slice_get_within xs v s got in
      let some = times_at s xs v h (get_or_from_slice_get xs v s 0 got) in
      let at = once s in
      (grind arith, omega (arith, at_most_all))

  -- has room for another
  pub room_left : (s : ℕ) → s < n → p s ≡ false → length xs < n
  room_left s h out = omega (arith, few_named, count_lt n p (λ t. true) s h (λ t l e. refl) out refl, count_le n (λ t. true))

-- one number more at the end
pub holds_last : (t s : ℕ) (xs : List ℕ) → holds (xs ++ s ∷ []) t ≡ (holds xs t || eqb t s)
unfolding holds bit
holds_last t s xs = let both = times_append t xs (s ∷ []) in let one = times_cons t s [] in let none = times_none t in grind arith

pub times_last : (t s : ℕ) (xs : List ℕ) → times t (xs ++ s ∷ []) ≡ times t xs + bit (eqb t s)
times_last t s xs = omega (arith, times_append t xs (s ∷ []), times_cons t s [], times_none t)

pub drop_last : (v s : ℕ) (xs : List ℕ) → v ≤ length xs → drop v (xs ++ s ∷ []) ≡ drop v xs ++ s ∷ []
drop_last zero s xs h = refl
drop_last (suc v) s [] h = absurd (omega arith)
drop_last (suc v) s (x ∷ xs) h = drop_last v s xs (omega arith)

-- behind place v the next place begins
pub drop_next : (v : ℕ) (xs : List ℕ) → v < length xs → drop v xs ≡ get_or xs v 0 ∷ drop (v + 1) xs
drop_next zero [] h = absurd (omega arith)
drop_next zero (x ∷ xs) h = refl
drop_next (suc v) [] h = absurd (omega arith)
drop_next (suc v) (x ∷ xs) h = let on : suc v + 1 ≡ suc (v + 1) = omega arith in rw on (drop_next v xs (omega arith))

pub drop_got : (xs : List ℕ) (v s : ℕ) → slice_get xs v ≡ Some s → (v < length xs) × (drop v xs ≡ s ∷ drop (v + 1) xs)
drop_got xs v s got = let h = slice_get_within xs v s got in (h, rw (← get_or_from_slice_get xs v s 0 got) (drop_next v xs h))

-- nothing stands past the end
pub taken_none : (xs : List ℕ) (v : ℕ) → slice_get xs v ≡ None → length xs ≤ v
taken_none xs v e = elim (cases_lt v (length xs)) [ inl low ↦ let some = slice_get-get_or xs v 0 low in absurd (cc) | inr past ↦ past ]

-- a front that is as long as the one that it takes the place of
pub front_of : (len : ℕ) (ys zs : List ℕ) → length ys ≡ length (take len zs) → take len (ys ++ drop (length (take len zs)) zs) ≡ ys
front_of len ys zs long = elim (cases_lt len (length zs)) [
  | inl less ↦
      let short = length-take-le len zs (omega arith) in
      take-append-le len ys _ (omega arith) ∙ take_all len ys (omega arith)
  | inr past ↦
      let all = length-take len zs in
      ap (λ rest. take len (ys ++ rest)) (drop_all (length (take len zs)) zs (omega arith)) ∙ ap (take len) (append-nil ys) ∙ take_all len ys (omega arith)
]

-- sorted stations are the same stations
pub holds_sorted : (xs ys : List ℕ) → IsPermutation xs ys → (s : ℕ) → holds ys s ≡ holds xs s
holds_sorted xs ys sorted s = holds_listed ys s ∙ sym (list_any-IsPermutation (λ x. eqb x s) xs ys sorted) ∙ sym (holds_listed xs s)
