-- Searches of the numbers below n, one number at a time.
use Rattle.std.proofs.Common.{◌≡◌, ℕ, zero, suc, ◌+◌, ◌<◌, ◌≤◌, Bool, true, false, cond, ◌&&◌, eqb, List, [], ◌∷◌, ◌++◌, is_some, Some, None, Option, sym, refl, ap, ◌∙◌, inl, inr, add-one, arith}
use Rattle.std.specs.List.{range_with_len, list_any, find}
use Rattle.std.proofs.lemmas.List.{map-id}
use Rattle.std.proofs.lemmas.List.FromFn.{map-range_with_len_more}
use Rattle.std.proofs.lemmas.List.Folds.{list_any-append, find-append}
use Rattle.std.proofs.lemmas.Bool.{false≢true, both_ways, or_cases, cases_lt}
use Rattle.cores.specs.Counting.{all, some, or_else, lowest, greatest, AllAndSomeLookAtEach, TheGreatestIsTheLastThatPasses}
use Rattle.cores.specs.Laws.{Found, TheLowestIsTheFirstThatPasses}

-- what follows whether a test passes or not
pub by_cases : {A : Type 0} (b : Bool) → (b ≡ true → A) → (b ≡ false → A) → A
by_cases true f g = f refl
by_cases false f g = g refl

-- two tests with the same answers
pub same_test : (a b : Bool) → (a ≡ true → b ≡ true) → (b ≡ true → a ≡ true) → a ≡ b
same_test true b f g = sym (f refl)
same_test false true f g = g refl
same_test false false f g = refl

-- the numbers below n as a list, and each search as that of the list
pub range_more : (n : ℕ) → range_with_len 0 (suc n) ≡ range_with_len 0 n ++ n ∷ []
range_more n =
    let same = λ (xs : List ℕ). map-id xs in
    let one : range_with_len 0 (suc n) ≡ range_with_len 0 (n + 1) = ap (range_with_len 0) (sym (add-one n)) in
    let last = map-range_with_len_more (λ (t : ℕ). t) 0 n n (omega arith) in
    one ∙ sym (same (range_with_len 0 (n + 1))) ∙ last ∙ ap (λ xs. xs ++ n ∷ []) (same (range_with_len 0 n))

pub some_listed : (n : ℕ) (p : ℕ → Bool) → some n p ≡ list_any p (range_with_len 0 n)
unfolding some
some_listed zero p = refl
some_listed (suc n) p =
    let below = some_listed n p in
    let last = ap (list_any p) (range_more n) ∙ list_any-append p (range_with_len 0 n) (n ∷ []) in
    grind arith

pub lowest_listed : (n : ℕ) (p : ℕ → Bool) → lowest n p ≡ find p (range_with_len 0 n)
unfolding lowest
lowest_listed zero p = refl
lowest_listed (suc n) p =
    let below = lowest_listed n p in
    let last = ap (find p) (range_more n) ∙ find-append p (range_with_len 0 n) (n ∷ []) in
    grind arith

-- all
pub all_at : (n : ℕ) (p : ℕ → Bool) (k : ℕ) → all n p ≡ true → k < n → p k ≡ true
unfolding all
all_at zero p k e h = absurd (omega arith)
all_at (suc n) p k e h = let below = all_at n p k in grind arith

pub all_fails : (n : ℕ) (p : ℕ → Bool) (k : ℕ) → k < n → p k ≡ false → all n p ≡ false
unfolding all
all_fails zero p k h e = absurd (omega arith)
all_fails (suc n) p k h e = let below = all_fails n p k in grind arith

pub all_from : (n : ℕ) (p : ℕ → Bool) → ((t : ℕ) → t < n → p t ≡ true) → all n p ≡ true
unfolding all
all_from zero p f = refl
all_from (suc n) p f = let below = all_from n p (λ t h. f t (omega arith)) in let here = f n (omega arith) in grind arith

pub all_none : (p : ℕ → Bool) → all 0 p ≡ true
unfolding all
all_none p = refl

pub all_more : (n : ℕ) (p : ℕ → Bool) → all n p ≡ true → p n ≡ true → all (n + 1) p ≡ true
unfolding all
all_more n p e here = rw add-one (grind arith)

-- some
pub some_at : (n : ℕ) (p : ℕ → Bool) (k : ℕ) → some n p ≡ false → k < n → p k ≡ false
unfolding some
some_at zero p k e h = absurd (omega arith)
some_at (suc n) p k e h = let below = some_at n p k in grind arith

pub some_found : (n : ℕ) (p : ℕ → Bool) (k : ℕ) → k < n → p k ≡ true → some n p ≡ true
unfolding some
some_found zero p k h e = absurd (omega arith)
some_found (suc n) p k h e = let below = some_found n p k in grind arith

pub some_one : (n : ℕ) (p : ℕ → Bool) → some n p ≡ true → (t : ℕ) × (t < n) × (p t ≡ true)
unfolding some
some_one zero p e = absurd (false≢true e)
some_one (suc n) p e = elim (or_cases (some n p) (p n) e) [
  | inl below ↦ let r = some_one n p below in (r.0, omega arith, r.2)
  | inr here ↦ (n, omega arith, here)
]

pub some_none : (p : ℕ → Bool) → some 0 p ≡ false
unfolding some
some_none p = refl

pub some_more : (n : ℕ) (p : ℕ → Bool) → some n p ≡ false → p n ≡ false → some (n + 1) p ≡ false
unfolding some
some_more n p e here = rw add-one (grind arith)

pub look_at_each : AllAndSomeLookAtEach
look_at_each n p = record { each = λ e t h. all_at n p t e h; every = all_from n p; one = some_one n p; any = some_found n p }

-- lowest
pub lowest_first : TheLowestIsTheFirstThatPasses
unfolding lowest
lowest_first zero p = λ t h. absurd (omega arith)
lowest_first (suc n) p = step (lowest n p) (lowest_first n p) (p n) refl
  where
    step : (o : Option ℕ) → Found n p o → (b : Bool) → p n ≡ b → Found (suc n) p (or_else o (cond b (Some n) None))
    step (Some k) (h, passes, first) b e = (omega arith, passes, first)
    step None none true e = (omega arith, e, none)
    step None none false e = λ t h. let below = none t in grind arith

pub lowest_none : (p : ℕ → Bool) → lowest 0 p ≡ None
unfolding lowest
lowest_none p = refl

pub lowest_more : (n : ℕ) (p : ℕ → Bool) → lowest n p ≡ None → p n ≡ false → lowest (n + 1) p ≡ None
unfolding lowest
lowest_more n p e here = rw add-one (grind arith)

-- the first that passes stays the lowest, however far the search goes
pub lowest_found : (n : ℕ) (p : ℕ → Bool) (k : ℕ) → k < n → lowest k p ≡ None → p k ≡ true → lowest n p ≡ Some k
unfolding lowest
lowest_found zero p k h e here = absurd (omega arith)
lowest_found (suc n) p k h e here = let below = lowest_found n p k in grind arith

pub lowest_same : (n : ℕ) (p q : ℕ → Bool) → ((t : ℕ) → t < n → p t ≡ q t) → lowest n p ≡ lowest n q
unfolding lowest
lowest_same zero p q same = refl
lowest_same (suc n) p q same = let below = lowest_same n p q (λ t h. same t (omega arith)) in let here = same n (omega arith) in grind arith

-- what is found is below n
pub lowest_below : (n : ℕ) (p : ℕ → Bool) (k : ℕ) → lowest n p ≡ Some k → k < n
lowest_below n p k e = go (lowest n p) e (lowest_first n p)
  where
    go : (o : Option ℕ) → o ≡ Some k → Found n p o → k < n
    go (Some t) d (l, passes, first) = let same : t ≡ k = cc in omega arith
    go None d none = absurd (cc)

-- where none passes, none is found
pub lowest_absent : (n : ℕ) (p : ℕ → Bool) → ((t : ℕ) → t < n → p t ≡ false) → lowest n p ≡ None
unfolding lowest
lowest_absent zero p none = refl
lowest_absent (suc n) p none = let below = lowest_absent n p (λ t h. none t (omega arith)) in let here = none n (omega arith) in grind arith

-- where none is found, none passes
pub lowest_at : (n : ℕ) (p : ℕ → Bool) (k : ℕ) → is_some (lowest n p) ≡ false → k < n → p k ≡ false
unfolding lowest
lowest_at zero p k e h = absurd (omega arith)
lowest_at (suc n) p k e h = let below = lowest_at n p k in grind arith

-- where some number passes, the lowest that does
pub lowest_of : (n : ℕ) (p : ℕ → Bool) (t : ℕ) → t < n → p t ≡ true → (k : ℕ) × (k < n) × (p k ≡ true) × ((u : ℕ) → p u ≡ true → k ≤ u)
lowest_of n p t h e = go (lowest n p) (lowest_first n p)
  where
    go : (o : Option ℕ) → Found n p o → (k : ℕ) × (k < n) × (p k ≡ true) × ((u : ℕ) → p u ≡ true → k ≤ u)
    go (Some k) (l, passes, first) = (k, l, passes, λ u x. elim (cases_lt u k) [ inl low ↦ absurd (both_ways (p u) (first u low) x) | inr high ↦ high ])
    go None none = absurd (both_ways (p t) (none t h) e)

-- of the numbers below n that pass, one with the least value of f
pub least : (n : ℕ) (p : ℕ → Bool) (f : ℕ → ℕ) (s : ℕ) → s < n → p s ≡ true → (m : ℕ) × (m < n) × (p m ≡ true) × ((t : ℕ) → t < n → p t ≡ true → f m ≤ f t)
least n p f s h e =
    let has : ℕ → Bool = λ k. some n (λ t. p t && eqb (f t) k) in
    let value : (t : ℕ) → t < n → p t ≡ true → has (f t) ≡ true = λ t l x. some_found n (λ u. p u && eqb (f u) (f t)) t l (grind arith) in
    let low = lowest_of (suc (f s)) has (f s) (omega arith) (value s h e) in
    let m = some_one n (λ t. p t && eqb (f t) low.0) low.2 in
    let at = m.2 in
    (m.0, m.1, grind arith, λ t l x. let below = low.3 (f t) (value t l x) in grind arith)

-- greatest
pub greatest_last : TheGreatestIsTheLastThatPasses
unfolding greatest
greatest_last zero p z = (omega arith, z, λ k h e. h)
greatest_last (suc n) p z = let below = greatest_last n p z in by_cases (p (suc n))
    (λ e. rw e (omega arith, e, λ k h x. h))
    (λ e. rw e (omega (arith, below.0), below.1, λ k h x. let lower = below.2 k in grind arith))

pub greatest_none : (n : ℕ) (p : ℕ → Bool) → ((k : ℕ) → p k ≡ false) → greatest n p ≡ 0
unfolding greatest
greatest_none zero p none = refl
greatest_none (suc n) p none = rw (none (suc n)) (greatest_none n p none)
