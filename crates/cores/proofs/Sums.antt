-- Sums over the numbers below n, and over a list that names each number as often as it is to count.
use Rattle.std.proofs.Common.{◌≡◌, ℕ, zero, suc, ◌+◌, ◌*◌, ◌<◌, ◌≤◌, Bool, true, false, cond, eqb, ltb, List, [], ◌∷◌, map, length, sum, count_by, sym, refl, ap, ◌∙◌, add-mul, add-one, arith}
use Rattle.std.specs.List.{range_with_len}
use Rattle.std.proofs.lemmas.List.FromFn.{sum_by-map-range_with_len_more}
use Rattle.std.proofs.lemmas.List.Sums.{sum_by-cons}
use Rattle.cores.specs.Counting.{bit, count, total, times, ATotalIsTheSumOfAll}
use Rattle.cores.proofs.Entries.{times_none, times_cons}

pub total_none : (f : ℕ → ℕ) → total 0 f ≡ 0
unfolding total
total_none f = refl

pub total_more : (n : ℕ) (f : ℕ → ℕ) → total (n + 1) f ≡ total n f + f n
unfolding total
total_more n f = rw add-one

-- added up one by one, or as a list
pub total_listed : ATotalIsTheSumOfAll
unfolding total
total_listed zero f = refl
total_listed (suc n) f =
    let last : sum (map f (range_with_len 0 (n + 1))) ≡ sum (map f (range_with_len 0 n)) + f n = sum_by-map-range_with_len_more (λ k. k) f 0 n n (omega arith) in
    ap (λ k. k + f n) (total_listed n f) ∙ sym last ∙ ap (λ m. sum (map f (range_with_len 0 m))) (add-one n)

pub total_same : (n : ℕ) (f g : ℕ → ℕ) → ((t : ℕ) → t < n → f t ≡ g t) → total n f ≡ total n g
unfolding total
total_same zero f g same = refl
total_same (suc n) f g same = omega (arith, total_same n f g (λ t h. same t (omega arith)), same n (omega arith))

pub total_zero : (n : ℕ) → total n (λ t. 0) ≡ 0
unfolding total
total_zero zero = refl
total_zero (suc n) = omega (arith, total_zero n)

pub total_add : (n : ℕ) (f g : ℕ → ℕ) → total n (λ t. f t + g t) ≡ total n f + total n g
unfolding total
total_add zero f g = refl
total_add (suc n) f g = omega (arith, total_add n f g)

pub total_le : (n k : ℕ) (f : ℕ → ℕ) → ((t : ℕ) → t < n → f t ≤ k) → total n f ≤ n * k
unfolding total
total_le zero k f few = omega arith
total_le (suc n) k f few = omega (arith, total_le n k f (λ t h. few t (omega arith)), few n (omega arith), add-mul n 1 k)

pub count_total : (n : ℕ) (p : ℕ → Bool) → count n p ≡ total n (λ t. bit (p t))
unfolding count total
count_total zero p = refl
count_total (suc n) p = omega (arith, count_total n p)

-- the same value at each number
total_each : (n k : ℕ) → total n (λ t. k) ≡ n * k
unfolding total
total_each zero k = omega arith
total_each (suc n) k = omega (arith, total_each n k, add-mul n 1 k)

-- one number x is counted if it is below n
pub total_one : (n x : ℕ) → total n (λ t. bit (eqb t x)) ≡ bit (ltb x n)
unfolding total bit
total_one zero x = grind arith
total_one (suc n) x = let below = total_one n x in grind arith

cond_bit : (b : Bool) → cond b 1 0 ≡ bit b
unfolding bit
cond_bit true = refl
cond_bit false = refl

-- the entries below n of a list, number by number
pub entries_below : (n : ℕ) (xs : List ℕ) → count_by (λ t. ltb t n) xs ≡ total n (λ t. times t xs)
unfolding bit
entries_below n [] = omega (arith, total_same n (λ t. times t []) (λ t. 0) (λ t h. times_none t), total_each n 0)
entries_below n (x ∷ xs) =
    let first = sum_by-cons (λ t. cond (ltb t n) 1 0) x xs in
    let split = total_same n (λ t. times t (x ∷ xs)) (λ t. bit (eqb t x) + times t xs) (λ t h. times_cons t x xs) in
    let parts = total_add n (λ t. bit (eqb t x)) (λ t. times t xs) in
    let one = total_one n x in
    let rest = entries_below n xs in
    grind arith

-- a list of numbers below n has as many entries
pub entries_all : (n : ℕ) (xs : List ℕ) → ((t : ℕ) → 0 < times t xs → t < n) → count_by (λ t. ltb t n) xs ≡ length xs
unfolding bit
entries_all n [] f = refl
entries_all n (x ∷ xs) f =
    let first = sum_by-cons (λ t. cond (ltb t n) 1 0) x xs in
    let own = times_cons x x xs in
    let below = f x in
    let rest = entries_all n xs (λ t h. f t (omega (arith, times_cons t x xs))) in
    grind arith

-- a list that names each number below n once, and nothing else, has n entries
pub once_length : (n : ℕ) (xs : List ℕ) → ((t : ℕ) → times t xs ≡ bit (ltb t n)) → length xs ≡ n
unfolding bit
once_length n xs once =
    let named = total_same n (λ t. times t xs) (λ t. 1) (λ t h. let at = once t in grind arith) in
    omega (arith, entries_below n xs, total_each n 1, entries_all n xs (λ t h. let at = once t in grind arith))
