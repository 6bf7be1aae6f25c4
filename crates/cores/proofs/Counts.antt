-- How many numbers below n pass a test, compared with how many pass another.
use Rattle.std.proofs.Common.{◌≡◌, ℕ, zero, suc, ◌+◌, ◌<◌, ◌≤◌, Bool, true, false, cond, ◌&&◌, ltb, count_by, sym, refl, ap, ◌∙◌, ap₂, add-one, arith}
use Rattle.std.specs.List.{range_with_len}
use Rattle.std.proofs.lemmas.List.{map-id}
use Rattle.std.proofs.lemmas.List.FromFn.{sum_by-map-range_with_len_more}
use Rattle.std.proofs.lemmas.List.Sums.{length-filter}
use Rattle.cores.specs.Counting.{bit, count, ACountIsHowManyPass}
use Rattle.cores.specs.Numbers.{Group, without}
use Rattle.cores.proofs.Searches.{by_cases}

pub bit_true : (b : Bool) → b ≡ true → bit b ≡ 1
unfolding bit
bit_true b e = ap bit e

pub bit_false : (b : Bool) → b ≡ false → bit b ≡ 0
unfolding bit
bit_false b e = ap bit e

pub bit_le : (b : Bool) → bit b ≤ 1
unfolding bit
bit_le b = grind arith

-- counted one by one, or by a list of those that pass
pub count_kept : ACountIsHowManyPass
unfolding count bit
count_kept n p = listed n ∙ sym (length-filter p (range_with_len 0 n))
  where
    bit_cond : (b : Bool) → bit b ≡ cond b 1 0
    bit_cond true = refl
    bit_cond false = refl

    listed : (n : ℕ) → count n p ≡ count_by p (range_with_len 0 n)
    listed zero = refl
    listed (suc n) =
        let last = sum_by-map-range_with_len_more (λ t. cond (p t) 1 0) (λ t. t) 0 n n (omega arith) in
        let step : count_by p (range_with_len 0 (suc n)) ≡ count_by p (range_with_len 0 n) + cond (p n) 1 0 =
        ap (λ m. count_by p (range_with_len 0 m)) (sym (add-one n))
        ∙ ap (count_by p) (sym (map-id (range_with_len 0 (n + 1))))
        ∙ last
        ∙ ap (λ xs. count_by p xs + cond (p n) 1 0) (map-id (range_with_len 0 n)) in
        ap₂ (λ k d. k + d) (listed n) (bit_cond (p n)) ∙ sym step

-- one number more
pub count_more : (n : ℕ) (p : Group) → count (n + 1) p ≡ count n p + bit (p n)
unfolding count
count_more n p = rw add-one

pub count_le : (n : ℕ) (p : ℕ → Bool) → count n p ≤ n
unfolding count
count_le zero p = omega arith
count_le (suc n) p = omega (arith, count_le n p, bit_le (p n))

-- p lies in q
pub count_mono : (n : ℕ) (p q : Group) → ((t : ℕ) → t < n → p t ≡ true → q t ≡ true) → count n p ≤ count n q
unfolding count bit
count_mono zero p q f = omega arith
count_mono (suc n) p q f = let below = count_mono n p q (λ t h. f t (omega arith)) in let here = f n (omega arith) in grind arith

-- one member less
pub count_without : (n : ℕ) (p : Group) (m : ℕ) → m < n → p m ≡ true → count n (without m p) + 1 ≡ count n p
unfolding count bit without
count_without zero p m h e = absurd (omega arith)
count_without (suc n) p m h e =
    let below = count_without n p m in
    let up : m ≡ n → count n p ≤ count n (without m p) = λ d. count_mono n p (without m p) (λ t l x. grind arith) in
    let down : count n (without m p) ≤ count n p = count_mono n (without m p) p (λ t l x. grind arith) in
    grind arith

-- p lies in q, and m in q alone
pub count_lt : (n : ℕ) (p q : Group) (m : ℕ) → m < n → ((t : ℕ) → t < n → p t ≡ true → q t ≡ true) → p m ≡ false → q m ≡ true → count n p < count n q
unfolding without
count_lt n p q m h f out within =
    let kept : count n p ≤ count n (without m q) = count_mono n p (without m q) (λ t l x. let also = f t l x in grind arith) in
    omega (arith, count_without n q m h within)

-- p lies in q, and q counts no more: q lies in p
pub count_same : (n : ℕ) (p q : Group) → ((t : ℕ) → t < n → p t ≡ true → q t ≡ true) → count n q ≤ count n p → (t : ℕ) → t < n → q t ≡ true → p t ≡ true
count_same n p q f few t h x = by_cases (p t) (λ e. e) (λ e. absurd (omega (arith, count_lt n p q t h f e x)))

-- q lies in p, but perhaps for one m
pub count_but_one : (n : ℕ) (p q : Group) (m : ℕ) → ((t : ℕ) → t < n → q t ≡ true → (t ≡ m → ⊥) → p t ≡ true) → count n q ≤ count n p + 1
unfolding without
count_but_one n p q m f =
    let rest : count n (without m q) ≤ count n p = count_mono n (without m q) p (λ t h x. let but = f t h in grind arith) in
    by_cases (ltb m n && q m)
    (λ e. omega (arith, count_without n q m (grind arith) (grind arith)))
    (λ e. omega (arith, count_mono n q (without m q) (λ t h x. grind arith)))
