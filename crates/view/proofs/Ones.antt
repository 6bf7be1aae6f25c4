-- The first bit that is set in a row of bytes from a bit on, looked for a word at a time.
use Rattle.std.proofs.Common.{◌≡◌, ℕ, zero, suc, ◌+◌, ◌-◌, ◌*◌, ◌/◌, ◌%◌, ◌^◌, ◌<◌, ◌≤◌, ◌≢◌, Bool, true, false, eqb, cond, List, [], ◌∷◌, filter, length, get_or, Some, sym, refl, ap, ◌∙◌, inl, inr, arith}
use Rattle.std.specs.Int.{bit_at, trailing_zeros, w64}
use Rattle.std.specs.List.{range_with_len, find, slice_get}
use Rattle.std.proofs.Math.ListN.{get_or-eq_default}
use Rattle.std.proofs.lemmas.Bool.{cases_lt, both_ways}
use Rattle.std.proofs.lemmas.Nat.{shr-shr, shr_le}
use Rattle.std.proofs.lemmas.Nat.Bits.{bit_at-zero, bit_at_above, bit_at-trailing_zeros}
use Rattle.view.specs.Bits.{bit_set, one_at}
use Rattle.view.specs.Rows.{StandsBefore}
use Rattle.view.proofs.Words.{word, word_small, word_bits}

-- a search along a range, past those that do not pass
find_behind : (p : ℕ → Bool) (a k m : ℕ) → ((i : ℕ) → i < k → p (a + i) ≡ false) → find p (range_with_len a (k + m)) ≡ find p (range_with_len (a + k) m)
find_behind p a zero m none = let same : a ≡ a + 0 = omega arith in let long : 0 + m ≡ m = omega arith in ap (λ n. find p (range_with_len a n)) long ∙ ap (λ b. find p (range_with_len b m)) same
find_behind p a (suc k) m none =
    let long : suc k + m ≡ suc (k + m) = omega arith in
    let here : a + 0 ≡ a = omega arith in
    let next : a + 1 + k ≡ a + suc k = omega arith in
    ap (λ n. find p (range_with_len a n)) long
    ∙ rw (sym (ap p here) ∙ none 0 (omega arith)) (
    find_behind p (a + 1) k m (λ i h. let at : a + 1 + i ≡ a + suc i = omega arith in ap p at ∙ none (suc i) (omega arith))
    ∙ ap (λ b. find p (range_with_len b m)) next
    )

find_here : (p : ℕ → Bool) (a k n : ℕ) → k < n → ((i : ℕ) → i < k → p (a + i) ≡ false) → p (a + k) ≡ true → find p (range_with_len a n) ≡ Some (a + k)
find_here p a k n h none here =
    let long : n ≡ k + suc (n - k - 1) = omega arith in
    ap (λ m. find p (range_with_len a m)) long ∙ find_behind p a k (suc (n - k - 1)) none ∙ rw here refl

-- no bit is set behind the end of a row
pub one_past : (row : List ℕ) (t : ℕ) → length row ≤ t / 8 → one_at row t ≡ false
one_past row t h = ap (λ byte. bit_set byte (t % 8)) (get_or-eq_default row 0 h) ∙ ap (λ n. eqb n 1) (bit_at-zero (t % 8))

one_within : (row : List ℕ) (t : ℕ) → one_at row t ≡ true → t < 8 * length row
one_within row t one = elim (cases_lt (t / 8) (length row)) [
  | inl l ↦ omega arith
  | inr past ↦ absurd (both_ways (one_at row t) (one_past row t past) one)
]

module _ (row : List ℕ) (small : (k : ℕ) → get_or row k 0 < 256) (bit w : ℕ) (is : w ≡ word row (bit / 64)) where
  -- what is left of the word of a bit, from the bit on
  abbrev rest : ℕ
  rest = w / 2 ^ (bit % 64)

  small_word : w < 2 ^ 64
  small_word = omega (arith, is, word_small row small (bit / 64))

  in_word : (i : ℕ) → bit % 64 + i < 64 → one_at row (bit + i) ≡ eqb (bit_at rest i) 1
  in_word i h =
      let place : bit + i ≡ 64 * (bit / 64) + (bit % 64 + i) = omega arith in
      ap (one_at row) place ∙ word_bits row small (bit / 64) (bit % 64 + i) h ∙ ap (λ n. bit_set n (bit % 64 + i)) (sym is) ∙ ap (λ n. eqb (n % 2) 1) (sym (shr-shr w (bit % 64) i))

  none_in_word : rest ≡ 0 → (i : ℕ) → bit % 64 + i < 64 → one_at row (bit + i) ≡ false
  none_in_word e i h = in_word i h ∙ ap (λ n. eqb (bit_at n i) 1) e ∙ ap (λ n. eqb n 1) (bit_at-zero i)

  -- the first bit is in this word, or in those behind it
  pub found_in_word : 0 < rest → find (one_at row) (range_with_len bit (8 * length row - bit)) ≡ Some (bit + trailing_zeros w64 rest)
  found_in_word some =
      let (short, set, clear) = bit_at-trailing_zeros w64 rest some (omega (arith, small_word, shr_le w (bit % 64))) in
      let k = trailing_zeros w64 rest in
      let here : bit % 64 + k < 64 = elim (cases_lt (bit % 64 + k) 64) [
        | inl l ↦ l
        | inr far ↦ absurd (omega (arith, set, ap (λ n. n % 2) (shr-shr w (bit % 64) k), bit_at_above w 64 (bit % 64 + k) small_word far))
      ] in
      let one : one_at row (bit + k) ≡ true = in_word k here ∙ ap (λ n. eqb n 1) set in
      find_here (one_at row) bit k (8 * length row - bit) (omega (arith, one_within row (bit + k) one)) (λ i h. in_word i (omega arith) ∙ ap (λ n. eqb n 1) (clear i h)) one

  pub found_behind : bit < 8 * length row → rest ≡ 0
      → find (one_at row) (range_with_len bit (8 * length row - bit)) ≡ find (one_at row) (range_with_len (64 * (bit / 64 + 1)) (8 * length row - 64 * (bit / 64 + 1)))
  found_behind on none =
      let end = 8 * length row in
      let next = 64 * (bit / 64 + 1) in
      let clear : (i : ℕ) → i < next - bit → one_at row (bit + i) ≡ false = λ i h. none_in_word none i (omega arith) in
      elim (cases_lt end next) [
        | inl last ↦
            let long : end - bit ≡ (end - bit) + 0 = omega arith in
            let over : 0 ≡ end - next = omega arith in
            ap (λ n. find (one_at row) (range_with_len bit n)) long
            ∙ find_behind (one_at row) bit (end - bit) 0 (λ i h. clear i (omega arith))
            ∙ ap (λ n. find (one_at row) (range_with_len next n)) over
        | inr more ↦
            let long : end - bit ≡ (next - bit) + (end - next) = omega arith in
            let from : bit + (next - bit) ≡ next = omega arith in
            ap (λ n. find (one_at row) (range_with_len bit n)) long
            ∙ find_behind (one_at row) bit (next - bit) (end - next) clear
            ∙ ap (λ b. find (one_at row) (range_with_len b (end - next))) from
      ]

-- the first of what a test keeps is what a search finds
pub first_kept : (p : ℕ → Bool) (xs : List ℕ) → slice_get (filter p xs) 0 ≡ find p xs
first_kept p [] = refl
first_kept p (x ∷ xs) = let rest = first_kept p xs in grind arith

-- and the next is what a search finds from there on
module _ (p : ℕ → Bool) (b : ℕ) where
  abbrev Next : ℕ → ℕ → List ℕ → ℕ → Type 0
  Next a n xs i = (a ≤ b) × (b < a + n) × (slice_get xs (i + 1) ≡ find p (range_with_len (b + 1) (a + n - (b + 1))))

  next_kept : (a n i : ℕ) → slice_get (filter p (range_with_len a n)) i ≡ Some b → Next a n (filter p (range_with_len a n)) i
  next_kept a zero i e = absurd (cc)
  next_kept a (suc n) i e = step (p a) i e (next_kept (a + 1) n)
    where
      kept : List ℕ
      kept = filter p (range_with_len (a + 1) n)

      size : a + 1 + n ≡ a + suc n
      size = omega arith

      further : (i : ℕ) → Next (a + 1) n kept i → Next a (suc n) kept i
      further i (low, high, next) = (omega arith, omega arith, next ∙ ap (λ m. find p (range_with_len (b + 1) (m - (b + 1)))) size)

      step : (q : Bool) (i : ℕ) → slice_get (cond q (a ∷ kept) kept) i ≡ Some b → ((j : ℕ) → slice_get kept j ≡ Some b → Next (a + 1) n kept j)
          → Next a (suc n) (cond q (a ∷ kept) kept) i
      step false i e below = further i (below i e)
      step true zero e below =
          let here : a ≡ b = cc in
          let left : n ≡ a + suc n - (b + 1) = omega arith in
          (omega arith, omega arith, first_kept p (range_with_len (a + 1) n) ∙ ap (λ k. find p (range_with_len (k + 1) n)) here ∙ ap (λ m. find p (range_with_len (b + 1) m)) left)
      step true (suc i) e below =
          let (low, high, next) = further i (below i e) in
          let place : suc i + 1 ≡ suc (i + 1) = omega arith in
          (low, high, ap (slice_get (a ∷ kept)) place ∙ next)

-- so is the one at a place, behind the one at the place before
pub kept_behind : (p : ℕ → Bool) (n place before : ℕ) → StandsBefore (filter p (range_with_len 0 n)) place before → place ≢ 0
    → (before < n) × (slice_get (filter p (range_with_len 0 n)) place ≡ find p (range_with_len (before + 1) (n - (before + 1))))
kept_behind p n place before h some =
    let i = place - 1 in
    let at : i + 1 ≡ place = omega arith in
    let (_, on, next) = next_kept p before 0 n i (h i at) in
    let size : 0 + n - (before + 1) ≡ n - (before + 1) = omega arith in
    (omega arith, ap (slice_get (filter p (range_with_len 0 n))) (sym at) ∙ next ∙ ap (λ m. find p (range_with_len (before + 1) m)) size)
