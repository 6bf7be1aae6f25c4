-- Eight bytes of a row as a word, its lowest byte first.
use Rattle.std.proofs.Common.{◌≡◌, ℕ, zero, suc, ◌+◌, ◌-◌, ◌*◌, ◌/◌, ◌%◌, ◌^◌, ◌<◌, ◌≤◌, eqb, List, [], ◌∷◌, map, length, sum, get_or, drop, fold, reverse, sym, refl, ap, ◌∙◌, inl, inr, arith}
use Rattle.std.specs.Int.{bit_at, w64, byte_worth, sum_through, from_le_bytes}
use Rattle.std.specs.Int.RustNames.{bit_or}
use Rattle.std.specs.List.{range_with_len}
use lib.Count.{ones}
use Rattle.std.proofs.Math.ListN.{drop_of_length-le, get_or-eq_default}
use Rattle.std.proofs.lemmas.Bool.{cases_lt}
use Rattle.std.proofs.lemmas.List.{get_or-drop, drop-drop, reverse-append}
use Rattle.std.proofs.lemmas.List.Sums.{sum_by-cons, fold-append}
use Rattle.std.proofs.lemmas.Nat.{pow-add, mul-add-lt, ones_cat, or_shifted}
use Rattle.std.proofs.lemmas.Nat.Bits.{bit_at_cat_low, bit_at_cat_high}
use Rattle.view.specs.Bits.{one_at, bit_set}

-- the bits of a row counted from a byte on
ones_dropped : (bs : List ℕ) (i : ℕ) → sum (map ones (drop i bs)) ≡ ones (get_or bs i 0) + sum (map ones (drop (suc i) bs))
unfolding ones
ones_dropped [] zero = refl
ones_dropped [] (suc i) = refl
ones_dropped (b ∷ bs) zero = sum_by-cons (λ (x : ℕ). x) (ones b) (map ones bs)
ones_dropped (b ∷ bs) (suc i) = ones_dropped bs i

module _ (bs : List ℕ) (small : (k : ℕ) → get_or bs k 0 < 256) where
  -- the word up to a byte
  abbrev low : ℕ → ℕ
  low k = sum_through (λ i. byte_worth i (get_or bs i 0)) k

  worth : (k : ℕ) → 256 ^ k ≡ 2 ^ (8 * k)
  worth zero = refl
  worth (suc k) = let more : 8 * suc k ≡ 8 * k + 8 = omega arith in let one : suc k ≡ k + 1 = omega arith in omega (arith, worth k, ap (λ n. 256 ^ n) one, pow-add 256 k 1, ap (λ n. 2 ^ n) more, pow-add 2 (8 * k) 8)

  one_more : (k : ℕ) → low (suc k) ≡ get_or bs (suc k) 0 * 2 ^ (8 * suc k) + low k
  one_more k = omega (arith, ap (λ n. get_or bs (suc k) 0 * n) (worth (suc k)))

  low_small : (k : ℕ) → low k < 2 ^ (8 * suc k)
  low_small zero = small 0
  low_small (suc k) =
      let more : 8 * suc (suc k) ≡ 8 * suc k + 8 = omega arith in
      omega (arith, one_more k, mul-add-lt (get_or bs (suc k) 0) (2 ^ (8 * suc k)) (low k) 256 (small (suc k)) (low_small k), ap (λ n. 2 ^ n) more, pow-add 2 (8 * suc k) 8)

  low_bits : (k i : ℕ) → i < 8 * suc k → bit_at (low k) i ≡ bit_at (get_or bs (i / 8) 0) (i % 8)
  low_bits zero i h = let byte : i / 8 ≡ 0 = omega arith in let place : i % 8 ≡ i = omega arith in rw (byte, place) refl
  low_bits (suc k) i h =
      ap (λ n. bit_at n i) (one_more k)
      ∙ elim (cases_lt i (8 * suc k)) [
        | inl below ↦ bit_at_cat_low (get_or bs (suc k) 0) (8 * suc k) (low k) i below ∙ low_bits k i below
        | inr from ↦
            let byte : i / 8 ≡ suc k = omega arith in
            let place : i - 8 * suc k ≡ i % 8 = omega arith in
            bit_at_cat_high (get_or bs (suc k) 0) (8 * suc k) (low k) i (low_small k) from ∙ rw (byte, place) refl
      ]

  low_ones : (k : ℕ) → sum (map ones bs) ≡ ones (low k) + sum (map ones (drop (suc k) bs))
  low_ones zero = ones_dropped bs 0
  low_ones (suc k) = omega (arith, low_ones k, ap ones (one_more k), ones_cat (8 * suc k) (get_or bs (suc k) 0) (low k) (low_small k), ones_dropped bs (suc k))

-- a word with one more byte below it, and so the last bytes of a row, put together from the last one
abbrev pub with_byte : ℕ → ℕ → ℕ
with_byte w byte = bit_or (w * 2 ^ 8 % 2 ^ 64) byte

pub put_together : (bs : List ℕ) → ((k : ℕ) → get_or bs k 0 < 256) → length bs < 8 → fold with_byte 0 (reverse bs) ≡ from_le_bytes w64 bs
put_together [] small short = refl
put_together (b ∷ bs) small short =
    let behind : (k : ℕ) → get_or bs k 0 < 256 = λ k. small (suc k) in
    let none : get_or bs 7 0 ≡ 0 = get_or-eq_default bs 0 (omega arith) in
    let whole : from_le_bytes w64 bs * 2 ^ 8 % 2 ^ 64 ≡ from_le_bytes w64 bs * 2 ^ 8 = omega (arith, none, low_small bs behind 6) in
    ap (fold with_byte 0) (reverse-append (b ∷ []) bs)
    ∙ fold-append with_byte 0 (reverse bs) (b ∷ [])
    ∙ ap (λ w. with_byte w b) (put_together bs behind (omega arith))
    ∙ ap (λ w. bit_or w b) whole
    ∙ or_shifted (from_le_bytes w64 bs) 8 b (small 0)
    ∙ omega (arith, none)

-- the words of a row of bytes
abbrev pub word : List ℕ → ℕ → ℕ
word row k = from_le_bytes w64 (drop (8 * k) row)

module _ (row : List ℕ) (small : (k : ℕ) → get_or row k 0 < 256) where
  behind_small : (k i : ℕ) → get_or (drop k row) i 0 < 256
  behind_small k i = omega (arith, get_or-drop k row i 0, small (k + i))

  pub word_small : (k : ℕ) → word row k < 2 ^ 64
  word_small k = low_small (drop (8 * k) row) (behind_small (8 * k)) 7

  -- a bit of a word is a bit of the row
  pub word_bits : (k i : ℕ) → i < 64 → one_at row (64 * k + i) ≡ bit_set (word row k) i
  word_bits k i h =
      let byte : (64 * k + i) / 8 ≡ 8 * k + i / 8 = omega arith in
      let place : (64 * k + i) % 8 ≡ i % 8 = omega arith in
      ap (λ n. eqb n 1) (rw (byte, place, ← get_or-drop (8 * k) row (i / 8) 0) (sym (low_bits (drop (8 * k) row) (behind_small (8 * k)) 7 i (omega arith))))

  -- all bits that are set are those of its words
  pub words_summed : (n a : ℕ) → length row ≤ 8 * (a + n) → sum (map (λ k. ones (word row k)) (range_with_len a n)) ≡ sum (map ones (drop (8 * a) row))
  words_summed zero a h = ap (λ bs. sum (map ones bs)) (sym (drop_of_length-le row (omega arith)))
  words_summed (suc n) a h =
      let next : 8 * a + 8 ≡ 8 * (a + 1) = omega arith in
      omega (
        arith,
        words_summed n (a + 1) (omega arith),
        sum_by-cons (λ (x : ℕ). x) (ones (word row a)) (map (λ k. ones (word row k)) (range_with_len (a + 1) n)),
        low_ones (drop (8 * a) row) (behind_small (8 * a)) 7,
        ap (λ bs. sum (map ones bs)) (drop-drop 8 (8 * a) row),
        ap (λ m. sum (map ones (drop m row))) next,
      )
