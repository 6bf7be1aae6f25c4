-- The bits that are set in a byte, and in a row of bytes.
use Rattle.std.proofs.Common.{◌≡◌, ℕ, zero, suc, ◌+◌, ◌-◌, ◌*◌, ◌<◌, ◌≤◌, Bool, true, false, cond, eqb, List, [], ◌∷◌, ◌++◌, map, length, filter, sum, get_or, drop, Some, None, option_map, sym, refl, ap, ap₂, ◌∙◌, add-one, drop-cons, arith, length-append}
use Rattle.std.specs.List.{range_with_len, slice_get}
use lib.Count.{ones, ones_in, ones-le}
use Rattle.std.proofs.Math.ListN.{drop_of_length-le}
use Rattle.std.proofs.Math.Nat.{sub-zero}
use Rattle.std.proofs.lemmas.Bool.{eqb-true}
use Rattle.std.proofs.lemmas.List.{length-map}
use Rattle.std.proofs.lemmas.List.Sums.{sum_by-cons}
use Rattle.std.proofs.lemmas.List.Elements.{filter-append}
use Rattle.std.proofs.lemmas.Option.{slice_get-map, slice_get_within, get_or_from_slice_get}
use Rattle.cores.specs.Counting.{bit, all, times}
use Rattle.cores.proofs.Entries.{times_at}
use Rattle.cores.proofs.Searches.{all_at}
use Rattle.view.specs.Bits.{bit_set, ones_of, ones_from}
use Rattle.view.proofs.Filtered.{kept_times}
use Rattle.view.proofs.Ranges.{range_parts, range_times, kept_further}

-- how many bits of a byte are set, tried at each byte
each_byte : all 256 (λ b. eqb (length (ones_of b)) (ones b)) ≡ true
unfolding all ones_of ones ones_in
each_byte = refl

pub ones_counted : (b : ℕ) → b < 256 → length (ones_of b) ≡ ones b
ones_counted b h = eqb-true _ _ (all_at 256 (λ b. eqb (length (ones_of b)) (ones b)) b each_byte h)

pub bytes_listed : (p : ℕ → Bool) (bs : List ℕ) (base : ℕ) → ((k i : ℕ) → k < length bs → i < 8 → p (base + 8 * k + i) ≡ bit_set (get_or bs k 0) i)
    → filter p (range_with_len base (8 * length bs)) ≡ ones_from base bs
unfolding ones_of ones_from
bytes_listed p [] base same = refl
bytes_listed p (b ∷ bs) base same =
    let more : 8 * length (b ∷ bs) ≡ 8 + 8 * length bs = omega arith in
    let start : base ≡ base + 0 = omega arith in
    let first : filter p (range_with_len base 8) ≡ map (λ i. base + i) (ones_of b) =
    ap (λ k. filter p (range_with_len k 8)) start ∙ kept_further p (bit_set b) base 0 8 (λ i h. let at : base + i ≡ base + 8 * 0 + i = omega arith in ap p at ∙ same 0 i (omega arith) (omega arith)) in
    let rest = bytes_listed p bs (base + 8) (λ k i h l. let at : base + 8 + 8 * k + i ≡ base + 8 * suc k + i = omega arith in ap p at ∙ same (suc k) i (omega arith) l) in
    ap (λ n. filter p (range_with_len base n)) more
    ∙ ap (filter p) (range_parts base 8 (8 * length bs))
    ∙ filter-append p (range_with_len base 8) (range_with_len (base + 8) (8 * length bs))
    ∙ ap₂ (λ xs ys. xs ++ ys) first rest

pub ones_summed : (bs : List ℕ) (base : ℕ) → ((k : ℕ) → k < length bs → get_or bs k 0 < 256) → length (ones_from base bs) ≡ sum (map ones bs)
unfolding ones_from
ones_summed [] base small = refl
ones_summed (b ∷ bs) base small =
    let first = ones_counted b (small 0 (omega arith)) in
    let rest = ones_summed bs (base + 8) (λ k h. small (suc k) (omega arith)) in
    let parts = length-append (map (λ i. base + i) (ones_of b)) (ones_from (base + 8) bs) in
    let moved = length-map (ones_of b) (λ i. base + i) in
    let all = sum_by-cons (λ (x : ℕ). x) (ones b) (map ones bs) in
    grind arith

-- a place in two lists, one behind the other
pub place_in_front : (xs ys : List ℕ) (i : ℕ) → i < length xs → slice_get (xs ++ ys) i ≡ slice_get xs i
place_in_front [] ys i h = absurd (omega arith)
place_in_front (x ∷ xs) ys zero h = refl
place_in_front (x ∷ xs) ys (suc i) h = place_in_front xs ys i (omega arith)

pub place_behind : (xs ys : List ℕ) (i : ℕ) → length xs ≤ i → slice_get (xs ++ ys) i ≡ slice_get ys (i - length xs)
place_behind [] ys i h = rw sub-zero refl
place_behind (x ∷ xs) ys zero h = absurd (omega arith)
place_behind (x ∷ xs) ys (suc i) h = let past : i - length xs ≡ suc i - suc (length xs) = omega arith in place_behind xs ys i (omega arith) ∙ ap (slice_get ys) past

-- at most eight bits of each byte are set
pub ones_few : (bs : List ℕ) → ((k : ℕ) → k < length bs → get_or bs k 0 < 256) → sum (map ones bs) ≤ 8 * length bs
ones_few [] small = omega arith
ones_few (b ∷ bs) small =
    let rest = ones_few bs (λ k h. small (suc k) (omega arith)) in
    omega (arith, ones-le 8 b (small 0 (omega arith)), sum_by-cons (λ (x : ℕ). x) (ones b) (map ones bs))

-- a byte has eight bits
among : (p : Bool) (n m : ℕ) → 0 < n → n ≡ cond p m 0 → 0 < m
among true n m h e = omega arith
among false n m h e = absurd (omega arith)

in_range : (x : ℕ) → 0 < times x (range_with_len 0 8) → x < 8
unfolding bit
in_range x h = let low = range_times x 0 8 in grind arith

pub ones_below : (b i x : ℕ) → Some x ≡ slice_get (ones_of b) i → x < 8
unfolding ones_of
ones_below b i x e =
    let xs = filter (bit_set b) (range_with_len 0 8) in
    let at = times_at x xs i (slice_get_within xs i x (sym e)) (get_or_from_slice_get xs i x 0 (sym e)) in
    in_range x (among (bit_set b x) (times x xs) (times x (range_with_len 0 8)) at (kept_times (bit_set b) x (range_with_len 0 8)))

-- one byte further: a place is in this byte, or in those behind it
module _ (bs : List ℕ) (i left : ℕ) (on : i < length bs) (small : get_or bs i 0 < 256) where
  next_byte : ones_from (8 * i) (drop i bs) ≡ map (λ k. 8 * i + k) (ones_of (get_or bs i 0)) ++ ones_from (8 * (i + 1)) (drop (i + 1) bs)
  unfolding ones_from
  next_byte =
      let next : 8 * i + 8 ≡ 8 * (i + 1) = omega arith in
      ap (ones_from (8 * i)) (drop-cons bs i 0 on)
      ∙ ap (λ n. map (λ k. 8 * i + k) (ones_of (get_or bs i 0)) ++ ones_from n (drop (suc i) bs)) next
      ∙ ap (λ n. map (λ k. 8 * i + k) (ones_of (get_or bs i 0)) ++ ones_from (8 * (i + 1)) (drop n bs)) (sym (add-one i))

  many : length (map (λ k. 8 * i + k) (ones_of (get_or bs i 0))) ≡ ones (get_or bs i 0)
  many = length-map (ones_of (get_or bs i 0)) (λ k. 8 * i + k) ∙ ones_counted (get_or bs i 0) small

  pub in_this_byte : left < ones (get_or bs i 0) → slice_get (ones_from (8 * i) (drop i bs)) left ≡ option_map (λ k. 8 * i + k) (slice_get (ones_of (get_or bs i 0)) left)
  in_this_byte h =
      ap (λ xs. slice_get xs left) next_byte
      ∙ place_in_front (map (λ k. 8 * i + k) (ones_of (get_or bs i 0))) _ left (omega (arith, many))
      ∙ slice_get-map (λ k. 8 * i + k) (ones_of (get_or bs i 0)) left

  pub behind_this_byte : ones (get_or bs i 0) ≤ left → slice_get (ones_from (8 * i) (drop i bs)) left ≡ slice_get (ones_from (8 * (i + 1)) (drop (i + 1) bs)) (left - ones (get_or bs i 0))
  behind_this_byte h =
      ap (λ xs. slice_get xs left) next_byte
      ∙ place_behind (map (λ k. 8 * i + k) (ones_of (get_or bs i 0))) _ left (omega (arith, many))
      ∙ ap (λ n. slice_get (ones_from (8 * (i + 1)) (drop (i + 1) bs)) (left - n)) many

-- behind the last byte there is no place
pub past_the_bytes : (bs : List ℕ) (i left : ℕ) → length bs ≤ i → slice_get (ones_from (8 * i) (drop i bs)) left ≡ None
unfolding ones_from
past_the_bytes bs i left h = ap (λ xs. slice_get (ones_from (8 * i) xs) left) (drop_of_length-le bs h)
