-- Sets of stations: a bit that changes, and the lowest that is set.
use Rattle.std.proofs.Common.{◌≡◌, ℕ, zero, suc, ◌+◌, ◌*◌, ◌/◌, ◌%◌, ◌^◌, ◌<◌, ◌≤◌, ◌==◌, true, false, cond, eqb, List, [], Some, None, length, set, get_or, replicate, refl, ap, ◌∙◌, subst, inl, inr, arith, w64, bit_or, bit_and}
use Rattle.std.specs.Int.{bit_at, bit_not, trailing_zeros}
use Rattle.std.proofs.lemmas.Bool.{both_ways, cases_eq, cases_lt}
use Rattle.std.proofs.lemmas.List.{get_or-set_same, get_or-set_other}
use Rattle.std.proofs.lemmas.Nat.Bits.{bit_at-zero, bit_at_set_same, bit_at_set_other, bit_at_clear_same, bit_at_clear_other, bit_at-trailing_zeros}
use Rattle.std.proofs.Math.ListN.{get_or-eq_default}
use Rattle.cores.specs.Numbers.{including, without}
use Rattle.view.specs.Bits.{bit_set}
use Rattle.drawer.specs.Stations.{is_in, IsFirst}

-- a list of one value
pub all_same : {A : Type 0} (x : A) (n k : ℕ) → get_or (replicate n x) k x ≡ x
all_same x zero k = refl
all_same x (suc n) zero = refl
all_same x (suc n) (suc k) = all_same x n k

no_bit : (i : ℕ) → bit_set 0 i ≡ false
no_bit i = ap (λ b. b == 1) (bit_at-zero i)

pub in_none : (t : ℕ) → is_in (record { words = replicate 8 0 }) t ≡ false
in_none t = ap (λ w. bit_set w (t % 64)) (all_same 0 8 (t / 64)) ∙ no_bit (t % 64)

pub in_no_words : (t : ℕ) → is_in (record { words = [] }) t ≡ false
in_no_words t = no_bit (t % 64)

module _ (words : List ℕ) (s : ℕ) (within : s < 64 * length words) where
  abbrev pub word : ℕ
  word = get_or words (s / 64) 0

  -- in the word of s no other bit changes
  bit_changed : (v : ℕ) → ((i : ℕ) → i < 64 → (i ≡ s % 64 → ⊥) → bit_at v i ≡ bit_at word i)
      → (t : ℕ) → is_in (record { words = set words (s / 64) v }) t ≡ cond (eqb t s) (bit_set v (s % 64)) (is_in (record { words = words }) t)
  bit_changed v others t = elim (cases_eq (t / 64) (s / 64)) [
    | inl same ↦
        let here = get_or-set_same words (s / 64) v 0 (omega arith) in
        elim (cases_eq (t % 64) (s % 64)) [
          | inl place ↦ let it : t ≡ s = omega arith in rw (it, here) (grind arith)
          | inr apart ↦ let stays = ap (λ b. b == 1) (others (t % 64) (omega arith) apart) in rw (same, here) (grind arith)
        ]
    | inr other ↦ let elsewhere = get_or-set_other words (s / 64) (t / 64) v 0 other in rw elsewhere (grind arith)
  ]

  pub put_in : (t : ℕ) → is_in (record { words = set words (s / 64) (bit_or word (1 * 2 ^ (s % 64) % 2 ^ 64)) }) t ≡ including s (is_in (record { words = words })) t
  unfolding including
  put_in t =
      let changed = bit_changed _ (λ i low apart. bit_at_set_other w64 word (s % 64) (omega arith) i apart) t in
      let here = bit_at_set_same w64 word (s % 64) (omega arith) in
      grind arith

  pub taken_out : (t : ℕ) → is_in (record { words = set words (s / 64) (bit_and word (bit_not w64 (1 * 2 ^ (s % 64) % 2 ^ 64))) }) t ≡ without s (is_in (record { words = words })) t
  unfolding without
  taken_out t =
      let changed = bit_changed _ (λ i low apart. bit_at_clear_other w64 word (s % 64) (omega arith) i low apart) t in
      let here = bit_at_clear_same w64 word (s % 64) (omega arith) in
      grind arith

module _ (words : List ℕ) (place : ℕ) (before : (i : ℕ) → i < place → get_or words i 0 ≡ 0) where
  -- the words before hold nobody
  none_before : (t : ℕ) → t / 64 < place → is_in (record { words = words }) t ≡ false
  none_before t low = ap (λ w. bit_set w (t % 64)) (before (t / 64) low) ∙ no_bit (t % 64)

  pub first_found : 0 < get_or words place 0 → get_or words place 0 < 2 ^ 64 → IsFirst (is_in (record { words = words })) (Some (64 * place + trailing_zeros w64 (get_or words place 0)))
  first_found some fits = (λ e. absurd cc, λ s e. let same : 64 * place + n ≡ s = cc in subst Leading same leading)
    where
      n : ℕ
      n = trailing_zeros w64 (get_or words place 0)

      Leading : ℕ → Type 0
      Leading s = (is_in (record { words = words }) s ≡ true) × ((t : ℕ) → is_in (record { words = words }) t ≡ true → s ≤ t)

      leading : Leading (64 * place + n)
      leading =
          let (low, lowest, unset) = bit_at-trailing_zeros w64 (get_or words place 0) some fits in
          let block : (64 * place + n) / 64 ≡ place = omega arith in
          let offset : (64 * place + n) % 64 ≡ n = omega arith in (
            rw (block, offset) (ap (λ b. b == 1) lowest),
            λ t in_t. elim (cases_lt (t / 64) place) [
              | inl before ↦ absurd (both_ways _ (none_before t before) in_t)
              | inr past ↦ elim (cases_lt t (64 * place + n)) [
                | inl below ↦
                    let same : t / 64 ≡ place = omega arith in
                    let clear = ap (λ b. b == 1) (unset (t % 64) (omega arith)) in
                    absurd (both_ways _ (rw same clear) in_t)
                | inr above ↦ omega arith
              ]
            ],
          )

  pub none_found : length words ≤ place → IsFirst (is_in (record { words = words })) None
  none_found end = (
    λ e t. elim (cases_lt (t / 64) place) [
      | inl low ↦ none_before t low
      | inr past ↦ ap (λ w. bit_set w (t % 64)) (get_or-eq_default words 0 (omega arith)) ∙ no_bit (t % 64)
    ],
    λ s e. absurd cc,
  )
