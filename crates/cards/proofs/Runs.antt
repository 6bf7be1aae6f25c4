-- The cards that were written so far.
use Rattle.std.proofs.Common.{◌≡◌, ℕ, zero, suc, ◌+◌, ◌*◌, ◌<◌, List, [], ◌∷◌, ◌++◌, map, length, set, take, drop, sym, refl, ap, ◌∙◌, inl, inr, arith, add-one, append_assoc, take-append-drop, length-set, length-drop}
use Rattle.std.specs.List.{flat_map, range_with_len}
use Rattle.std.proofs.lemmas.Bool.{cases_eq}
use Rattle.std.proofs.lemmas.List.{take_more_set, take_all, drop-set-lt, drop-drop, take-append-le, drop-append-le, drop_at}
use Rattle.std.proofs.lemmas.List.Folds.{flat_map-map}
use Rattle.std.proofs.lemmas.List.FromFn.{length-map-range_with_len, get_or-map-range_with_len, fill_by_all}
use Rattle.sheet.specs.Encoding.{field}
use Rattle.sheet.proofs.Lengths.{length-field, length-flat_map_field, station_more}

-- the bytes of the cards of the first n stations
abbrev pub cards_before : (ℕ → ℕ) → ℕ → List ℕ
cards_before card n = flat_map (λ s. field (card s)) (range_with_len 0 n)

-- as the fields of a list
as_fields : (card : ℕ → ℕ) (n : ℕ) → flat_map field (map card (range_with_len 0 n)) ≡ cards_before card n
as_fields card n = flat_map-map field card (range_with_len 0 n)

pub length-cards_before : (card : ℕ → ℕ) (n : ℕ) → length (cards_before card n) ≡ 2 * n
length-cards_before card n =
    ap length (sym (as_fields card n)) ∙ length-flat_map_field (map card (range_with_len 0 n)) ∙ ap (λ k. 2 * k) (length-map-range_with_len card 0 n)

-- the same cards give the same bytes
pub cards_alike : (card other : ℕ → ℕ) (n : ℕ) → ((s : ℕ) → s < n → card s ≡ other s) → cards_before card n ≡ cards_before other n
cards_alike card other n same =
    let listed : map card (range_with_len 0 n) ≡ map other (range_with_len 0 n) =
    fill_by_all other (map card (range_with_len 0 n)) n 0 (length-map-range_with_len card 0 n) (λ s h. get_or-map-range_with_len card 0 n s s 0 h (omega arith) ∙ same s h) in
    sym (as_fields card n) ∙ ap (flat_map field) listed ∙ as_fields other n

-- the card of each station stands at twice its number
pub card_stands : (card : ℕ → ℕ) (n s : ℕ) → s < n → take 2 (drop (2 * s) (cards_before card n)) ≡ field (card s)
card_stands card zero s h = absurd (omega arith)
card_stands card (suc n) s h =
    let before = cards_before card n in
    let long = length-cards_before card n in
    let more : cards_before card (suc n) ≡ before ++ field (card n) = ap (cards_before card) (sym (add-one n)) ∙ station_more (λ s. field (card s)) n in
    rw more (elim (cases_eq s n) [
      | inl same ↦ rw same (ap (take 2) (drop_at before (field (card n)) (2 * n) long) ∙ take_all 2 (field (card n)) (omega (arith, length-field (card n))))
      | inr other ↦
          ap (take 2) (drop-append-le (2 * s) before (field (card n)) (omega (arith, long)))
          ∙ take-append-le 2 (drop (2 * s) before) (field (card n)) (omega (arith, long, length-drop (2 * s) before))
          ∙ card_stands card n s (omega arith)
    ])

-- they stand in the front of a buffer, and behind them is what stood there
pub record Written (card : ℕ → ℕ) (n : ℕ) (old out : List ℕ) : Type 0 where
  pub long : length out ≡ length old
  pub front : take (2 * n) out ≡ cards_before card n
  pub behind : drop (2 * n) out ≡ drop (2 * n) old

pub written_none : (card : ℕ → ℕ) (old : List ℕ) → Written card 0 old old
written_none card old = record { long = refl; front = refl; behind = refl }

pub written_all : (card : ℕ → ℕ) (n : ℕ) (old out : List ℕ) → Written card n old out → out ≡ cards_before card n ++ drop (2 * n) old
written_all card n old out w = sym (take-append-drop (2 * n) out) ∙ rw (w.front, w.behind) refl

pub written_more : (card : ℕ → ℕ) (n low high : ℕ) (old out : List ℕ) → 2 * n + 1 < length old → low ∷ high ∷ [] ≡ field (card n)
    → Written card n old out → Written card (n + 1) old (set (set out (2 * n) low) (2 * n + 1) high)
written_more card n low high old out room bytes w =
    let once = set out (2 * n) low in
    let twice = set once (2 * n + 1) high in
    let long_once = length-set out (2 * n) low in
    let next : 2 * (n + 1) ≡ 2 * n + 1 + 1 = omega arith in
    let same : 2 * n + 2 ≡ 2 * (n + 1) = omega arith in
    record {
      long = length-set once (2 * n + 1) high ∙ long_once ∙ w.long;
      front =
          ap (λ k. take k twice) next ∙ take_more_set once (2 * n + 1) high (omega (arith, long_once, w.long))
          ∙ ap (λ xs. xs ++ high ∷ []) (take_more_set out (2 * n) low (omega (arith, w.long)))
          ∙ append_assoc (take (2 * n) out) (low ∷ []) (high ∷ [])
          ∙ rw (w.front, bytes) (sym (station_more (λ s. field (card s)) n));
      behind =
          drop-set-lt (2 * (n + 1)) once (2 * n + 1) high (omega arith)
          ∙ drop-set-lt (2 * (n + 1)) out (2 * n) low (omega arith)
          ∙ ap (λ k. drop k out) (sym same) ∙ sym (drop-drop 2 (2 * n) out)
          ∙ ap (drop 2) w.behind ∙ drop-drop 2 (2 * n) old ∙ ap (λ k. drop k old) same;
    }
