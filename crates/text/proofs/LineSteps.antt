-- A text is its first line and the lines after it.
use Rattle.std.proofs.Common.{◌≡◌, ℕ, suc, ◌+◌, ◌<◌, false, eqb, List, [], ◌∷◌, length, take, drop, sym, ap, ◌∙◌, arith}
use Rattle.std.specs.List.{position_or_len, onto_first}
use Rattle.std.proofs.lemmas.List.{nil_from_length, drop-drop}
use Rattle.text.specs.Texts.{lines}
use Rattle.text.proofs.Fronts.{by_cases, one_on}

pub line_leads : (b : ℕ) (bs : List ℕ) → eqb b 10 ≡ false → lines (b ∷ bs) ≡ onto_first b (lines bs)
unfolding lines
line_leads b bs e = rw e

-- The first line goes up to the first LF, and the others begin behind it.
pub first_line : (b : ℕ) (bs : List ℕ) → lines (b ∷ bs) ≡ take (position_or_len (λ c. eqb c 10) (b ∷ bs)) (b ∷ bs) ∷ lines (drop (position_or_len (λ c. eqb c 10) (b ∷ bs) + 1) (b ∷ bs))
unfolding lines
first_line b [] = by_cases (eqb b 10) (λ e. rw e) (λ e. rw e)
first_line b (c ∷ bs) =
    let w = c ∷ bs in
    let n = position_or_len (λ c. eqb c 10) w in
    let k : suc (n + 1) ≡ suc n + 1 = omega arith in
    by_cases (eqb b 10)
    (λ e. rw e)
    (λ e. line_leads b w e ∙ ap (onto_first b) (first_line c bs) ∙ ap (λ m. (b ∷ take n w) ∷ lines (drop m (b ∷ w))) k
    ∙ ap (λ m. take m (b ∷ w) ∷ lines (drop (m + 1) (b ∷ w))) (sym (one_on (λ c. eqb c 10) b w e)))

pub no_lines : (w : List ℕ) → length w ≡ 0 → lines w ≡ []
unfolding lines
no_lines w h = ap lines (nil_from_length w h)

-- The same of what is cut off there.
pub cut_line : (w front behind rest : List ℕ) (n : ℕ) → 0 < length w → n ≡ position_or_len (λ b. eqb b 10) w → front ≡ take n w → behind ≡ drop n w → rest ≡ drop 1 behind
    → lines w ≡ front ∷ lines rest
cut_line [] front behind rest n some e f b r = absurd (omega arith)
cut_line (x ∷ xs) front behind rest n some e f b r = let all = first_line x xs in let over = r ∙ ap (drop 1) b ∙ drop-drop 1 n (x ∷ xs) in cc
