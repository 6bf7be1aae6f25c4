-- The byte that leads a line.
use Rattle.std.proofs.Common.{◌≡◌, ℕ, ◌-◌, ◌<◌, List, [], ◌∷◌, length, take, drop, Some, None, true, false, cond, ◌||◌, is_some, refl, sym, ap, ◌∙◌, arith, slice_index, slice_index_or, subst}
use Rattle.std.specs.Char.{is_ascii_digit}
use Rattle.std.specs.List.{slice_get}
use Rattle.std.proofs.lemmas.Bool.{or_right}
use Rattle.std.proofs.lemmas.Grind.{common_steps}
use Rattle.text.specs.Laws.{Stands}
use Rattle.text.specs.Texts.{Part, tokens_of}
use Rattle.text.proofs.Fronts.{by_cases}
use Rattle.text.proofs.TokenLaws.{stand}
use Rattle.survey.specs.declared.word.Word.{Word}
use Rattle.survey.specs.declared.word.Word.TheVariants.{Letter, Number, Comment}
use Rattle.survey.specs.Words.{IsFirst, is_comment, is_letter, number_by, lead_of, lead_by}
use Rattle.survey.proofs.Numerals.{no_digit}

-- What begins with some bytes has their first one.
first_there : (bs there : List ℕ) → 0 < length bs → take (length bs) there ≡ bs → slice_get there 0 ≡ Some (slice_index bs 0)
first_there [] there some h = absurd (omega (arith, some))
first_there (b ∷ bs) [] some h = absurd (cc h)
first_there (b ∷ bs) (x ∷ xs) some h = ap (λ (l : List ℕ). Some (slice_index l 0)) h

first_of : (bs : List ℕ) → 0 < length bs → slice_get bs 0 ≡ Some (slice_index bs 0)
first_of [] some = absurd (omega (arith, some))
first_of (b ∷ bs) some = refl

-- A number begins with a digit.
digit_first : (bs : List ℕ) → is_some (number_by bs) ≡ true → is_ascii_digit (slice_index bs 0) ≡ true
digit_first bs h = by_cases (is_ascii_digit (slice_index bs 0)) (λ digit. digit) (λ none. absurd (cc (h, no_digit bs none)))

leads : (bs : List ℕ) → (is_comment bs || is_letter bs) ≡ true → lead_by bs ≡ Some (slice_index bs 0)
leads bs h = ap (λ t. cond t (Some (slice_index bs 0)) None) h

leads_not : (bs : List ℕ) → (is_comment bs || is_letter bs) ≡ false → lead_by bs ≡ None
leads_not bs h = ap (λ t. cond t (Some (slice_index bs 0)) None) h

-- What the first word of a line is decides.
pub lead_is : (line : List ℕ) (first : Part) → Stands line first → (word : Word) → IsFirst word line first → lead_of word ≡ lead_by first.bytes
lead_is line first stands (Letter b) h = ap (λ bs. slice_get bs 0) h.0 ∙ first_of first.bytes stands.some ∙ sym (leads first.bytes (or_right (is_comment first.bytes) (is_letter first.bytes) h.1))
lead_is line first stands (Number b) h = let digit = digit_first first.bytes h.1 in sym (leads_not first.bytes (grind (arith, common_steps)))
lead_is line first stands (Comment b) h =
    ap (λ bs. slice_get bs 0) h.0 ∙ first_there first.bytes (drop (first.byte - 1) line) stands.some stands.there ∙ sym (leads first.bytes (ap (λ t. t || is_letter first.bytes) h.1))

-- The first word of a line stands in it.
pub first_stands : (line : List ℕ) {first : Part} {others : List Part} → tokens_of line ≡ first ∷ others → Stands line first
first_stands line {first} {others} cut =
    let some : 0 < length (tokens_of line) = subst (λ ps. 0 < length ps) (sym cut) (omega arith) in
    let there : slice_index_or (tokens_of line) 0 first ≡ first = ap (λ ps. slice_index_or ps 0 first) cut in
    subst (Stands line) there (stand line 0 first some)
