-- Words that write numbers, one after the other.
use Rattle.std.proofs.Common.{◌≡◌, ℕ, false, List, [], ◌∷◌, Ok, Err, Result, Some, None, Option, MatchOption, refl, sym, ap, ◌∙◌, arith, slice_index}
use Rattle.std.specs.Char.{is_ascii_digit}
use Rattle.std.specs.Result.{result_unwrap_or}
use Rattle.std.proofs.lemmas.Grind.{common_steps}
use Rattle.text.specs.Texts.{Part, value_of}
use Rattle.survey.specs.declared.word.Word.{Word}
use Rattle.survey.specs.declared.word.Word.TheVariants.{Letter, Number, Comment}
use Rattle.survey.specs.declared.faults.LineFault.{LineFault}
use Rattle.survey.specs.Words.{IsWord, IsNoWord, number_of, number_by}
use Rattle.survey.specs.Surveys.{Numeral, numeral, and_then, number_in, numbers}
use Rattle.survey.specs.Reached.{answered}

-- What does not begin with a digit writes no number.
pub no_digit : (bs : List ℕ) → is_ascii_digit (slice_index bs 0) ≡ false → number_by bs ≡ None
unfolding value_of
no_digit [] h = refl
no_digit (b ∷ bs) h = grind (arith, common_steps)

-- The value of the word that some bytes are is the number that they write.
pub value_is : (word : Option Word) (bs : List ℕ) (value : Option ℕ) → MatchOption word (IsNoWord bs) (λ word. IsWord word bs)
    → MatchOption word (value ≡ None) (λ word. value ≡ number_of word) → value ≡ number_by bs
value_is None bs value h is = is ∙ sym h.number
value_is (Some (Letter b)) bs value h is = is ∙ sym (no_digit bs (grind (arith, common_steps)))
value_is (Some (Number b)) bs value h is = is ∙ ap number_by h.0
value_is (Some (Comment b)) bs value h is = absurd h

-- the numbers, if all words are
abbrev pub found : Result (List Numeral) LineFault → List Numeral
found r = result_unwrap_or r []

-- What a number in front leaves of an answer.
in_front : (x : Numeral) (r : Result (List Numeral) LineFault) → answered (and_then r (λ others. Ok (x ∷ others))) ≡ answered r
in_front x (Ok others) = refl
in_front x (Err e) = refl

ok_is_not_err : {A : Type 0} {x : A} {e : LineFault} → Ok x ≡ Err e → ⊥
ok_is_not_err h = absurd (cc h)

-- What is accepted has its value.
pub accepted : {A E : Type 0} (r : Result A E) (d : A) → answered r ≡ Ok tt → r ≡ Ok (result_unwrap_or r d)
accepted (Ok x) d h = refl
accepted (Err e) d h = absurd (cc h)

-- the numbers of some words, if the first one writes this
abbrev with_first : ℕ → Part → List Part → Result ℕ LineFault → Result (List Numeral) LineFault
with_first n w ws value = and_then value (λ v. and_then (numbers n ws) (λ others. Ok (numeral n w v ∷ others)))

-- The numbers of words that begin with one.
module _ (n : ℕ) {all : List Part} {w : Part} {ws : List Part} (cut : all ≡ w ∷ ws) where
  here : numbers n all ≡ with_first n w ws (number_in n w)
  unfolding numbers
  here = ap (numbers n) cut

  -- One number more leaves the answer.
  pub answered_on : (v : ℕ) → number_in n w ≡ Ok v → answered (numbers n all) ≡ answered (numbers n ws)
  answered_on v h = ap answered (here ∙ ap (with_first n w ws) h) ∙ in_front (numeral n w v) (numbers n ws)

  -- The first word that is none ends it.
  pub numbers_off : (e : LineFault) → number_in n w ≡ Err e → answered (numbers n all) ≡ Err e
  numbers_off e h = ap answered (here ∙ ap (with_first n w ws) h)

  module _ (right : answered (numbers n all) ≡ Ok tt) where
    -- Where all words are numbers, the first one is.
    pub no_fault : (e : LineFault) → number_in n w ≡ Err e → ⊥
    no_fault e h = ok_is_not_err (sym right ∙ numbers_off e h)

    pub first_number : (v : ℕ) × (number_in n w ≡ Ok v)
    first_number = by (number_in n w) refl where
      by : (r : Result ℕ LineFault) → number_in n w ≡ r → (v : ℕ) × (number_in n w ≡ Ok v)
      by (Ok v) e = (v, e)
      by (Err x) e = absurd (no_fault x e)

    -- and so are the others
    pub others_too : (v : ℕ) → number_in n w ≡ Ok v → answered (numbers n ws) ≡ Ok tt
    others_too v h = sym (answered_on v h) ∙ right

    -- A number in front of the others.
    pub numbers_on : (v : ℕ) → number_in n w ≡ Ok v → numbers n all ≡ Ok (numeral n w v ∷ found (numbers n ws))
    numbers_on v h = here ∙ ap (with_first n w ws) h ∙ ap (λ r. and_then r (λ others. Ok (numeral n w v ∷ others))) (accepted (numbers n ws) [] (others_too v h))

-- Where there are no words left.
pub numbers_none : (n : ℕ) {all : List Part} → all ≡ [] → numbers n all ≡ Ok []
unfolding numbers
numbers_none n none = ap (numbers n) none
