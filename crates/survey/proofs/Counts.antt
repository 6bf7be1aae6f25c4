-- Lines by how many numbers they have.
use Rattle.std.proofs.Common.{◌≡◌, ◌≢◌, ℕ, cond, ◌==◌, true, false, List, [], ◌∷◌, Ok, Err, Result, Some, None, Option, is_some, arith, sym, ap, ◌∙◌}
use Rattle.std.proofs.lemmas.Bool.Decides.{nat_tests}
use Rattle.text.specs.declared.cut.Token.{Token}
use Rattle.text.specs.declared.cut.Tokens.{Tokens}
use Rattle.text.specs.Cursors.{tokens_left, part_of, GivesToken}
use Rattle.text.specs.Texts.{Part}
use Rattle.cores.specs.Site.{Site, laid_out}
use Rattle.view.specs.Answers.{counted}
use Rattle.survey.specs.declared.faults.LineFault.{LineFault}
use Rattle.survey.specs.declared.faults.LineFault.TheVariants.{WrongCount, Misplaced}
use Rattle.survey.specs.Surveys.{Numeral, numeral, and_then, number_in, numbers, by_book, size_read, linked_with, links_read}
use Rattle.survey.specs.Reached.{answered}
use Rattle.survey.proofs.Numerals.{found, numbers_on, others_too, first_number, numbers_none}

nonzero : (k : ℕ) → k ≢ 0 → (k == 0) ≡ false
nonzero k h = grind (arith, nat_tests)

-- There is another word.
pub word_next : (before after : Tokens) (given : Option Token) → GivesToken before given after → is_some given ≡ true → (word : Part) × (tokens_left before ≡ word ∷ tokens_left after)
word_next before after (Some token) gives some = (part_of token, gives.cut)
word_next before after None gives some = absurd (cc some)

-- There is none.
pub no_word_next : (before after : Tokens) (given : Option Token) → GivesToken before given after → is_some given ≡ false → tokens_left before ≡ []
no_word_next before after (Some token) gives none = absurd (cc none)
no_word_next before after None gives none = gives.done

-- What a line comes to by the numbers of its words.
module _ (n : ℕ) {all : List Part} (read : List Numeral → Result Site LineFault) where
  pub without_numbers : all ≡ [] → and_then (numbers n all) read ≡ read []
  without_numbers none = ap (λ r. and_then r read) (numbers_none n none)

  module _ {w : Part} {ws : List Part} (cut : all ≡ w ∷ ws) (right : answered (numbers n all) ≡ Ok tt) where
    pub with_first : (v : ℕ) → number_in n w ≡ Ok v → and_then (numbers n all) read ≡ read (numeral n w v ∷ found (numbers n ws))
    with_first v number = ap (λ r. and_then r read) (numbers_on n cut right v number)

    pub with_one : ws ≡ [] → (v : ℕ) → number_in n w ≡ Ok v → and_then (numbers n all) read ≡ read (numeral n w v ∷ [])
    with_one none v number = with_first v number ∙ ap (λ r. read (numeral n w v ∷ found r)) (numbers_none n none)

    -- The second number stands first among the others.
    pub others_found : {second : Part} {vs : List Part} → ws ≡ second ∷ vs → (v : ℕ) → number_in n w ≡ Ok v
        → (y : Numeral) × (others : List Numeral) × (found (numbers n ws) ≡ y ∷ others)
    others_found {second} {vs} next v number =
        let right_too = others_too n cut right v number in
        let first = first_number n next right_too in
        (numeral n second first.0, found (numbers n vs), ap found (numbers_on n next right_too first.0 first.1))

-- A line with a number and no more.
module _ (n : ℕ) {all : List Part} (g : Site) {w : Part} {ws : List Part} (cut : all ≡ w ∷ ws) (right : answered (numbers n all) ≡ Ok tt) (single : ws ≡ []) where
  pub size_late : g.size ≢ 0 → and_then (numbers n all) (size_read n g) ≡ Err (Misplaced n)
  size_late laid =
      let first = first_number n cut right in
      let size = numeral n w first.0 in
      with_one n (size_read n g) cut right single first.0 first.1 ∙ ap (λ t. cond t (by_book size (counted size.value) (laid_out size.value)) (Err (Misplaced n))) (nonzero g.size laid)

  pub size_on : (v : ℕ) → number_in n w ≡ Ok v → g.size ≡ 0 → and_then (numbers n all) (size_read n g) ≡ by_book (numeral n w v) (counted v) (laid_out v)
  size_on v number fresh = with_one n (size_read n g) cut right single v number ∙ ap (λ k. cond (k == 0) (by_book (numeral n w v) (counted v) (laid_out v)) (Err (Misplaced n))) fresh

  pub links_single : and_then (numbers n all) (links_read n g) ≡ Err (WrongCount n)
  links_single = let first = first_number n cut right in with_one n (links_read n g) cut right single first.0 first.1

-- A line with more numbers.
module _ (n : ℕ) {all : List Part} (g : Site) {w : Part} {ws : List Part} {second : Part} {vs : List Part}
    (cut : all ≡ w ∷ ws) (right : answered (numbers n all) ≡ Ok tt) (next : ws ≡ second ∷ vs) where
  -- what it comes to, by its first number
  by_first : (read : List Numeral → Result Site LineFault) (v : ℕ) → number_in n w ≡ Ok v
      → (y : Numeral) × (others : List Numeral) × (found (numbers n ws) ≡ y ∷ others) × (and_then (numbers n all) read ≡ read (numeral n w v ∷ y ∷ others))
  by_first read v number =
      let more = others_found n read cut right next v number in
      (more.0, more.1, more.2, with_first n read cut right v number ∙ ap (λ others. read (numeral n w v ∷ others)) more.2)

  pub size_with_more : and_then (numbers n all) (size_read n g) ≡ Err (WrongCount n)
  size_with_more = let first = first_number n cut right in (by_first (size_read n g) first.0 first.1).3

  pub links_early : g.size ≡ 0 → and_then (numbers n all) (links_read n g) ≡ Err (Misplaced n)
  links_early fresh =
      let first = first_number n cut right in
      let more = by_first (links_read n g) first.0 first.1 in
      more.3 ∙ ap (λ k. cond (k == 0) (Err (Misplaced n)) (linked_with first.0 g (more.0 ∷ more.1))) fresh

  pub links_on : (v : ℕ) → number_in n w ≡ Ok v → g.size ≢ 0 → and_then (numbers n all) (links_read n g) ≡ linked_with v g (found (numbers n ws))
  links_on v number laid =
      let more = by_first (links_read n g) v number in
      more.3 ∙ ap (λ t. cond t (Err (Misplaced n)) (linked_with v g (more.0 ∷ more.1))) (nonzero g.size laid) ∙ ap (linked_with v g) (sym more.2)
