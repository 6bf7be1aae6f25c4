-- What the book does for the numbers of a line.
use Rattle.std.proofs.Common.{◌≡◌, ℕ, List, [], ◌∷◌, Ok, Err, Result, refl, sym, ap, ◌∙◌}
use Rattle.std.specs.Result.{result_map_both}
use Rattle.text.specs.Texts.{Part}
use Rattle.cores.specs.Site.{Site}
use Rattle.cores.specs.Links.{joined}
use Rattle.book.specs.Answers.{Answer, after, link_answer}
use Rattle.survey.specs.declared.faults.Spot.{Spot}
use Rattle.survey.specs.declared.faults.BookFault.{BookFault}
use Rattle.survey.specs.declared.faults.LineFault.{LineFault}
use Rattle.survey.specs.declared.faults.LineFault.TheVariants.{Book}
use Rattle.survey.specs.Surveys.{Numeral, numeral, and_then, spot_of, number_in, numbers, placed, linked_with}
use Rattle.survey.specs.Reached.{answered}
use Rattle.survey.proofs.Numerals.{found, numbers_on, numbers_none}

-- What is answered without a fault is done.
pub done : (spot : Spot) {new : Site} (old : Site) (answer : Answer) → placed spot answer ≡ Ok tt → after answer new old ≡ new
done spot old (Ok u) h = refl
done spot old (Err e) h = absurd (cc h)

-- what there is in the end if the book answers this to the first link
abbrev with_first : ℕ → Site → Numeral → List Numeral → Result (Unit {0}) BookFault → Result Site LineFault
with_first a g b others told = and_then (result_map_both (λ _. joined g a b.value) Book told) (λ h. linked_with a h others)

-- A station that is linked with those of some words, which are all numbers.
module _ (n : ℕ) {all : List Part} {w : Part} {ws : List Part} (a : ℕ) (g : Site) (v : ℕ)
    (cut : all ≡ w ∷ ws) (right : answered (numbers n all) ≡ Ok tt) (number : number_in n w ≡ Ok v) where
  here : linked_with a g (found (numbers n all)) ≡ with_first a g (numeral n w v) (found (numbers n ws)) (placed (spot_of n w) (link_answer g a v))
  unfolding linked_with
  here = ap (λ r. linked_with a g (found r)) (numbers_on n cut right v number)

  -- The book sets the first link.
  pub linked_on : placed (spot_of n w) (link_answer g a v) ≡ Ok tt → linked_with a (joined g a v) (found (numbers n ws)) ≡ linked_with a g (found (numbers n all))
  linked_on told = sym (here ∙ ap (with_first a g (numeral n w v) (found (numbers n ws))) told)

  -- The book refuses it.
  pub linked_off : (fault : BookFault) → placed (spot_of n w) (link_answer g a v) ≡ Err fault → Err (Book fault) ≡ linked_with a g (found (numbers n all))
  linked_off fault told = sym (here ∙ ap (with_first a g (numeral n w v) (found (numbers n ws))) told)

-- Where there are no words left.
pub linked_none : (n : ℕ) {all : List Part} (a : ℕ) (g : Site) → all ≡ [] → Ok g ≡ linked_with a g (found (numbers n all))
unfolding linked_with
linked_none n a g none = ap (λ r. linked_with a g (found r)) (sym (numbers_none n none))
