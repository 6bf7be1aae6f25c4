-- A station that is linked with the greater ones of its row, one after the other.
use Rattle.std.proofs.Common.{◌≡◌, ℕ, suc, ◌+◌, ◌<◌, ◌≤◌, Bool, true, false, cond, ltb, Ok, List, ◌∷◌, length, filter, get_or, drop, drop-cons, sym, ap, ◌∙◌, arith}
use Rattle.std.proofs.lemmas.List.{drop_all}
use Rattle.cores.specs.Site.{Site, laid_out}
use Rattle.view.specs.Answers.{counted}
use Rattle.view.specs.Listing.{Lists, stations, row}
use Rattle.cores.specs.Links.{joined}
use Rattle.book.specs.Answers.{after, link_answer}
use Rattle.walkthrough.specs.Linking.{linked_with, linked_up_to}

-- what a row leads to
abbrev pub led_to : Site → ℕ → List ℕ → Site
led_to g s row = linked_with g s (filter (ltb s) row)

module _ (g : Site) (s i : ℕ) (row : List ℕ) (h : i < length row) (t : ℕ) (is : t ≡ get_or row i 0) where
  -- the station at place i comes first of those from there on
  next : drop i row ≡ t ∷ drop (i + 1) row
  next = let up : suc i ≡ i + 1 = omega arith in drop-cons row i 0 h ∙ ap (λ u. u ∷ drop (suc i) row) (sym is) ∙ ap (λ j. t ∷ drop j row) up

  first : (b : Bool) → ltb s t ≡ b → led_to g s (drop i row) ≡ linked_with g s (cond b (t ∷ filter (ltb s) (drop (i + 1) row)) (filter (ltb s) (drop (i + 1) row)))
  first b e = ap (led_to g s) next ∙ ap (λ b. linked_with g s (cond b (t ∷ filter (ltb s) (drop (i + 1) row)) (filter (ltb s) (drop (i + 1) row)))) e

  -- if it is lower, it is passed over
  pub led_past : ltb s t ≡ false → led_to g s (drop (i + 1) row) ≡ led_to g s (drop i row)
  led_past lower = sym (first false lower)

  -- and if it is greater, it is linked
  pub led_on : ltb s t ≡ true → (k : Site) → k ≡ after (link_answer g s t) (joined g s t) g → led_to k s (drop (i + 1) row) ≡ led_to g s (drop i row)
  unfolding linked_with
  led_on greater k done = ap (λ k. led_to k s (drop (i + 1) row)) done ∙ sym (first true greater)

-- where none is to come, it is done
pub led_there : (g : Site) (s i : ℕ) (row : List ℕ) → length row ≤ i → g ≡ led_to g s (drop i row)
unfolding linked_with
led_there g s i row h = ap (led_to g s) (sym (drop_all i row h))

-- a station more of a table is linked
pub linked_more : (l : Lists) (k : ℕ) → linked_up_to l (k + 1) ≡ led_to (linked_up_to l k) k (row l k)
unfolding linked_up_to
linked_more l k = let next : k + 1 ≡ suc k = omega arith in ap (linked_up_to l) next

-- the book that was laid out has none linked yet
pub linked_none : (l : Lists) (n : ℕ) → n ≡ stations l → (u : Unit {0}) (g old : Site) → g ≡ after (counted n) (laid_out n) old → Ok u ≡ counted n → g ≡ linked_up_to l 0
unfolding linked_up_to
linked_none l n counts u g old is done = is ∙ ap (λ r. after r (laid_out n) old) (sym done) ∙ ap laid_out counts
