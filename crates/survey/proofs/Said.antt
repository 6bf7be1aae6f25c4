-- What a line says of a site, and which line a fault names.
use Rattle.std.proofs.Common.{◌≡◌, ℕ, zero, suc, ◌+◌, ◌≤◌, true, false, cond, ◌&&◌, ◌||◌, ◌==◌, List, [], ◌∷◌, Ok, Err, Result, Some, None, Option, is_some, count_by, refl, sym, ap, ap₂, ◌∙◌, arith, nat_eq}
use Rattle.std.specs.List.{list_all}
use Rattle.std.specs.Option.{ok_or, option_eq}
use Rattle.std.proofs.lemmas.Bool.{eqb-true, false_from_ne_true}
use Rattle.std.proofs.lemmas.Bool.Decides.{nat_tests}
use Rattle.std.proofs.lemmas.List.Sums.{sum_by-cons}
use Rattle.text.specs.Texts.{Part}
use Rattle.text.proofs.Fronts.{by_cases}
use Rattle.cores.specs.Counting.{bit}
use Rattle.cores.specs.Site.{Site, Lawful, laid_out, sized}
use Rattle.cores.specs.Links.{joined, ends}
use Rattle.cores.proofs.Links.{link_lawful}
use Rattle.view.specs.Answers.{counted}
use Rattle.book.specs.Answers.{Answer, link_answer}
use Rattle.book.proofs.Granted.{CanLink, link_granted}
use Rattle.survey.specs.declared.faults.LineFault.{LineFault}
use Rattle.survey.specs.Words.{is_comment, is_byte, number_by}
use Rattle.survey.specs.Surveys.{Numeral, and_then, number_in, numbers, by_book, size_read, linked_with, links_read, line_read, word_fault}
use Rattle.survey.specs.Reports.{line_report}
use Rattle.survey.specs.Laws.{is_number, writes, is_silent, is_size_line, is_links, names_behind}

-- An answer for the n-th line: its value is such, or its fault names the line.
abbrev pub Gives : {A : Type 0} → ℕ → (A → Type 0) → Result A LineFault → Type 0
Gives n P (Ok x) = P x
Gives n P (Err e) = (line_report e).spot.line ≡ n

-- It goes on with its value.
gives_then : {A B : Type 0} (n : ℕ) (P : A → Type 0) (Q : B → Type 0) (r : Result A LineFault) (next : A → Result B LineFault)
    → Gives n P r → ((x : A) → P x → Gives n Q (next x)) → Gives n Q (and_then r next)
gives_then n P Q (Ok x) next h on = on x h
gives_then n P Q (Err e) next h on = h

-- It is such in another way too.
gives_on : {A : Type 0} (n : ℕ) (P Q : A → Type 0) (r : Result A LineFault) → ((x : A) → P x → Q x) → Gives n P r → Gives n Q r
gives_on n P Q (Ok x) on h = on x h
gives_on n P Q (Err e) on h = h

-- The numbers are those that the words of the n-th line write.
unfoldable Written : ℕ → List Part → List Numeral → Type 0
Written n [] [] = Unit {0}
Written n (w ∷ ws) (x ∷ xs) = (number_by w.bytes ≡ Some x.value) × (x.spot.line ≡ n) × Written n ws xs
Written n ws xs = ⊥

-- The number that a word writes, or the fault of the word.
first_written : (n : ℕ) (w : Part) (written : Option ℕ) → number_by w.bytes ≡ written → Gives n (λ v. number_by w.bytes ≡ Some v) (ok_or written (word_fault n w))
first_written n w None is = refl
first_written n w (Some v) is = is

all_written : (n : ℕ) (ws : List Part) → Gives n (Written n ws) (numbers n ws)
unfolding numbers Written
all_written n [] = tt
all_written n (w ∷ ws) =
    gives_then n (λ v. number_by w.bytes ≡ Some v) (Written n (w ∷ ws)) (number_in n w) _ (first_written n w (number_by w.bytes) refl)
    (λ v first. gives_then n (Written n ws) (Written n (w ∷ ws)) (numbers n ws) _ (all_written n ws) (λ xs others. (first, refl, others)))

-- A line by its words, where the site has i stations before it and k behind it.
abbrev pub Form : ℕ → ℕ → List Part → Type 0
Form zero zero words = is_silent words ≡ true
Form zero (suc k) words = is_size_line (suc k) words ≡ true
Form (suc i) k words = (k ≡ suc i) × ((is_silent words || is_links words) ≡ true)

silent_form : (i : ℕ) (words : List Part) → is_silent words ≡ true → Form i i words
silent_form zero words is = is
silent_form (suc i) words is = (refl, ap (λ b. b || is_links words) is)

size_form : (i k : ℕ) (words : List Part) → i ≡ 0 → sized k ≡ true → is_size_line k words ≡ true → Form i k words
size_form zero (suc k) words none fits is = is
size_form zero zero words none fits is = absurd (cc fits)
size_form (suc i) k words none fits is = absurd (omega arith)

links_form : (i k : ℕ) (words : List Part) → (i == 0) ≡ false → k ≡ i → is_links words ≡ true → Form i k words
links_form (suc i) k words some same is = (same, grind arith)
links_form zero k words some same is = absurd (cc some)

-- A site has come to another one: lines of a form say so, and a link says how often a station is named behind another.
pub record Grown (g h : Site) (Formed : Type 0) (links : ℕ → ℕ → ℕ) : Type 0 where
  pub lawful : Lawful h
  pub few : h.size ≤ 512
  pub formed : Formed
  pub linked : (s t : ℕ) → bit (h.linked s t) ≡ bit (g.linked s t) + (links s t + links t s)

-- how often links join a with numbers
abbrev pub from : ℕ → List Numeral → ℕ → ℕ → ℕ
from a xs s t = cond (a == s) (count_by (λ x. x.value == t) xs) 0

-- A site that is lawful and not too large.
abbrev pub Kept : Site → Type 0
Kept g = Lawful g × g.size ≤ 512

-- It stays as it is.
pub stays : (g : Site) → Kept g → {Formed : Type 0} → Formed → (links : ℕ → ℕ → ℕ) → ((s t : ℕ) → links s t ≡ 0) → Grown g g Formed links
stays g kept formed links apart = record {
  lawful = kept.0;
  few = kept.1;
  formed = formed;
  linked = λ s t. let one = apart s t in let other = apart t s in omega arith;
}

-- The book answers to a call for the number x.
by_answer : (n : ℕ) (P : Site → Type 0) (x : Numeral) (new : Site) → x.spot.line ≡ n → (answer : Answer) → (answer ≡ Ok tt → P new) → Gives n P (by_book x answer new)
by_answer n P x new here (Ok u) on = on refl
by_answer n P x new here (Err e) on = here

-- A site has come to another one by the links from a to numbers.
abbrev Linked : Site → ℕ → List Numeral → Site → Type 0
Linked g a xs h = Grown g h (h.size ≡ g.size) (from a xs)

-- One number in front is one name more.
from_more : (a : ℕ) (x : Numeral) (xs : List Numeral) (s t : ℕ) → from a (x ∷ xs) s t ≡ from a (x ∷ []) s t + from a xs s t
from_more a x xs s t =
    let all = sum_by-cons (λ (y : Numeral). cond (y.value == t) 1 0) x xs in
    let first = sum_by-cons (λ (y : Numeral). cond (y.value == t) 1 0) x [] in
    grind arith

-- A new link is one that its two names say.
joined_linked : (g : Site) (a : ℕ) (x : Numeral) → Lawful g → CanLink g a x.value → (s t : ℕ)
    → bit ((joined g a x.value).linked s t) ≡ bit (g.linked s t) + (from a (x ∷ []) s t + from a (x ∷ []) t s)
unfolding joined ends bit
joined_linked g a x law can s t =
    let free = can.free in
    let back = law.both_ways a x.value in
    let apart = can.ends.apart in
    grind (arith, nat_tests)

-- On from this site, links from a come to what they come to from g with the one to x in front.
abbrev Joined : Site → ℕ → Numeral → List Numeral → Site → Type 0
Joined g a x xs j = Kept j × ((h : Site) → Linked j a xs h → Linked g a (x ∷ xs) h)

joined_on : (g : Site) (a : ℕ) (x : Numeral) (xs : List Numeral) → Kept g → link_answer g a x.value ≡ Ok tt → Joined g a x xs (joined g a x.value)
unfolding joined
joined_on g a x xs kept is =
    let can = link_granted g a x.value tt is in (
      ((link_lawful g kept.0 a x.value).0 can.ends.on_a can.ends.on_b can.ends.apart, kept.1),
      (λ h on. record {
        lawful = on.lawful;
        few = on.few;
        formed = on.formed;
        linked = λ s t. omega (arith, on.linked s t, joined_linked g a x kept.0 can s t, from_more a x xs s t, from_more a x xs t s);
      }),
    )

all_linked : (n a : ℕ) (ws : List Part) (g : Site) → Kept g → (xs : List Numeral) → Written n ws xs → Gives n (Linked g a xs) (linked_with a g xs)
unfolding linked_with Written
all_linked n a [] g kept [] h = stays g kept refl _ (λ s t. grind arith)
all_linked n a (w ∷ ws) g kept (x ∷ xs) h =
    let answer = link_answer g a x.value in
    let new = joined g a x.value in
    gives_then n (Joined g a x xs) (Linked g a (x ∷ xs)) (by_book x answer new) _
    (by_answer n (Joined g a x xs) x new h.1 answer (joined_on g a x xs kept))
    (λ j on. gives_on n (Linked j a xs) (Linked g a (x ∷ xs)) (linked_with a j xs) on.1 (all_linked n a ws j on.0 xs h.2))
all_linked n a [] g kept (x ∷ xs) h = absurd h
all_linked n a (w ∷ ws) g kept [] h = absurd h

-- The same by other words for its form and links.
in_words : (g h : Site) {Formed Form : Type 0} (links links' : ℕ → ℕ → ℕ) → (Formed → Form) → ((s t : ℕ) → links' s t ≡ links s t) → Grown g h Formed links → Grown g h Form links'
in_words g h links links' forms ends on = record {
  lawful = on.lawful;
  few = on.few;
  formed = forms on.formed;
  linked = λ s t. omega (arith, ends s t, ends t s, on.linked s t);
}

-- What a word writes is its number.
writes_value : (w : Part) (v : ℕ) → number_by w.bytes ≡ Some v → (k : ℕ) → writes k w ≡ (v == k)
writes_value w v is k = ap (λ o. option_eq nat_eq o (Some k)) is

times_written : (n : ℕ) (ws : List Part) (xs : List Numeral) → Written n ws xs → (k : ℕ) → count_by (writes k) ws ≡ count_by (λ x. x.value == k) xs
unfolding Written
times_written n [] [] h k = refl
times_written n (w ∷ ws) (x ∷ xs) h k =
    sum_by-cons (λ y. cond (writes k y) 1 0) w ws
    ∙ ap₂ (λ p m. cond p 1 0 + m) (writes_value w x.value h.0 k) (times_written n ws xs h.2 k)
    ∙ sym (sum_by-cons (λ (y : Numeral). cond (y.value == k) 1 0) x xs)
times_written n [] (x ∷ xs) h k = absurd h
times_written n (w ∷ ws) [] h k = absurd h

all_numbers : (n : ℕ) (ws : List Part) (xs : List Numeral) → Written n ws xs → list_all is_number ws ≡ true
unfolding Written
all_numbers n [] [] h = refl
all_numbers n (w ∷ ws) (x ∷ xs) h = ap₂ (λ p q. p && q) (ap is_some h.0) (all_numbers n ws xs h.2)
all_numbers n [] (x ∷ xs) h = absurd h
all_numbers n (w ∷ ws) [] h = absurd h

-- A line with another letter names nothing.
names_nothing : (letter : Part) (ws : List Part) → is_byte 76 letter.bytes ≡ false → (s t : ℕ) → names_behind s t (letter ∷ ws) ≡ 0
names_nothing letter [] other s t = refl
names_nothing letter (w ∷ ws) other s t = ap (λ b. cond (b && writes s w) (count_by (writes t) ws) 0) other

-- A line says how a site has grown.
abbrev pub Said : Site → List Part → Site → Type 0
Said g words h = Grown g h (Form g.size h.size words) (λ s t. names_behind s t words)

-- A site with no links is lawful.
pub laid_lawful : (n : ℕ) → Lawful (laid_out n)
laid_lawful n = record { inside = λ s t e. absurd (cc e); apart = λ s. refl; both_ways = λ s t. refl }

-- A size of 1 to 512 for a site with no stations.
size_grown : (g : Site) (v : ℕ) {Formed : Type 0} (links : ℕ → ℕ → ℕ) → Lawful g → g.size ≡ 0 → sized v ≡ true
    → Formed → ((s t : ℕ) → links s t ≡ 0) → Grown g (laid_out v) Formed links
size_grown g v links law fresh fits formed none = record {
  lawful = laid_lawful v;
  few = grind (arith, nat_tests);
  formed = formed;
  linked = λ s t.
      let none_yet : g.linked s t ≡ false = false_from_ne_true (g.linked s t) (λ e. let within = (law.inside s t e).0 in omega arith) in
      rw none_yet (omega (arith, none s t, none t s));
}

module _ (n : ℕ) (g : Site) (kept : Kept g) (letter : Part) where
  -- What a line `S ..` says.
  size_said : is_byte 83 letter.bytes ≡ true → (ws : List Part) (xs : List Numeral) → Written n ws xs → Gives n (Said g (letter ∷ ws)) (size_read n g xs)
  unfolding Written
  size_said is (w ∷ []) (x ∷ []) h =
      by_cases (g.size == 0)
      (λ fresh. rw fresh
      (by_answer n (Said g (letter ∷ w ∷ [])) x (laid_out x.value) h.1 (counted x.value)
      (λ answer.
      let fits : sized x.value ≡ true = grind arith in
      let none : g.size ≡ 0 = eqb-true g.size 0 fresh in
      let same : is_size_line x.value (letter ∷ w ∷ []) ≡ true = ap₂ (λ b c. b && c) is (writes_value w x.value h.0 x.value ∙ grind (arith, nat_tests)) in
      size_grown g x.value _ kept.0 none fits (size_form g.size x.value (letter ∷ w ∷ []) none fits same)
      (names_nothing letter (w ∷ []) (grind (arith, nat_tests))))))
      (λ late. rw late refl)
  size_said is ws [] h = refl
  size_said is ws (x ∷ y ∷ ys) h = refl
  size_said is [] (x ∷ []) h = absurd h
  size_said is (w ∷ v ∷ ws) (x ∷ []) h = absurd h.2

  -- What a line `L ..` says.
  links_said : is_byte 76 letter.bytes ≡ true → (ws : List Part) (xs : List Numeral) → Written n ws xs → Gives n (Said g (letter ∷ ws)) (links_read n g xs)
  unfolding Written
  links_said is (w ∷ v ∷ ws) (a ∷ b ∷ others) h =
      by_cases (g.size == 0)
      (λ early. rw early refl)
      (λ late. rw late
      (let right : is_links (letter ∷ w ∷ v ∷ ws) ≡ true = ap₂ (λ p q. p && q) is (all_numbers n (w ∷ v ∷ ws) (a ∷ b ∷ others) h) in
      gives_on n _ _ (linked_with a.value g (b ∷ others))
      (λ i. in_words g i _ _ (λ same. links_form g.size i.size (letter ∷ w ∷ v ∷ ws) late same right)
      (λ s t. ap₂ (λ p m. cond p m 0) (ap (λ p. p && writes s w) is ∙ writes_value w a.value h.0 s) (times_written n (v ∷ ws) (b ∷ others) h.2 t)))
      (all_linked n a.value (v ∷ ws) g kept (b ∷ others) h.2)))
  links_said is ws [] h = refl
  links_said is ws (a ∷ []) h = refl
  links_said is [] (a ∷ b ∷ others) h = absurd h
  links_said is (w ∷ []) (a ∷ b ∷ others) h = absurd h.2

-- A line says how the site before it grows, or its fault names it.
pub line_said : (n : ℕ) (g : Site) → Kept g → (words : List Part) → Gives n (Said g words) (line_read n g words)
line_said n g kept [] = stays g kept (silent_form g.size [] refl) _ (λ s t. refl)
line_said n g kept (letter ∷ ws) =
    by_cases (is_comment letter.bytes)
    (λ comment. rw comment (stays g kept (silent_form g.size (letter ∷ ws) comment) _ (names_nothing letter ws (grind (arith, nat_tests)))))
    (λ no_comment. rw no_comment (by_cases (is_byte 83 letter.bytes)
    (λ size. rw size (gives_then n (Written n ws) (Said g (letter ∷ ws)) (numbers n ws) (size_read n g) (all_written n ws) (size_said n g kept letter size ws)))
    (λ no_size. rw no_size (by_cases (is_byte 76 letter.bytes)
    (λ links. rw links (gives_then n (Written n ws) (Said g (letter ∷ ws)) (numbers n ws) (links_read n g) (all_written n ws) (links_said n g kept letter links ws)))
    (λ no_links. rw no_links refl)))))
