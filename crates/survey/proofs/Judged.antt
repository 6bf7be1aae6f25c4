-- What the lines of a survey say together, and which one is the first at fault.
use Rattle.std.proofs.Common.{◌≡◌, ℕ, zero, suc, ◌+◌, ◌<◌, ◌≤◌, true, false, ◌&&◌, ◌==◌, List, [], ◌∷◌, length, nat_lt, Ok, Err, Result, refl, sym, ap, ap₂, ◌∙◌, arith}
use Rattle.std.specs.Result.{result_map_both}
use Rattle.std.proofs.lemmas.Bool.{eqb-true, ltb-true, lt-ltb}
use Rattle.std.proofs.lemmas.Bool.Decides.{nat_tests}
use Rattle.std.proofs.lemmas.List.Sums.{sum_by-cons}
use Rattle.text.specs.Texts.{Part, lines, tokens_of}
use Rattle.text.proofs.Fronts.{by_cases}
use Rattle.cores.specs.Counting.{bit}
use Rattle.cores.specs.Site.{Site, sized, no_stations}
use Rattle.survey.specs.declared.faults.LineFault.{LineFault}
use Rattle.survey.specs.declared.faults.SurveyFault.{SurveyFault}
use Rattle.survey.specs.declared.faults.SurveyFault.TheVariants.{TooLong, NoSize, Line}
use Rattle.survey.specs.Surveys.{and_then, line_read, lines_read, some_site, survey_read}
use Rattle.survey.specs.Reports.{line_report}
use Rattle.survey.specs.Laws.{is_silent, is_size_line, names_behind, all_silent, silent_or_links, names_in, SizedOnce, Says, AnAcceptedSurveySaysItsSite, FirstAtFault, ARefusedSurveyIsRightUpToTheLineThatIsNamed, ASurveyIsRefusedWithNoLineIfItIsTooLongOrSilent}
use Rattle.survey.proofs.Said.{Kept, Gives, Form, Grown, Said, laid_lawful, stays, line_said}
use Rattle.survey.proofs.Surveyed.{lines_on, lines_none}

-- Lines by their words, where the site has i stations before them and k behind them.
abbrev Formed : ℕ → ℕ → List (List ℕ) → Type 0
Formed zero zero ls = all_silent ls ≡ true
Formed zero (suc k) ls = SizedOnce (suc k) ls
Formed (suc i) k ls = (k ≡ suc i) × (silent_or_links ls ≡ true)

formed_none : (i : ℕ) → Formed i i []
formed_none zero = refl
formed_none (suc i) = (refl, refl)

-- A line in front of others.
formed_more : (i j k : ℕ) (line : List ℕ) (others : List (List ℕ)) → Form i j (tokens_of line) → Formed j k others → Formed i k (line ∷ others)
formed_more zero zero zero line others first on = ap₂ (λ p q. p && q) first on
formed_more zero zero (suc k) line others first on = record {
  above = line ∷ on.above;
  line = on.line;
  below = on.below;
  cut = ap (λ ls. line ∷ ls) on.cut;
  none_yet = ap₂ (λ p q. p && q) first on.none_yet;
  size = on.size;
  links_then = on.links_then;
}
formed_more zero (suc j) (suc k) line others first on = record {
  above = [];
  line = line;
  below = others;
  cut = refl;
  none_yet = refl;
  size = ap (λ n. is_size_line n (tokens_of line)) on.0 ∙ first;
  links_then = on.1;
}
formed_more zero (suc j) zero line others first on = absurd (cc on.0)
formed_more (suc i) (suc j) k line others first on = (on.0 ∙ first.0, ap₂ (λ p q. p && q) first.1 on.1)
formed_more (suc i) zero k line others first on = absurd (cc first.0)

-- Lines that come from no stations to some.
sized_once : (k : ℕ) (ls : List (List ℕ)) → (k == 0) ≡ false → Formed 0 k ls → SizedOnce k ls
sized_once (suc k) ls some on = on
sized_once zero ls some on = absurd (cc some)

-- Lines that come to none.
still_silent : (k : ℕ) (ls : List (List ℕ)) → (k == 0) ≡ true → Formed 0 k ls → all_silent ls ≡ true
still_silent zero ls none on = on
still_silent (suc k) ls none on = absurd (omega (arith, eqb-true (suc k) 0 none))

-- What is answered to lines that go on from a site: the site that they say, or the first line at fault.
abbrev Judged : ℕ → Site → List (List ℕ) → Result Site SurveyFault → Type 0
Judged n g ls (Ok h) = Grown g h (Formed g.size h.size ls) (names_in ls)
Judged n g ls (Err (Line fault)) = FirstAtFault n g ls fault
Judged n g ls (Err TooLong) = ⊥
Judged n g ls (Err NoSize) = ⊥

-- What one line more names.
names_more : (line : List ℕ) (others : List (List ℕ)) (s t : ℕ) → names_in (line ∷ others) s t ≡ names_behind s t (tokens_of line) + names_in others s t
names_more line others s t = sum_by-cons (λ line. names_behind s t (tokens_of line)) line others

module _ (n : ℕ) (g : Site) (line : List ℕ) (others : List (List ℕ)) where
  -- The first line is at fault.
  at_once : (fault : LineFault) → line_read n g (tokens_of line) ≡ Err fault → (line_report fault).spot.line ≡ n → FirstAtFault n g (line ∷ others) fault
  unfolding lines_read
  at_once fault refused named =
      let place : n ≡ n + length {A = List ℕ} [] = omega arith in
      record {
        before = [];
        line = line;
        behind = others;
        cut = refl;
        site = g;
        read = refl;
        refused = ap (λ k. line_read k g (tokens_of line)) (sym place) ∙ refused;
        named = named ∙ place;
      }

  -- The first line is read, and the others are judged.
  judged_on : (h : Site) → line_read n g (tokens_of line) ≡ Ok h → Said g (tokens_of line) h → (r : Result Site SurveyFault) → Judged (n + 1) h others r → Judged n g (line ∷ others) r
  judged_on h read said (Ok i) on = record {
    lawful = on.lawful;
    few = on.few;
    formed = formed_more g.size h.size i.size line others said.formed on.formed;
    linked = λ s t. omega (arith, said.linked s t, on.linked s t, names_more line others s t, names_more line others t s);
  }
  judged_on h read said (Err (Line fault)) on =
      let place : n + 1 + length on.before ≡ n + length (line ∷ on.before) = omega arith in
      record {
        before = line ∷ on.before;
        line = on.line;
        behind = on.behind;
        cut = ap (λ ls. line ∷ ls) on.cut;
        site = on.site;
        read = lines_on n g refl h read ∙ on.read;
        refused = ap (λ k. line_read k on.site (tokens_of on.line)) (sym place) ∙ on.refused;
        named = on.named ∙ place;
      }
  judged_on h read said (Err TooLong) on = absurd on
  judged_on h read said (Err NoSize) on = absurd on

  -- The first line is read or at fault, and then the others are judged.
  by_first : ((h : Site) → Kept h → Judged (n + 1) h others (lines_read (n + 1) h others)) → (r : Result Site LineFault) → line_read n g (tokens_of line) ≡ r
      → Gives n (Said g (tokens_of line)) r → Judged n g (line ∷ others) (and_then (result_map_both (λ h. h) Line r) (λ h. lines_read (n + 1) h others))
  by_first on (Ok h) is said = judged_on h is said (lines_read (n + 1) h others) (on h (said.lawful, said.few))
  by_first on (Err fault) is named = at_once fault is named

-- Lines are judged as they are read.
all_judged : (n : ℕ) (g : Site) → Kept g → (ls : List (List ℕ)) → Judged n g ls (lines_read n g ls)
unfolding lines_read
all_judged n g kept [] = stays g kept (formed_none g.size) _ (λ s t. refl)
all_judged n g kept (line ∷ others) =
    by_first n g line others (λ h still. all_judged (n + 1) h still others) (line_read n g (tokens_of line)) refl (line_said n g kept (tokens_of line))

-- What is answered to a text: the site that it says, the first line at fault, or why there is none.
abbrev Verdict : List ℕ → Result Site SurveyFault → Type 0
Verdict text (Ok g) = Says text g
Verdict text (Err (Line fault)) = FirstAtFault 1 no_stations (lines text) fault
Verdict text (Err TooLong) = 60000 < length text
Verdict text (Err NoSize) = (length text ≤ 60000) × (all_silent (lines text) ≡ true)

-- In the end there has to be a site with stations.
in_the_end : (text : List ℕ) → length text ≤ 60000 → (r : Result Site SurveyFault) → Judged 1 no_stations (lines text) r → Verdict text (and_then r some_site)
unfolding bit
in_the_end text short (Ok g) on =
    by_cases (g.size == 0) (λ none. rw none (short, still_silent g.size (lines text) none on.formed)) (λ some. rw some record {
      lawful = on.lawful;
      in_range = let few = on.few in grind (arith, nat_tests);
      size = sized_once g.size (lines text) some on.formed;
      links = λ s t. omega (arith, on.linked s t);
    })
in_the_end text short (Err (Line fault)) on = on
in_the_end text short (Err TooLong) on = absurd on
in_the_end text short (Err NoSize) on = absurd on

-- A text is judged as it is read.
verdict : (text : List ℕ) → Verdict text (survey_read text)
verdict text =
    by_cases (nat_lt 60000 (length text)) (λ long. rw long (ltb-true 60000 (length text) long))
    (λ short. rw short
    (in_the_end text (grind (arith, nat_tests)) (lines_read 1 no_stations (lines text)) (all_judged 1 no_stations (laid_lawful 0, omega arith) (lines text))))

pub says_its_site : AnAcceptedSurveySaysItsSite
says_its_site text g is = rw is at (verdict text)

-- A survey that is accepted says a site of 1 to 512 stations.
pub accepted_sized : (text : List ℕ) (g : Site) → survey_read text ≡ Ok g → sized g.size ≡ true
accepted_sized text g is = (says_its_site text g is).in_range

pub right_up_to_the_line : ARefusedSurveyIsRightUpToTheLineThatIsNamed
right_up_to_the_line text fault is = rw is at (verdict text)

-- A silent line leaves the site.
silent_read : (n : ℕ) (g : Site) (words : List Part) → is_silent words ≡ true → line_read n g words ≡ Ok g
silent_read n g [] is = refl
silent_read n g (first ∷ others) is = rw is

all_silent_read : (n : ℕ) (g : Site) (ls : List (List ℕ)) → all_silent ls ≡ true → lines_read n g ls ≡ Ok g
all_silent_read n g [] all = lines_none n g refl
all_silent_read n g (line ∷ others) all =
    lines_on n g refl g (silent_read n g (tokens_of line) (grind arith)) ∙ all_silent_read (n + 1) g others (grind arith)

pub too_long_or_silent : ASurveyIsRefusedWithNoLineIfItIsTooLongOrSilent
too_long_or_silent text = (
  ((λ is. rw is at (verdict text)), (λ long. rw (lt-ltb 60000 (length text) long))),
  (
    (λ is. rw is at (verdict text)),
    (λ silent.
        let short : nat_lt 60000 (length text) ≡ false = (let few = silent.0 in grind (arith, nat_tests)) in
        rw (short, all_silent_read 1 no_stations (lines text) silent.1)),
  ),
)
