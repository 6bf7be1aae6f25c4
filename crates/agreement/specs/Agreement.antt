-- The whole agreement on one list of calls, over one view. Assumes nothing.
use Rattle.std.specs.Prelude.{◌≡◌, ℕ, ◌+◌, ◌<◌, ◌≤◌, List, ◌++◌, length, take, drop, Some, Ok, Err, Result}
use Rattle.std.specs.List.{slice_get}
use Rattle.std.specs.declared.cmp.Ordering.{Ordering}
use Rattle.refusals.specs.declared.Refusal.{Refusal}
use Rattle.refusals.specs.declared.Refusal.TheVariants.{BufferShort}
use Rattle.cores.specs.Site.{Site}
use Rattle.cores.specs.Numbers.{number}
use Rattle.cores.specs.Links.{MovesUp, MovesDown}
use Rattle.view.specs.Answers.{answer, left_in}
use Rattle.inspector.specs.Inspecting.{inspected}
use Rattle.book.specs.Books.{site, stored}
use Rattle.rules.specs.declared.tally.Tally.{Tally}
use Rattle.rules.specs.Levels.{top}
use Rattle.rules.specs.Choices.{IsTallyOf, IsChoice, choice_answer}
use Rattle.agreement.specs.declared.call.Call.{Call}
use Rattle.agreement.specs.declared.call.Call.TheVariants.{Link, Unlink}
use Rattle.agreement.specs.declared.replaying.Outcome.{Outcome}
use Rattle.agreement.specs.Calls.{Answer, site_after, answers_to}
use Rattle.agreement.specs.Sheets.{sheet_if_any, judged, Carries, CarriesGreatest}

-- A view of the site `shown` is a match for a book of the site g: there are stations, and the two have as many and the same links.
pub record Matches (g shown : Site) : Type 0 where
  pub has_stations : 0 < g.size
  pub size : g.size ≡ shown.size
  pub links : (s t : ℕ) → s < g.size → t < g.size → g.linked s t ≡ shown.linked s t

-- What a run promises, for these calls, over a view of the site `shown`, on bytes that were offered. The answer list and the buffer were
-- lent: `answers` and `buffer` before the run, `answered` and `left` after it.
pub record Agreement {Score : Type 0} (calls : List Call) (shown : Site) (score : Tally → Score) (order : Score → Score → Ordering) (offered : List ℕ)
    (answers answered : List Answer) (buffer left : List ℕ) (run : Outcome) : Type 0 where
  -- The book holds the site that the rules give for the calls, the numbers that it keeps are those of that site, and each
  -- call was answered as the rules say at its place. What stood in the list behind the answers stands there still.
  pub site_is : site run.book ≡ site_after calls
  pub numbers_are : (s : ℕ) → s < (site_after calls).size → stored run.book s ≡ number (site_after calls) s
  pub answers_are : answered ≡ answers_to calls ++ drop (length calls) answers
  -- A link at any place of the list lifts the stations that move, and an unlink lowers them, by one: those with the smaller of the two
  -- ends' numbers that hang on an end that moves, by a chain of moved stations without that link.
  pub links_lift : (i a b : ℕ) → slice_get calls i ≡ Some (Link a b) → MovesUp (site_after (take i calls)) (site_after (take (i + 1) calls)) a b
  pub unlinks_lower : (i a b : ℕ) → slice_get calls i ≡ Some (Unlink a b) → MovesDown (site_after (take i calls)) (site_after (take (i + 1) calls)) a b
  -- The sheet of that site was written to the buffer, and behind it stands what stood there. The verdicts are those of the view.
  pub length_is : run.sheet_length ≡ answer length (sheet_if_any (site_after calls))
  pub sheet_is : left ≡ left_in (λ bytes. bytes) (sheet_if_any (site_after calls)) buffer
  pub sheet_judged : run.sheet_verdict ≡ judged shown (sheet_if_any (site_after calls))
  pub offered_judged : run.offered_verdict ≡ inspected shown offered
  -- The levels are those that the rule chooses for the two sites.
  pub book_chooses : run.book_level ≡ choice_answer (site_after calls) score order
  pub view_chooses : run.view_level ≡ choice_answer shown score order
  -- Over a match the sheet of the book passed; and if the bytes that were offered passed, they carry the plan of the book's site, wherever
  -- they come from.
  pub sheet_passes : Matches (site_after calls) shown → run.sheet_verdict ≡ Ok tt
  pub offered_carries : Matches (site_after calls) shown → run.offered_verdict ≡ Ok tt → Carries (site_after calls) offered
  -- A book and its match choose one level: no level of the site scores above it, and of those that score level with it, it is the greatest.
  pub levels_agree : Matches (site_after calls) shown
      → (k : ℕ) × (run.book_level ≡ Ok k) × (run.view_level ≡ Ok k) × IsChoice (site_after calls) score order k
  -- Every level of the site is among those that were compared: it has a tally.
  pub levels_compared : Matches (site_after calls) shown → (k : ℕ) → k ≤ top (site_after calls) → (tally : Tally) × IsTallyOf (site_after calls) k tally
  -- Over any view, if they passed, each number that they carry is the greatest k for which some group holds the station and lets every
  -- member hear at least k others of the group.
  pub offered_greatest : run.offered_verdict ≡ Ok tt → CarriesGreatest shown offered

-- What a run answers: all of that, or a refusal of an answer list that has fewer entries than there are calls, and then nothing has changed.
abbrev pub Replayed : {Score : Type 0} → List Call → Site → (Tally → Score) → (Score → Score → Ordering) → List ℕ
    → List Answer → List Answer → List ℕ → List ℕ → Result Outcome Refusal → Type 0
Replayed calls shown score order offered answers answered buffer left (Ok run) =
    (length calls ≤ length answers) × Agreement calls shown score order offered answers answered buffer left run
Replayed calls shown score order offered answers answered buffer left (Err e) =
    (length answers < length calls) × (e ≡ BufferShort (length calls)) × (answered ≡ answers) × (left ≡ buffer)
