-- Which level of a site is chosen. Assumes nothing.
use Rattle.std.specs.Prelude.{◌≡◌, ℕ, suc, ◌≤◌, Bool, true, false, not, cond, Some, None, Option, Ok, Err, Result}
use Rattle.std.specs.Option.{option_map}
use Rattle.std.specs.declared.cmp.Ordering.{Ordering}
use Rattle.std.specs.declared.cmp.Ordering.TheVariants.{Equal}
use Rattle.std.specs.Ordering.{is_gt}
use Rattle.refusals.specs.declared.Refusal.{Refusal}
use Rattle.refusals.specs.declared.Refusal.TheVariants.{CountOutOfRange}
use Rattle.rules.specs.declared.counts.Counts.{Counts}
use Rattle.rules.specs.declared.tally.Tally.{Tally}
use Rattle.cores.specs.Counting.{some, greatest}
use Rattle.cores.specs.Site.{Site, Lawful, sized}
use Rattle.cores.specs.Numbers.{in_core}
use Rattle.rules.specs.Levels.{counts_of, top}
use Rattle.rules.specs.Tallies.{counts_in, tally_of}
use Rattle.rules.specs.Orders.{LawfulOrder}

-- what a level scores by its tally
abbrev pub score_of : {Score : Type 0} → (Tally → Score) → Counts → Option Score
score_of score level = option_map score (tally_of level)

-- does one score stand above another? Not where a level has no score
abbrev pub is_above : {Score : Type 0} → (Score → Score → Ordering) → Option Score → Option Score → Bool
is_above order (Some a) (Some b) = is_gt (order a b)
is_above order (Some a) None = false
is_above order None b = false

-- does level j of a site score above level k
abbrev pub scores_above : {Score : Type 0} → Site → (Tally → Score) → (Score → Score → Ordering) → ℕ → ℕ → Bool
scores_above g score order j k = is_above order (score_of score (counts_of g (in_core g j))) (score_of score (counts_of g (in_core g k)))

-- the level that is chosen: the greatest that no level scores above
abbrev pub choice : {Score : Type 0} → Site → (Tally → Score) → (Score → Score → Ordering) → ℕ
choice g score order = greatest (top g) (λ k. not (some (suc (top g)) (λ j. scores_above g score order j k)))

-- what choose answers
abbrev pub choice_answer : {Score : Type 0} → Site → (Tally → Score) → (Score → Score → Ordering) → Result ℕ Refusal
choice_answer g score order = cond (sized g.size) (Ok (choice g score order)) (Err CountOutOfRange)

-- The tally is that of level k of a site.
abbrev pub IsTallyOf : Site → ℕ → Tally → Type 0
IsTallyOf g k tally = (k ≤ top g) × (counts_in tally ≡ counts_of g (in_core g k))

-- Level k is the choice: it has a tally, no level scores above it, and of those that score level with it, it is the greatest.
pub record IsChoice {Score : Type 0} (g : Site) (score : Tally → Score) (order : Score → Score → Ordering) (k : ℕ) : Type 0 where
  pub tally : Tally
  pub its : IsTallyOf g k tally
  pub best : (j : ℕ) (other : Tally) → IsTallyOf g j other → is_gt (order (score other) (score tally)) ≡ false
  pub greatest : (j : ℕ) (other : Tally) → IsTallyOf g j other → order (score other) (score tally) ≡ Equal → j ≤ k

-- What is chosen for a lawful site of 1 to 512 stations is the choice, for every score and every lawful order.
abbrev pub TheChoiceIsBest : Type 0 → Type 0
TheChoiceIsBest Score = (g : Site) → Lawful g → sized g.size ≡ true → (score : Tally → Score) (order : Score → Score → Ordering) → LawfulOrder order
    → IsChoice g score order (choice g score order)

-- No other level is the choice.
abbrev pub OnlyOneIsChosen : Type 0 → Type 0
OnlyOneIsChosen Score = (g : Site) (score : Tally → Score) (order : Score → Score → Ordering) → LawfulOrder order
    → (j k : ℕ) → IsChoice g score order j → IsChoice g score order k → j ≡ k
