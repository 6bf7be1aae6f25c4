-- The lines of a survey, one after the other.
use Rattle.std.proofs.Common.{◌≡◌, ℕ, ◌+◌, List, [], ◌∷◌, Ok, Err, Result, ap, ◌∙◌}
use Rattle.std.specs.Result.{result_map_both}
use Rattle.text.specs.Texts.{tokens_of}
use Rattle.cores.specs.Site.{Site}
use Rattle.survey.specs.declared.faults.LineFault.{LineFault}
use Rattle.survey.specs.declared.faults.SurveyFault.{SurveyFault}
use Rattle.survey.specs.declared.faults.SurveyFault.TheVariants.{Line}
use Rattle.survey.specs.Surveys.{and_then, line_read, lines_read}

-- what the other lines come to, if the first one comes to this
abbrev with_first : ℕ → List (List ℕ) → Result Site LineFault → Result Site SurveyFault
with_first n others first = and_then (result_map_both (λ h. h) Line first) (λ h. lines_read (n + 1) h others)

module _ (n : ℕ) (g : Site) {all : List (List ℕ)} {line : List ℕ} {others : List (List ℕ)} (cut : all ≡ line ∷ others) where
  here : lines_read n g all ≡ with_first n others (line_read n g (tokens_of line))
  unfolding lines_read
  here = ap (lines_read n g) cut

  -- A line that is read.
  pub lines_on : (h : Site) → line_read n g (tokens_of line) ≡ Ok h → lines_read n g all ≡ lines_read (n + 1) h others
  lines_on h read = here ∙ ap (with_first n others) read

  -- The first line at fault ends it.
  pub lines_off : (fault : LineFault) → line_read n g (tokens_of line) ≡ Err fault → lines_read n g all ≡ Err (Line fault)
  lines_off fault read = here ∙ ap (with_first n others) read

-- Where there are no lines left.
pub lines_none : (n : ℕ) (g : Site) {all : List (List ℕ)} → all ≡ [] → lines_read n g all ≡ Ok g
unfolding lines_read
lines_none n g none = ap (lines_read n g) none
