-- The sheet of a survey. Assumes nothing.
use Rattle.std.specs.Prelude.{ℕ, List, ◌++◌, length, drop, Ok, Err, Result}
use Rattle.std.specs.Result.{result_map_both}
use Rattle.sheet.specs.Sites.{sheet_of}
use Rattle.survey.specs.declared.faults.SurveyFault.{SurveyFault}
use Rattle.survey.specs.Reports.{refusal_line}
use Rattle.survey.specs.Surveys.{survey_read}

-- the sheet of the site that a survey says, or what is wrong with the survey
abbrev pub sheet_for : List ℕ → Result (List ℕ) SurveyFault
sheet_for text = result_map_both sheet_of (λ fault. fault) (survey_read text)

-- how long it is
abbrev pub length_for : Result (List ℕ) SurveyFault → Result ℕ SurveyFault
length_for r = result_map_both length (λ fault. fault) r

-- what it leaves in a buffer: the sheet in front of what stood there, or all that stood there
abbrev pub written_to : Result (List ℕ) SurveyFault → List ℕ → List ℕ
written_to (Ok sheet) old = sheet ++ drop (length sheet) old
written_to (Err fault) old = old

-- the status that the program ends with: 0 for a sheet, 1 for a survey that is refused
abbrev pub status_of : Result (List ℕ) SurveyFault → ℕ
status_of (Ok sheet) = 0
status_of (Err fault) = 1

-- what it writes: the sheet, or the line of the refusal
abbrev pub output_of : Result (List ℕ) SurveyFault → List ℕ
output_of (Ok sheet) = sheet
output_of (Err fault) = refusal_line fault
