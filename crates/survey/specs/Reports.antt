-- What is told of a survey that is turned down. Assumes nothing.
use Rattle.std.specs.Prelude.{ℕ, List, [], ◌∷◌, ◌++◌, codes, decimal}
use Rattle.refusals.specs.declared.Refusal.TheVariants.{TextOutOfForm, SizeLineMisplaced, TextTooLong}
use Rattle.refusals.specs.declared.Refusal.{Refusal}
use Rattle.refusals.specs.Refusals.{told}
use Rattle.survey.specs.declared.faults.Layer.{Layer}
use Rattle.survey.specs.declared.faults.Layer.TheVariants.{Word as InWord, Line as InLine, Book as InBook}
use Rattle.survey.specs.declared.faults.Report.{Report}
use Rattle.survey.specs.declared.faults.LineFault.{LineFault}
use Rattle.survey.specs.declared.faults.LineFault.TheVariants.{WrongWord, WrongCount, Misplaced, Book}
use Rattle.survey.specs.declared.faults.SurveyFault.{SurveyFault}
use Rattle.survey.specs.declared.faults.SurveyFault.TheVariants.{TooLong, NoSize, Line}

-- 1 for words, 2 for lines, 3 for the book
abbrev pub layer_number : Layer → ℕ
layer_number InWord = 1
layer_number InLine = 2
layer_number InBook = 3

-- a refusal by a layer, at a line and a byte
abbrev pub reported : Refusal → Layer → ℕ → ℕ → Report
reported refusal layer line byte = record { refusal = refusal; layer = layer; spot = record { line = line; byte = byte } }

-- what is told of a line
abbrev pub line_report : LineFault → Report
line_report (WrongWord spot) = reported TextOutOfForm InWord spot.line spot.byte
line_report (WrongCount line) = reported TextOutOfForm InLine line 1
line_report (Misplaced line) = reported SizeLineMisplaced InLine line 1
line_report (Book fault) = reported fault.refusal InBook fault.spot.line fault.spot.byte

-- and of a survey
abbrev pub survey_report : SurveyFault → Report
survey_report TooLong = reported TextTooLong InLine 0 0
survey_report NoSize = reported SizeLineMisplaced InLine 0 0
survey_report (Line fault) = line_report fault

-- `refused N layer Y line L byte B`
abbrev pub report_line : Report → List ℕ
report_line r =
    codes "refused " ++ (decimal (told r.refusal).number ++ (codes " layer " ++ (decimal (layer_number r.layer)
    ++ (codes " line " ++ (decimal r.spot.line ++ (codes " byte " ++ decimal r.spot.byte))))))

-- and an LF behind it
abbrev pub refusal_line : SurveyFault → List ℕ
refusal_line fault = report_line (survey_report fault) ++ 10 ∷ []
