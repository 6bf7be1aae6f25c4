-- The lines that answer commands, byte by byte. Assumes nothing.
use Rattle.std.specs.Prelude.{ℕ, List, ◌++◌, length, codes, decimal, Ok, Err, Result}
use Rattle.refusals.specs.declared.Refusal.{Refusal}
use Rattle.refusals.specs.Refusals.{refusal_line}
use Rattle.survey.specs.declared.faults.Report.{Report}
use Rattle.survey.specs.Reports.{layer_number, survey_report}
use Rattle.transcript.specs.Wording.{listed}
use Rattle.commands.specs.Hexadecimals.{encoded}
use Rattle.commands.specs.declared.unread.Unread.{Unread}
use Rattle.commands.specs.declared.unread.Unread.TheVariants.{NotUnderstood, NoMemory}
use Rattle.commands.specs.declared.answers.Answer.{Answer}
use Rattle.commands.specs.declared.answers.Answer.TheVariants.{Done, Refused, SurveyRefused, Numbers, Sheet, Cards, Tables, Chosen, BookSheet, Offered, ChosenByBoth}

-- what is told of a line that could not be read
abbrev pub unread : Unread → List ℕ
unread NotUnderstood = codes "not understood"
unread NoMemory = codes "out of memory"

-- the answer to a call that answers nothing more
abbrev pub answered : Result (Unit {0}) Refusal → Answer
answered (Ok u) = Done
answered (Err refusal) = Refused refusal

-- `refused N place P layer Y line L byte B`
abbrev pub report_told : Report → List ℕ
report_told r =
    refusal_line r.refusal ++ (codes " layer " ++ (decimal (layer_number r.layer)
    ++ (codes " line " ++ (decimal r.spot.line ++ (codes " byte " ++ decimal r.spot.byte)))))

-- `passed`, or the line of the refusal
abbrev pub verdict_told : Result (Unit {0}) Refusal → List ℕ
verdict_told (Ok u) = codes "passed"
verdict_told (Err refusal) = refusal_line refusal

-- a level, or the line of the refusal
abbrev pub level_told : Result ℕ Refusal → List ℕ
level_told (Ok level) = decimal level
level_told (Err refusal) = refusal_line refusal

-- `ok`, the line of a refusal, or that of a survey's; `numbers: k k ..`; `sheet HEX`; `cards HEX`; `tables n: A .. / B .. / C .. / D ..`; `chosen K`;
-- `book's sheet: ` and `offered: `, with a verdict; `chosen by book K, by view K`
abbrev pub told : Answer → List ℕ
told Done = codes "ok"
told (Refused refusal) = refusal_line refusal
told (SurveyRefused fault) = report_told (survey_report fault)
told (Numbers numbers) = codes "numbers:" ++ listed numbers.now
told (Sheet bytes) = codes "sheet " ++ encoded bytes.now
told (Cards bytes) = codes "cards " ++ encoded bytes.now
told (Tables numbers homes ups order) =
    codes "tables " ++ (decimal (length numbers.now) ++ (codes ":" ++ (listed numbers.now
    ++ (codes " /" ++ (listed homes.now ++ (codes " /" ++ (listed ups.now ++ (codes " /" ++ listed order.now))))))))
told (Chosen level) = codes "chosen " ++ decimal level
told (BookSheet verdict) = codes "book's sheet: " ++ verdict_told verdict
told (Offered verdict) = codes "offered: " ++ verdict_told verdict
told (ChosenByBoth book view) = codes "chosen by book " ++ (level_told book ++ (codes ", by view " ++ level_told view))
