-- What the rules give for calls of a book, one after the other. Assumes nothing.
use Rattle.std.specs.Prelude.{List, [], ◌∷◌, Result}
use Rattle.std.specs.Result.{result_map_both, result_unwrap_or}
use Rattle.cores.specs.Site.{Site, laid_out, no_stations}
use Rattle.cores.specs.Links.{joined, parted}
use Rattle.view.specs.Answers.{counted}
use Rattle.book.specs.Answers.{after, link_answer, unlink_answer, Answer as BookAnswer}
use Rattle.survey.specs.declared.faults.SurveyFault.{SurveyFault}
use Rattle.survey.specs.Surveys.{survey_read}
use Rattle.agreement.specs.declared.call.Call.{Call}
use Rattle.agreement.specs.declared.call.Call.TheVariants.{LayOut, Link, Unlink, ReadSurvey}
use Rattle.agreement.specs.declared.call.CallRefusal.{CallRefusal}
use Rattle.agreement.specs.declared.call.CallRefusal.TheVariants.{Book as ByBook, Survey as ByReader}

-- done, or turned down
abbrev pub Answer : Type 0
Answer = Result (Unit {0}) CallRefusal

-- what the book answers
abbrev pub by_book : BookAnswer → Answer
by_book answer = result_map_both (λ u. u) ByBook answer

-- and the reader of surveys
abbrev pub by_reader : Result Site SurveyFault → Answer
by_reader read = result_map_both (λ _. tt) ByReader read

-- what a call answers, on a book that holds this site
abbrev pub answer_to : Call → Site → Answer
answer_to (LayOut n) g = by_book (counted n)
answer_to (Link a b) g = by_book (link_answer g a b)
answer_to (Unlink a b) g = by_book (unlink_answer g a b)
answer_to (ReadSurvey text) g = by_reader (survey_read text.now)

-- the site that the book holds after it
abbrev pub after_call : Call → Site → Site
after_call (LayOut n) g = after (counted n) (laid_out n) g
after_call (Link a b) g = after (link_answer g a b) (joined g a b) g
after_call (Unlink a b) g = after (unlink_answer g a b) (parted g a b) g
after_call (ReadSurvey text) g = result_unwrap_or (survey_read text.now) g

-- the site after some calls
unfoldable pub after_calls : List Call → Site → Site
after_calls [] g = g
after_calls (call ∷ others) g = after_calls others (after_call call g)

-- what each of them answers
unfoldable pub answers_by : List Call → Site → List Answer
answers_by [] g = []
answers_by (call ∷ others) g = answer_to call g ∷ answers_by others (after_call call g)

-- the site after calls on an empty book
abbrev pub site_after : List Call → Site
site_after calls = after_calls calls no_stations

-- and what each of them answers
abbrev pub answers_to : List Call → List Answer
answers_to calls = answers_by calls no_stations
