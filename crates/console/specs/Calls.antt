-- What a call does to the book, and what is answered. Assumes nothing.
use Rattle.std.specs.Prelude.{ℕ, List, [], ◌∷◌, Ok, Err, Result, vec_items}
use Rattle.std.specs.Option.{option_map_or}
use Rattle.std.specs.Result.{result_unwrap_or}
use Rattle.cores.specs.Site.{Site, laid_out}
use Rattle.cores.specs.Links.{joined, parted}
use Rattle.view.specs.Answers.{counted}
use Rattle.book.specs.Answers.{after, link_answer, unlink_answer}
use Rattle.survey.specs.declared.faults.SurveyFault.{SurveyFault}
use Rattle.survey.specs.Surveys.{survey_read}
use Rattle.commands.specs.declared.answers.Answer.{Answer}
use Rattle.commands.specs.declared.answers.Answer.TheVariants.{Done, SurveyRefused}
use Rattle.commands.specs.declared.command.BookCall.{BookCall}
use Rattle.commands.specs.declared.command.BookCall.TheVariants.{LayOut, Link, Unlink, ReadSurvey}
use Rattle.commands.specs.Wording.{answered}
use Rattle.commands.specs.Wishes.{Wish, lay_out, link, unlink, survey, wish_in}

-- the answer to a survey
abbrev pub taken_up : Result Site SurveyFault → Answer
taken_up (Ok g) = Done
taken_up (Err fault) = SurveyRefused fault

-- what is answered to a call
abbrev pub answer_to : BookCall → Site → Answer
answer_to (LayOut stations) g = answered (counted stations)
answer_to (Link a b) g = answered (link_answer g a b)
answer_to (Unlink a b) g = answered (unlink_answer g a b)
answer_to (ReadSurvey text) g = taken_up (survey_read (vec_items text))

-- the site after what a line asks for: only the four calls alter it
abbrev pub site_after : Wish → Site → Site
site_after (lay_out stations) g = after (counted stations) (laid_out stations) g
site_after (link a b) g = after (link_answer g a b) (joined g a b) g
site_after (unlink a b) g = after (unlink_answer g a b) (parted g a b) g
site_after (survey text) g = result_unwrap_or (survey_read text) g
site_after wish g = g

-- the site after a line, which may ask for nothing
abbrev pub site_after_line : List ℕ → Site → Site
site_after_line line g = option_map_or (λ wish. site_after wish g) (wish_in line) g

-- the site after lines
unfoldable pub site_after_lines : List (List ℕ) → Site → Site
site_after_lines [] g = g
site_after_lines (line ∷ others) g = site_after_lines others (site_after_line line g)
