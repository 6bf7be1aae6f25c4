use Rattle.survey.proofs.Judged.{right_up_to_the_line}
use Rattle.survey.proofs.laws.refused_survey_is_right_up_to_the_line.Goals as goal

pub returns : goal.returns
returns c = right_up_to_the_line
