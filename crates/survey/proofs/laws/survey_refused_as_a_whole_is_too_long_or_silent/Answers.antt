use Rattle.survey.proofs.Judged.{too_long_or_silent}
use Rattle.survey.proofs.laws.survey_refused_as_a_whole_is_too_long_or_silent.Goals as goal

pub returns : goal.returns
returns c = too_long_or_silent
