use Rattle.survey.proofs.Judged.{says_its_site}
use Rattle.survey.proofs.laws.accepted_survey_says_its_site.Goals as goal

pub returns : goal.returns
returns c = says_its_site
