use Rattle.rules.proofs.Chosen.{choice_only}
use Rattle.rules.proofs.laws.only_one_is_chosen.Goals as goal

pub returns : goal.returns
returns g c site score order law = choice_only site score order law
