use Rattle.rules.proofs.Chosen.{choice_best}
use Rattle.rules.proofs.laws.choice_is_best.Goals as goal

pub returns : goal.returns
returns g c site lawful small score order law = choice_best site score order law lawful small
