use Rattle.rules.proofs.Heard.{levels_within}
use Rattle.rules.proofs.laws.levels_are_within_limits.Goals as goal

pub returns : goal.returns
returns c = levels_within
