use Rattle.rules.proofs.Bounded.{net_bounded}
use Rattle.rules.proofs.laws.scores_of_net_are_bounded.Goals as goal

pub returns : goal.returns
returns c = net_bounded
