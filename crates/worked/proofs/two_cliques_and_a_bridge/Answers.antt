use Rattle.worked.proofs.Computed.{plans}
use Rattle.worked.proofs.two_cliques_and_a_bridge.Goals as goal

pub returns : goal.returns
returns c = plans.2
