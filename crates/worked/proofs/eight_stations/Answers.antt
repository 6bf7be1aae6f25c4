use Rattle.worked.proofs.Computed.{plans}
use Rattle.worked.proofs.eight_stations.Goals as goal

pub returns : goal.returns
returns c = plans.1
