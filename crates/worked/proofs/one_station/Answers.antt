use Rattle.worked.proofs.Computed.{plans}
use Rattle.worked.proofs.one_station.Goals as goal

pub returns : goal.returns
returns c = plans.0
