use Rattle.worked.proofs.Computed.{plans}
use Rattle.worked.proofs.one_link_less.Goals as goal

pub returns : goal.returns
returns c = plans.4
