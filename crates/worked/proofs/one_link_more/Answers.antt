use Rattle.worked.proofs.Computed.{plans}
use Rattle.worked.proofs.one_link_more.Goals as goal

pub returns : goal.returns
returns c = plans.3
