use Rattle.cores.proofs.Links.{link_less}
use Rattle.cores.proofs.laws.link_less_lowers_by_one.Goals as goal

pub returns : goal.returns
returns c = link_less
