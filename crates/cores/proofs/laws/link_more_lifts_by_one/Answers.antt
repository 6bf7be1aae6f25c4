use Rattle.cores.proofs.Links.{link_more}
use Rattle.cores.proofs.laws.link_more_lifts_by_one.Goals as goal

pub returns : goal.returns
returns c = link_more
