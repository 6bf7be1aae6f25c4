use Rattle.cores.proofs.Links.{link_lawful}
use Rattle.cores.proofs.laws.link_more_or_less_is_lawful.Goals as goal

pub returns : goal.returns
returns c = link_lawful
