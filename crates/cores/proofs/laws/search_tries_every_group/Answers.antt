use Rattle.cores.proofs.Numbers.{every_group}
use Rattle.cores.proofs.laws.search_tries_every_group.Goals as goal

pub returns : goal.returns
returns c = every_group
