use Rattle.cores.proofs.Links.{link_undone}
use Rattle.cores.proofs.laws.more_and_less_undo_each_other.Goals as goal

pub returns : goal.returns
returns c = link_undone
