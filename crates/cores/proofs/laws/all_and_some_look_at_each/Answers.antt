use Rattle.cores.proofs.Searches.{look_at_each}
use Rattle.cores.proofs.laws.all_and_some_look_at_each.Goals as goal

pub returns : goal.returns
returns c = look_at_each
