use Rattle.cores.proofs.Searches.{lowest_first}
use Rattle.cores.proofs.laws.lowest_is_first.Goals as goal

pub returns : goal.returns
returns c = lowest_first
