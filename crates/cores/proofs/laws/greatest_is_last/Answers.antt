use Rattle.cores.proofs.Searches.{greatest_last}
use Rattle.cores.proofs.laws.greatest_is_last.Goals as goal

pub returns : goal.returns
returns c = greatest_last
