use Rattle.cores.proofs.Counts.{count_kept}
use Rattle.cores.proofs.laws.count_is_how_many_pass.Goals as goal

pub returns : goal.returns
returns c = count_kept
