use Rattle.cores.proofs.Numbers.{core_largest}
use Rattle.cores.proofs.laws.core_set_is_largest.Goals as goal

pub returns : goal.returns
returns c = core_largest
