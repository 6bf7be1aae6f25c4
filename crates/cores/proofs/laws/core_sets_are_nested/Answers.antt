use Rattle.cores.proofs.Numbers.{cores_nested}
use Rattle.cores.proofs.laws.core_sets_are_nested.Goals as goal

pub returns : goal.returns
returns c = cores_nested
