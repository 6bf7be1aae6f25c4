use Rattle.cores.proofs.Numbers.{core_number}
use Rattle.cores.proofs.laws.core_set_is_by_number.Goals as goal

pub returns : goal.returns
returns c = core_number
