use Rattle.cores.proofs.Numbers.{number_greatest}
use Rattle.cores.proofs.laws.number_is_greatest.Goals as goal

pub returns : goal.returns
returns c = number_greatest
