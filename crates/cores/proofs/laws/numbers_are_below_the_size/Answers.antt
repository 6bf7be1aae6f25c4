use Rattle.cores.proofs.Numbers.{number_below}
use Rattle.cores.proofs.laws.numbers_are_below_the_size.Goals as goal

pub returns : goal.returns
returns c = number_below
