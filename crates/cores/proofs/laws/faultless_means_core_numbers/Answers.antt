use Rattle.cores.proofs.Orders.{faultless_means}
use Rattle.cores.proofs.laws.faultless_means_core_numbers.Goals as goal

pub returns : goal.returns
returns c = faultless_means
