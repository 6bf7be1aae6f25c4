use Rattle.cores.proofs.Sums.{total_listed}
use Rattle.cores.proofs.laws.total_is_the_sum_of_all.Goals as goal

pub returns : goal.returns
returns c = total_listed
