use Rattle.cores.proofs.Drawing.{numbers_met}
use Rattle.cores.proofs.laws.numbers_are_greatest_counts_met.Goals as goal

pub returns : goal.returns
returns c = numbers_met
