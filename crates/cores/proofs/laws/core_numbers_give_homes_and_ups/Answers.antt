use Rattle.cores.proofs.ByNumbers.{same_by_core_numbers}
use Rattle.cores.proofs.laws.core_numbers_give_homes_and_ups.Goals as goal

pub returns : goal.returns
returns c = same_by_core_numbers
