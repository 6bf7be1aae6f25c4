use Rattle.cores.proofs.Orders.{fault_at_place}
use Rattle.cores.proofs.laws.at_fault_is_judged_at_its_place.Goals as goal

pub returns : goal.returns
returns c = fault_at_place
