use Rattle.cores.proofs.Orders.{rightful_at_each_place_lem}
use Rattle.cores.proofs.laws.rightful_at_each_place.Goals as goal

pub returns : goal.returns
returns c = rightful_at_each_place_lem
