use Rattle.cores.proofs.Orders.{drawn_rightful}
use Rattle.cores.proofs.laws.drawn_is_rightful.Goals as goal

pub returns : goal.returns
returns c = drawn_rightful
