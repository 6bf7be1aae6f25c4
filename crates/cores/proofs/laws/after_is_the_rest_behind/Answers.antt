use Rattle.cores.proofs.Orders.{after_rest}
use Rattle.cores.proofs.laws.after_is_the_rest_behind.Goals as goal

pub returns : goal.returns
returns c = after_rest
