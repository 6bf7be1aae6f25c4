use Rattle.cores.proofs.Lifting.{moving}
use Rattle.cores.proofs.laws.moving_is_having_another_number.Goals as goal

pub returns : goal.returns
returns c = moving
