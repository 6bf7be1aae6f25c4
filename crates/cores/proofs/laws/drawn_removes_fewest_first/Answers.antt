use Rattle.cores.proofs.Drawing.{drawn_fewest_first}
use Rattle.cores.proofs.laws.drawn_removes_fewest_first.Goals as goal

pub returns : goal.returns
returns c = drawn_fewest_first
