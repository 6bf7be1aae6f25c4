use Rattle.cores.proofs.Forest.{connected_parts}
use Rattle.cores.proofs.laws.connected_cores_part_the_core_set.Goals as goal

pub returns : goal.returns
returns c = connected_parts
