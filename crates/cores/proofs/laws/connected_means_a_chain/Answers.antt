use Rattle.cores.proofs.Forest.{connected_chain}
use Rattle.cores.proofs.laws.connected_means_a_chain.Goals as goal

pub returns : goal.returns
returns c = connected_chain
