use Rattle.cores.proofs.ByNumbers.{connected_by_chain}
use Rattle.cores.proofs.laws.connected_by_numbers_means_a_chain.Goals as goal

pub returns : goal.returns
returns c = connected_by_chain
