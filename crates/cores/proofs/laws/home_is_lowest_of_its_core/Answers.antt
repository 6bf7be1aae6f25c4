use Rattle.cores.proofs.Forest.{home_in_words}
use Rattle.cores.proofs.laws.home_is_lowest_of_its_core.Goals as goal

pub returns : goal.returns
returns c = home_in_words
