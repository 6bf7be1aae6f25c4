use Rattle.cores.proofs.Forest.{up_in_words}
use Rattle.cores.proofs.laws.up_is_nearest_home_below.Goals as goal

pub returns : goal.returns
returns c = up_in_words
