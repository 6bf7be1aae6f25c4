use Rattle.cores.proofs.Homes.{up_by_in_words}
use Rattle.cores.proofs.laws.up_by_numbers_is_nearest_home_below.Goals as goal

pub returns : goal.returns
returns c = up_by_in_words
