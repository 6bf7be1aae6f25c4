use Rattle.cores.proofs.Homes.{home_by_in_words}
use Rattle.cores.proofs.laws.home_by_numbers_is_lowest_of_its_core.Goals as goal

pub returns : goal.returns
returns c = home_by_in_words
