use Rattle.view.proofs.Theorems.{judges_bits}
use Rattle.view.proofs.laws.check_of_bits_in_words.Goals as goal

pub returns : goal.returns
returns c = judges_bits
