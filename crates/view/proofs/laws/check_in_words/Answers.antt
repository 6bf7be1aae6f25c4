use Rattle.view.proofs.Theorems.{judges}
use Rattle.view.proofs.laws.check_in_words.Goals as goal

pub returns : goal.returns
returns c = judges
