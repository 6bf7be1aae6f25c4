use Rattle.view.proofs.Striking.{struck_twice}
use Rattle.view.proofs.laws.striking_twice_strikes_both.Goals as goal

pub returns : goal.returns
returns c = struck_twice
