use Rattle.view.proofs.Striking.{struck_alone}
use Rattle.view.proofs.laws.struck_stations_stand_alone.Goals as goal

pub returns : goal.returns
returns c = struck_alone
