use Rattle.drawer.proofs.Drawn.{removed_in_turn}
use Rattle.drawer.proofs.laws.stations_are_removed_in_turn.Goals as goal

pub returns : goal.returns
returns c = removed_in_turn
