use Rattle.view.proofs.Grids.{grid_faithful, no_rows_sound}
use Rattle.view.proofs.square.Square.without_stations.Goals as goal

pub invariant_of-result : goal.invariant_of-result
invariant_of-result c = record { sound = no_rows_sound; faithful = grid_faithful _ no_rows_sound }
