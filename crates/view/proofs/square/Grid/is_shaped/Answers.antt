use Rattle.std.proofs.Common.{◌∙◌, arith}
use Rattle.view.specs.Grid.{shaped}
use Rattle.view.proofs.Grids.{length_tested}
use Rattle.view.proofs.square.Grid.is_shaped.Goals as goal

pub returns : goal.returns
unfolding shaped
returns c = c.eq.ensures ∙ length_tested c.args.self.now.stations _ _ _ _ c.row_length.ensures c.checked_mul.ensures (omega arith)
