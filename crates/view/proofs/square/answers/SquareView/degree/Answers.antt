use Rattle.std.proofs.Common.{◌∙◌}
use Rattle.view.specs.Grid.{bitmap}
use Rattle.view.proofs.Grids.{sound_shaped, row_short, row_listed}
use Rattle.view.proofs.square.answers.SquareView.degree.Goals as goal

pub row-requires : goal.row-requires
row-requires c = sound_shaped (bitmap c.args.self.now.grid) c.args.self.now.sound

pub count_ones-requires : goal.count_ones-requires
count_ones-requires c = rw c.row.ensures (row_short (bitmap c.args.self.now.grid) c.args.self.now.sound c.args.s)

pub returns : goal.returns
returns c = c.count_ones.ensures ∙ (rw (row_listed (bitmap c.args.self.now.grid) c.args.self.now.sound c.args.s, c.row.ensures))
