use Rattle.std.proofs.Common.{sym, ap, ◌∙◌, ◌/◌, get_or, arith}
use Rattle.view.specs.Grid.{bitmap}
use Rattle.view.proofs.Grids.{cell_past, cell_at}
use Rattle.view.proofs.square.Grid.has.Goals as goal

pub returns-then-t-row : goal.returns-then-t-row
returns-then-t-row c = c.is_set.ensures ∙ sym (cell_at (bitmap c.args.self.now) c.args.s c.args.t _ (ap (λ bytes. get_or bytes (c.args.t / 8) 0) c.row-row.ensures))

pub returns-else-t-row : goal.returns-else-t-row
returns-else-t-row c = let past = cell_past (bitmap c.args.self.now) c.args.s c.args.t (rw (← c.row-row.ensures) (omega arith)) in grind arith
