use Rattle.std.proofs.Common.{sym, arith}
use Rattle.view.specs.Grid.{bitmap, row_bytes}
use Rattle.view.proofs.Grids.{row_fits, row_off}
use Rattle.view.proofs.square.Grid.row.Goals as goal

pub returns-then-s-self : goal.returns-then-s-self
returns-then-s-self c = sym (row_off (bitmap c.args.self.now) c.requires c.args.s (omega arith))

pub overflow_mul-from : goal.overflow_mul-from
overflow_mul-from c = let fits = row_fits (bitmap c.args.self.now) c.requires c.args.s _ c.row_length-length.ensures c.if-s-self.false in omega arith

pub overflow_add-result : goal.overflow_add-result
overflow_add-result c = let fits = row_fits (bitmap c.args.self.now) c.requires c.args.s _ c.row_length-length.ensures c.if-s-self.false in omega arith

pub slice_bounds-result-end-2 : goal.slice_bounds-result-end-2
slice_bounds-result-end-2 c = row_fits (bitmap c.args.self.now) c.requires c.args.s _ c.row_length-length.ensures c.if-s-self.false

pub returns : goal.returns
unfolding row_bytes
returns c = rw c.row_length-length.ensures
