use Rattle.std.proofs.Common.{◌≡◌, length}
use Rattle.sheet.proofs.Runs.{Filled}
use Rattle.drawer.proofs.ordering.note_order.Given as goal

abbrev pub invariant-loop-place : goal.invariant-loop-place
invariant-loop-place l = (length l.order ≡ length l.fn.order) × Filled (λ r. r.station) l.place l.removals l.fn.order l.order
