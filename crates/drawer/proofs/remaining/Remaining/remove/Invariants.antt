use Rattle.std.proofs.Common.{◌≡◌}
use Rattle.drawer.specs.Peeling.{there}
use Rattle.drawer.proofs.Counted.{Lowering}
use Rattle.drawer.proofs.remaining.Remaining.remove.Given as goal

abbrev pub invariant-loop-t : goal.invariant-loop-t
invariant-loop-t g l =
    (l.self.view ≡ l.fn.self.view)
    × Lowering (g.V.View.site l.fn.self.view.now) (there l.fn.self.left) l.fn.s l.t-iterator l.self.left
