use Rattle.std.proofs.Common.{◌≡◌, length}
use Rattle.drawer.proofs.Counted.{FilledTo}
use Rattle.drawer.proofs.remaining.Remaining.of.Given as goal

abbrev pub invariant-loop-s : goal.invariant-loop-s
invariant-loop-s g l = (l.remaining.view.now ≡ l.view) × (length l.remaining.left ≡ 512) × FilledTo (λ s. length (g.V.View.row l.view s)) l.s l.remaining.left
