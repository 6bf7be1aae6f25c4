use Rattle.std.proofs.Common.{◌≡◌}
use Rattle.drawer.specs.Peeling.{CountsWithin}
use Rattle.drawer.proofs.remaining.Remaining.next_removal.Given as goal

abbrev pub invariant-loop-left : goal.invariant-loop-left
invariant-loop-left g l = (l.self.view ≡ l.fn.self.view) × (l.self.left ≡ l.fn.self.left) × CountsWithin l.left l.fn.self.limit l.fn.self.left
