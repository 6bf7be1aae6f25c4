use Rattle.std.proofs.Common.{◌≡◌, ◌-◌, ◌≤◌, length}
use Rattle.drawer.specs.Removals.{removals_of}
use Rattle.drawer.specs.Peeling.{Counts}
use Rattle.sheet.proofs.Runs.{Filled}
use Rattle.drawer.proofs.Peels.{remaining}
use Rattle.drawer.proofs.peeling.peel.Given as goal

abbrev pub invariant-loop-removal : goal.invariant-loop-removal
invariant-loop-removal g l =
    let site = g.V.View.site l.view in
    (l.place ≤ site.size)
    × (length l.out ≡ length l.fn.out)
    × Filled (λ r. r) l.place (removals_of site) l.fn.out l.out
    × (l.remaining.view.now ≡ l.view)
    × Counts site (remaining site l.place) l.remaining.left

abbrev pub decreases-loop-removal : goal.decreases-loop-removal
decreases-loop-removal g l = (g.V.View.site l.view).size - l.place
