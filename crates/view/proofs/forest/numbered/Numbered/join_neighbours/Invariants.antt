use Rattle.std.proofs.Common.{◌≡◌, ℕ, Bool, ◌++◌, slice_index}
use Rattle.view.specs.Components.{AreComponents}
use Rattle.view.proofs.Joining.{with_links_to}
use Rattle.view.proofs.forest.numbered.Numbered.join_neighbours.Given as goal

abbrev pub invariant-loop-t : goal.invariant-loop-t
invariant-loop-t g l =
    (l.yielded ++ l.t-iterator ≡ g.V.View.row l.self.view.now l.s)
    × ((links : ℕ → ℕ → Bool) → AreComponents (g.V.View.site l.self.view.now).size links l.fn.components.labels
    → AreComponents (g.V.View.site l.self.view.now).size (with_links_to links (slice_index l.self.numbers.now) l.s l.yielded) l.components.labels)
