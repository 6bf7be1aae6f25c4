use Rattle.std.proofs.Common.{ℕ, ◌<◌, ◌≤◌}
use Rattle.view.specs.Components.{AreShortened, LeadTogether}
use Rattle.view.proofs.forest.components.Components.root.Given as goal

abbrev pub invariant-loop-at : goal.invariant-loop-at
invariant-loop-at l = AreShortened l.fn.self.labels l.self.labels × ((n : ℕ) → l.s < n → LeadTogether n l.self.labels l.s l.at) × (l.at ≤ l.s)

abbrev pub decreases-loop-at : goal.decreases-loop-at
decreases-loop-at l = l.at
