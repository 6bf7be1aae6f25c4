use Rattle.std.proofs.Common.{◌≡◌, ◌<◌, ℕ, get_or, rules, arith}
use Rattle.view.proofs.Joining.{apart}
use Rattle.view.proofs.forest.components.Components.apart.Goals.{After-from_fn}
use Rattle.view.proofs.forest.components.Components.apart.Goals as goal

-- each station is its own label
own : (c : After-from_fn) (s : ℕ) → s < 512 → get_or c.from_fn.result s 0 ≡ s
own c s h = let (p, q, called) = c.from_fn.ensures.items.at s 0 h in search rules

pub invariant_of-result : goal.invariant_of-result
invariant_of-result c = record { downward = λ s h. omega (arith, own (goal.at.invariant_of-result c).After-from_fn s (omega (arith, c.from_fn.ensures.items.long))) }

pub returns : goal.returns
returns c = apart _ (own (goal.at.returns c).After-from_fn)
