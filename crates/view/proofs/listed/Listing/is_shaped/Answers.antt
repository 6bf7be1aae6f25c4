use Rattle.std.proofs.Common.{arith}
use Rattle.std.proofs.lemmas.Grind.{common_steps}
use Rattle.view.specs.Listing.{lists, shaped}
use Rattle.view.proofs.Rows.{never_falls_sorted}
use Rattle.view.proofs.listed.Listing.is_shaped.Goals as goal
use Rattle.view.proofs.listed.Listing.is_shaped.Goals.{then-eq, else-eq}

pub returns-then-is_sorted : goal.returns-then-is_sorted
unfolding shaped
returns-then-is_sorted c = elim c.if-eq.branch [
  | then-eq w ↦ let sorted = never_falls_sorted (lists c.args.self.now) _ w.is_sorted.ensures.cases in grind (arith, common_steps)
  | else-eq w ↦ grind (arith, common_steps)
]

pub returns-else-is_sorted : goal.returns-else-is_sorted
unfolding shaped
returns-else-is_sorted c = elim c.if-eq.branch [
  | then-eq w ↦ let sorted = never_falls_sorted (lists c.args.self.now) _ w.is_sorted.ensures.cases in grind (arith, common_steps)
  | else-eq w ↦ grind (arith, common_steps)
]
