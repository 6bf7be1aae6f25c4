use Rattle.std.proofs.Common.{arith, rules, length, ◌≡◌, ◌<◌, Some}
use Rattle.drawer.proofs.Sorted.{sorted_put, within_set}
use Rattle.drawer.proofs.remaining.Remaining.put.Goals as goal

pub invariant_of-self : goal.invariant_of-self
invariant_of-self g c =
    let self = c.args.self.now in
    let left = c.args.left in
    let long : length self.left ≡ 512 = search rules in
    let sets : length self.by_left ≡ 512 = search rules in
    let on : c.args.t < length self.left = omega (arith, long, c.requires.within) in
    let lowest = c.min-self.ensures in
    let highest = c.max-self.ensures in
    record {
      sorted = sorted_put self.left self.by_left self.sorted c.args.t left _ on (omega (arith, sets, c.requires.few)) c.requires.gone c.insert.ensures;
      within = within_set self.left self.fewest self.limit _ _ c.args.t (Some left) on (omega (arith, lowest)) (omega (arith, highest)) (λ j is. let same : left ≡ j = cc in (omega (arith, lowest), omega (arith, highest))) self.within;
      few = omega (arith, self.few, c.requires.few, highest);
    }
