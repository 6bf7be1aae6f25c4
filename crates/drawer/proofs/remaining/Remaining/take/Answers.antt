use Rattle.std.proofs.Common.{arith, rules, length, ◌≡◌, ◌<◌, ◌∙◌, None}
use Rattle.drawer.proofs.Sorted.{sorted_taken, within_set}
use Rattle.drawer.proofs.remaining.Remaining.take.Goals as goal

pub bounds-self-left : goal.bounds-self-left
bounds-self-left g c =
    let self = c.args.self.now in
    omega (arith, self.within c.args.t c.in_ok-left.left c.in_ok-left.was, self.few)

pub offset_bounds-self-left : goal.offset_bounds-self-left
offset_bounds-self-left g c =
    let within : c.in_ok-left.left < 512 = bounds-self-left g c in
    search rules

pub invariant_of-self : goal.invariant_of-self
invariant_of-self g c =
    let self = c.args.self.now in
    let t = c.args.t in
    let left = c.in_ok-left.left in
    let long : length self.left ≡ 512 = search rules in
    let sets : length self.by_left ≡ 512 = search rules in
    let on : t < length self.left = omega (arith, long, c.requires) in
    record {
      sorted = sorted_taken self.left self.by_left self.sorted t left _ on (omega (arith, sets, self.within t left c.in_ok-left.was, self.few)) c.in_ok-left.was c.remove.ensures;
      within = within_set self.left self.fewest self.limit _ _ t None on (omega arith) (omega arith) (λ j is. absurd cc) self.within;
      few = self.few;
    }

pub returns-clause-few : goal.returns-clause-few
returns-clause-few g c k is =
    let self = c.args.self.now in
    omega (arith, self.within c.args.t k (c.in_ok-left.was ∙ is), self.few)
