use Rattle.std.proofs.Common.{refl}
use Rattle.drawer.proofs.Sorted.{within_next, first_is_least, nobody_is_there}
use Rattle.drawer.proofs.remaining.Remaining.next_removal.Goals as goal

pub loop-left-init : goal.loop-left-init
loop-left-init g c = (refl, refl, c.args.self.now.within)

pub loop-left-preserved : goal.loop-left-preserved
loop-left-preserved g c =
    let (view, same, low) = c.loop-left.invariant in
    let self = c.loop-left.self in
    (view, same, rw (← same) (within_next self.left self.by_left self.sorted c.loop-left.left c.args.self.now.limit (rw same low) c.in_default.ensures))

pub returns-in-Some : goal.returns-in-Some
returns-in-Some g c =
    let (view, same, low) = c.loop-left.invariant in
    let self = c.loop-left.self in
    record { view = view; left = same; least = rw (← same) (first_is_least self.left self.by_left self.sorted c.loop-left.left c.args.self.now.limit (rw same low) _ refl c.in-Some.ensures) }

pub returns : goal.returns
returns g c =
    let (view, same, low) = c.loop-left.invariant in
    let self = c.loop-left.self in
    record { view = view; left = same; least = rw (← same) (nobody_is_there self.left c.loop-left.left c.args.self.now.limit c.loop-left-test.false (rw same low)) }
