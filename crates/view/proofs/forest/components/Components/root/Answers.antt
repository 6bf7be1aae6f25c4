use Rattle.std.proofs.Common.{◌<◌, get_or, length, rules, arith}
use Rattle.view.proofs.Joining.{shortened, shortened_twice, led_on}
use Rattle.view.proofs.forest.components.Components.root.Goals as goal

pub loop-at-preserved : goal.loop-at-preserved
loop-at-preserved c =
    let labels = c.loop-at.self.labels in
    let down = c.loop-at.self.downward in
    let at = c.loop-at.at in
    let (before, leads, low) = c.loop-at.invariant in
    let on : at < length labels = search rules in
    let below = down at on in
    let further = down (get_or labels at 0) (omega arith) in
    rw (c.shorten-at.ensures.labels, c.shorten-at.ensures.label) (
      shortened_twice _ labels _ before (shortened labels down at on),
      λ n h. led_on labels down at on n c.args.s (omega arith) (leads n h),
      omega arith,
    )
