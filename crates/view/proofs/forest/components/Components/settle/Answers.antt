use Rattle.std.proofs.Common.{◌<◌, length, rules}
use Rattle.view.proofs.Joining.{shortened, shortened_twice, settled_more}
use Rattle.view.proofs.forest.components.Components.settle.Goals as goal

pub loop-s-preserved : goal.loop-s-preserved
loop-s-preserved c =
    let labels = c.loop-s.self.labels in
    let down = c.loop-s.self.downward in
    let s = c.loop-s.s in
    let (before, settled) = c.loop-s.invariant in
    let long = before.as_many in
    let on : s < length labels = search rules in
    rw (c.shorten.ensures.labels, c.shorten.ensures.label) (shortened_twice _ labels _ before (shortened labels down s on), settled_more labels down s on settled)
