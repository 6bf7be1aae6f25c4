use Rattle.std.proofs.Common.{◌<◌, length, get_or, rules, arith}
use Rattle.view.proofs.Joining.{still_downward}
use Rattle.view.proofs.forest.components.Components.shorten.Goals as goal

pub invariant_of-self : goal.invariant_of-self
invariant_of-self c =
    let self = c.args.self.now in
    let s = c.args.s in
    let on : s < length self.labels = search rules in
    let low = self.downward s on in
    let lower = self.downward (get_or self.labels s 0) (omega arith) in
    record { downward = still_downward self.labels s on _ self.downward (rw c.from.ensures (omega arith)) }
