use Rattle.std.proofs.Common.{◌≡◌, ◌<◌, length, max, min, rules, arith, ◌∙◌, sym}
use Rattle.view.proofs.Joining.{joined_already, joined_now, still_components, shortened_twice, still_downward}
use Rattle.view.proofs.forest.components.Components.join.Goals as goal

pub invariant_of-self : goal.invariant_of-self
invariant_of-self c =
    let self = c.root-b.new.self in
    let long : length self.labels ≡ 512 = search rules in
    let on : max c.root-a.result c.root-b.result < length self.labels = omega (arith, c.root-a.ensures.below, c.root-b.ensures.below) in
    rw (c.max.ensures, c.min.ensures) (record { downward = still_downward self.labels (max c.root-a.result c.root-b.result) on (min c.root-a.result c.root-b.result) self.downward (omega arith) })

pub returns-then-not-holds_together : goal.returns-then-not-holds_together
returns-then-not-holds_together c n links hs ht few before =
    let labels = c.root-b.new.self.labels in
    let a = c.root-a.ensures in
    let b = c.root-b.ensures in
    let long : length labels ≡ 512 = search rules in
    let components = still_components n links _ labels (shortened_twice _ c.root-a.new.self.labels _ a.shortened b.shortened) before in
    rw (c.max.ensures, c.min.ensures) (joined_now n links c.args.s c.args.t hs ht labels components c.root-a.result c.root-b.result a.below b.below (omega arith)
    (λ R law has. a.leads n hs R law (b.shortened.only n R law has)) (b.leads n ht) (b.shortened.own _ a.own) b.own)

pub returns-else-not-holds_together : goal.returns-else-not-holds_together
returns-else-not-holds_together c n links hs ht few before =
    joined_already n links c.args.s c.args.t hs ht c.args.self.now.labels before (sym c.holds_together.ensures ∙ c.if-not-holds_together.false)
