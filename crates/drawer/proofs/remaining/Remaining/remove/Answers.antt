use Rattle.std.proofs.Common.{ap, ◌∙◌, arith}
use Rattle.drawer.proofs.Counted.{lowering_first, lowering_on_site, lowering_some, lowering_next, lowering_done, there_within}
use Rattle.drawer.proofs.remaining.Remaining.remove.Goals as goal

pub loop-t-init : goal.loop-t-init
loop-t-init g c =
    let old = c.args.self.now in
    let law = g.met.V.View.faithful old.view.now in
    let row = c.into_iter-t-iterator.ensures.into_iter_gives ∙ c.neighbours-t-items.ensures ∙ ap (λ v. g.V.View.row v.now c.args.s) c.take.ensures.view in
    let within = there_within old.left c.args.s c.requires.is_there in
    (c.take.ensures.view, rw (row, c.take.ensures.left) (lowering_first _ law.lawful _ c.args.s _ old.left c.requires.on_site c.requires.is_there within (law.once c.args.s) c.requires.counted))

pub lower-requires : goal.lower-requires
lower-requires g c =
    let law = g.met.V.View.faithful c.args.self.now.view.now in
    let (same, lowering) = c.loop-t.invariant in
    let before = c.loop-t.self.left in
    record {
      within = omega (arith, lowering_on_site _ law.lawful _ c.args.s _ _ before c.in-Some.t c.in-Some.ensures.steps lowering, c.requires.few);
      counted = lowering_some _ law.lawful _ c.args.s _ _ before c.in-Some.t c.in-Some.ensures.steps lowering;
    }

pub loop-t-preserved : goal.loop-t-preserved
loop-t-preserved g c =
    let law = g.met.V.View.faithful c.args.self.now.view.now in
    let (same, lowering) = c.loop-t.invariant in
    (c.lower.ensures.view ∙ same, rw c.lower.ensures.left (lowering_next _ law.lawful _ c.args.s _ _ c.loop-t.self.left c.in-Some.t c.in-Some.ensures.steps lowering))

pub returns-clause-left : goal.returns-clause-left
returns-clause-left g c =
    let law = g.met.V.View.faithful c.args.self.now.view.now in
    lowering_done _ law.lawful _ c.args.s c.loop-t.self.left (rw c.in-None.ensures.steps.0 at c.loop-t.invariant.1)
