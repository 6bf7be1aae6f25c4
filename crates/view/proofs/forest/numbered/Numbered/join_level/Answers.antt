use Rattle.std.proofs.Common.{◌≡◌, slice_index, arith}
use Rattle.view.proofs.Joining.{still_components}
use Rattle.view.proofs.Levels.{no_links_yet, links_of_one_more, links_of_no_more, level_joined}
use Rattle.view.proofs.forest.numbered.Numbered.join_level.Goals as goal
use Rattle.view.proofs.forest.numbered.Numbered.join_level.Goals.{then-self-s, else-self-s}

pub loop-s-init : goal.loop-s-init
loop-s-init g c = rw (no_links_yet (g.V.View.site c.args.self.now.view.now) (slice_index c.args.self.now.numbers.now) c.args.level) c.requires

pub loop-s-preserved : goal.loop-s-preserved
loop-s-preserved g c =
    let site = g.V.View.site c.args.self.now.view.now in
    let number = slice_index c.args.self.now.numbers.now in
    elim c.if-self-s.branch [
      | then-self-s w ↦ rw (w.components-is, ← links_of_one_more site number c.args.level c.loop-s.s w.if-self-s.true) (w.join_neighbours.ensures _ c.loop-s.invariant)
      | else-self-s w ↦ rw (w.components-is, ← links_of_no_more site number c.args.level c.loop-s.s w.if-self-s.false) c.loop-s.invariant
    ]

pub returns : goal.returns
returns g c =
    let view = c.args.self.now.view.now in
    let all : c.loop-s.s ≡ (g.V.View.site view).size = omega (arith, c.args.self.now.right) in
    let joined = level_joined (g.V.View.site view) (slice_index c.args.self.now.numbers.now) (g.met.V.View.faithful view).lawful c.args.level c.loop-s.components.labels (rw all at c.loop-s.invariant) in
    record { joined = still_components _ _ _ _ c.settle.ensures.shortened joined; settled = rw c.args.self.now.right at c.settle.ensures.settled }
