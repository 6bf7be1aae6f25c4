use Rattle.std.proofs.Common.{get_or, rules}
use Rattle.std.proofs.lemmas.Bool.{eq-eqb, ne_eqb}
use Rattle.walkthrough.proofs.Moves.{noted_none, noted_more, noted_past}
use Rattle.walkthrough.proofs.linking.note_moved.Goals as goal
use Rattle.walkthrough.proofs.linking.note_moved.Goals.{then-from-to, else-from-to}

pub loop-station-init : goal.loop-station-init
loop-station-init c = noted_none c.args.before.now c.args.now.now c.args.out.now (search rules)

pub loop-station-preserved : goal.loop-station-preserved
loop-station-preserved c =
    let before = c.args.before.now in
    let now = c.args.now.now in
    let s = c.loop-station.station in
    elim c.if-from-to.branch [
      | then-from-to w ↦
          rw (w.out-is, w.count-is) (noted_more before now s c.loop-station.count c.loop-station.out c.loop-station-test.true c.loop-station.invariant (ne_eqb (get_or before s 0) (get_or now s 0) w.if-from-to.true))
      | else-from-to w ↦
          rw (w.out-is, w.count-is) (noted_past before now s c.loop-station.count c.loop-station.out c.loop-station-test.true c.loop-station.invariant (eq-eqb (get_or before s 0) (get_or now s 0) w.if-from-to.false))
    ]
