use Rattle.std.proofs.Common.{◌≡◌, slice_index, sym, ap, ◌∙◌, arith, rules}
use Rattle.view.specs.Ups.{up_in_table}
use Rattle.view.specs.Settling.{up_at_level}
use Rattle.view.proofs.Written.{rewritten_none}
use Rattle.view.proofs.Settled.{up_set, up_left}
use Rattle.view.proofs.forest.numbered.Numbered.settle_ups.Goals as goal
use Rattle.view.proofs.forest.numbered.Numbered.settle_ups.Goals.{then-waits, else-waits}

pub loop-s-init : goal.loop-s-init
loop-s-init g c = sym (rewritten_none (up_at_level (g.V.View.site c.args.self.now.view.now) (slice_index c.args.self.now.numbers.now) c.args.level c.args.homes.now) c.args.ups.now)

pub loop-s-preserved : goal.loop-s-preserved
loop-s-preserved g c =
    let view = c.args.self.now.view.now in
    let numbers = c.args.self.now.numbers.now in
    let right = c.args.self.now.right in
    let few = c.args.self.now.few in
    elim c.if-waits.branch [
      | then-waits w ↦ rw w.ups-is
          (up_set (g.V.View.site view) (g.met.V.View.faithful view).lawful numbers right c.args.level c.args.components.now.labels c.requires.settled c.requires.joined
          c.loop-s.s (omega arith) c.args.homes.now c.args.ups.now c.loop-s.ups w.map_or.result (omega arith) c.loop-s.invariant
          (sym c.waits.ensures ∙ w.if-waits.true)
          (let told : w.map_or.result ≡ up_in_table w.lowest-up.result = search rules in told ∙ ap up_in_table w.lowest-up.ensures.lowest))
      | else-waits w ↦ rw w.ups-is
          (up_left (g.V.View.site view) (slice_index numbers) c.args.level c.loop-s.s c.args.homes.now c.args.ups.now c.loop-s.ups (omega arith) c.loop-s.invariant
          (sym c.waits.ensures ∙ w.if-waits.false))
    ]
