use Rattle.std.proofs.Common.{slice_index, sym, ap, ◌∙◌, arith}
use Rattle.std.specs.Option.{unwrap_or}
use Rattle.view.specs.Settling.{home_at_level}
use Rattle.view.proofs.Written.{rewritten_none}
use Rattle.view.proofs.Settled.{home_set, home_left}
use Rattle.view.proofs.forest.numbered.Numbered.settle_homes.Goals as goal
use Rattle.view.proofs.forest.numbered.Numbered.settle_homes.Goals.{then-self-s, else-self-s}

pub loop-s-init : goal.loop-s-init
loop-s-init g c = sym (rewritten_none (home_at_level (g.V.View.site c.args.self.now.view.now) (slice_index c.args.self.now.numbers.now) c.args.level) c.args.homes.now)

pub loop-s-preserved : goal.loop-s-preserved
loop-s-preserved g c =
    let view = c.args.self.now.view.now in
    let numbers = c.args.self.now.numbers.now in
    let right = c.args.self.now.right in
    let few = c.args.self.now.few in
    elim c.if-self-s.branch [
      | then-self-s w ↦ rw w.homes-is
          (home_set (g.V.View.site view) (g.met.V.View.faithful view).lawful numbers right c.args.level c.args.components.now.labels c.requires.settled c.requires.joined
          c.loop-s.s (omega arith) c.args.homes.now c.loop-s.homes w.unwrap_or-home.result (omega arith) c.loop-s.invariant w.if-self-s.true
          (w.unwrap_or-home.ensures ∙ ap (λ o. unwrap_or o c.loop-s.s) w.lowest.ensures.lowest))
      | else-self-s w ↦ rw w.homes-is
          (home_left (g.V.View.site view) (slice_index numbers) c.args.level c.loop-s.s c.args.homes.now c.loop-s.homes (omega arith) c.loop-s.invariant w.if-self-s.false)
    ]
