use Rattle.std.proofs.Common.{◌≡◌, ◌+◌, ◌-◌, length, replicate, slice_index, ◌∙◌, rules, arith}
use Rattle.view.specs.Settling.{rewritten}
use Rattle.view.proofs.Levels.{no_links_above}
use Rattle.view.proofs.Descent.{homes_from, ups_from, homes_down, ups_down, no_homes_yet, no_ups_yet, homes_done, ups_done}
use Rattle.view.proofs.forest.numbered.Numbered.settle.Given.{Over}
use Rattle.view.proofs.forest.numbered.Numbered.settle.Goals as goal
use Rattle.view.proofs.forest.numbered.Numbered.settle.Goals.{After-settle_level}

pub loop-level-init : goal.loop-level-init
loop-level-init g c =
    let view = c.args.self.now.view.now in
    let site = g.V.View.site view in
    let numbers = c.args.self.now.numbers.now in
    let right = c.args.self.now.right in
    let above = c.top-level.result + 1 in
    let filled : c.fill.new.self ≡ replicate (length numbers) 65535 = search rules in (
      rw (no_links_above site (slice_index numbers) (g.met.V.View.faithful view).lawful above (λ s h. omega (arith, c.top-level.ensures.greatest s (omega arith)))) (c.apart-components.ensures site.size (omega (arith, c.args.self.now.few))),
      no_homes_yet site numbers (λ s h. omega arith) c.args.homes.now (omega arith) above (λ s h. omega (arith, c.top-level.ensures.greatest s h)),
      rw (filled, right) (no_ups_yet site numbers (λ s h. omega arith) c.args.ups.now (omega arith) above (λ s h. omega (arith, c.top-level.ensures.greatest s h))),
    )

pub settle_level-requires-clause-above : goal.settle_level-requires-clause-above
settle_level-requires-clause-above g c = c.loop-level.invariant.0

-- the tables once the level was looked at
homes_now : (g : Over) (c : After-settle_level g)
    → let site = g.V.View.site c.args.self.now.view.now in
    c.settle_level.new.homes ≡ rewritten site.size (homes_from site (slice_index c.args.self.now.numbers.now) c.loop-level.level) c.args.homes.now
homes_now g c =
    let right = c.args.self.now.right in
    homes_down (g.V.View.site c.args.self.now.view.now) c.args.self.now.numbers.now c.loop-level.level
    c.args.homes.now c.loop-level.homes (omega arith) c.loop-level.invariant.1 c.settle_level.new.homes (rw right at c.settle_level.ensures.homes)

ups_now : (g : Over) (c : After-settle_level g)
    → let site = g.V.View.site c.args.self.now.view.now in
    c.settle_level.new.ups ≡ rewritten site.size (ups_from site (slice_index c.args.self.now.numbers.now) c.loop-level.level) c.args.ups.now
ups_now g c =
    let right = c.args.self.now.right in
    let few = c.args.self.now.few in
    ups_down (g.V.View.site c.args.self.now.view.now) c.args.self.now.numbers.now c.loop-level.level (omega arith)
    c.args.homes.now c.args.ups.now c.loop-level.ups (omega arith) c.loop-level.invariant.2
    c.settle_level.new.homes c.settle_level.new.ups (homes_now g c) (rw right at c.settle_level.ensures.ups)

pub loop-level-preserved : goal.loop-level-preserved
loop-level-preserved g c =
    let next : c.loop-level.level - 1 + 1 ≡ c.loop-level.level = omega arith in
    let settled = (goal.at.loop-level-preserved g c).After-settle_level in
    rw next (c.settle_level.ensures.joined, homes_now g settled, ups_now g settled)

pub returns : goal.returns
returns g c = absurd (omega arith)

pub returns-2-clause-homes : goal.returns-2-clause-homes
returns-2-clause-homes g c =
    let last : c.loop-level.level ≡ 0 = omega arith in
    let now = homes_now g (goal.at.returns-2-clause-homes g c).After-settle_level in
    rw c.args.self.now.right ((rw last at now) ∙ homes_done (g.V.View.site c.args.self.now.view.now) c.args.self.now.numbers.now c.args.homes.now)

pub returns-2-clause-ups : goal.returns-2-clause-ups
returns-2-clause-ups g c =
    let last : c.loop-level.level ≡ 0 = omega arith in
    let now = ups_now g (goal.at.returns-2-clause-ups g c).After-settle_level in
    rw c.args.self.now.right ((rw last at now) ∙ ups_done (g.V.View.site c.args.self.now.view.now) c.args.self.now.numbers.now c.args.ups.now)
