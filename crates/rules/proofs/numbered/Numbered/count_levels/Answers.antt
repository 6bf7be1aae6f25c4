use Rattle.std.proofs.Common.{◌≡◌, ◌+◌, ◌-◌, ◌≤◌, slice_index, slice_index_or, arith}
use Rattle.rules.proofs.Links.{no_counts}
use Rattle.rules.proofs.Sweeps.{Swept, swept_none, swept_more, swept_few, swept_all}
use Rattle.rules.proofs.numbered.Numbered.count_levels.Given.{Over}
use Rattle.rules.proofs.numbered.Numbered.count_levels.Goals as goal
use Rattle.rules.proofs.numbered.Numbered.count_levels.Goals.{In-loop-level}

pub loop-level-init : goal.loop-level-init
loop-level-init g c =
    let right = c.args.self.now.right in
    swept_none (g.V.View.site c.args.self.now.view.now) (slice_index c.args.self.now.numbers.now) c.note_stations.new.list
    (λ s h. omega (arith, c.requires.room s (omega arith), c.note_stations.auto.list)) c.note_stations.ensures

-- the sweep down to the level above
above : (g : Over) (c : In-loop-level g)
    → Swept (g.V.View.site c.args.self.now.view.now) (slice_index c.args.self.now.numbers.now) (c.loop-level.level - 1 + 1) c.loop-level.members c.loop-level.inside c.loop-level.reaching c.loop-level.list
above g c = let next : c.loop-level.level - 1 + 1 ≡ c.loop-level.level = omega arith in rw next c.loop-level.invariant

-- the counts of the level are small
few : (g : Over) (c : In-loop-level g)
    → let now = slice_index_or c.loop-level.list (c.loop-level.level - 1) no_counts in
    (c.loop-level.members + now.members ≤ 512) × (c.loop-level.inside + now.inside ≤ c.loop-level.reaching + now.boundary) × (c.loop-level.reaching + now.boundary ≤ 262144)
few g c =
    let right = c.args.self.now.right in
    swept_few (g.V.View.site c.args.self.now.view.now) (slice_index c.args.self.now.numbers.now) (c.loop-level.level - 1) c.loop-level.members c.loop-level.inside c.loop-level.reaching c.loop-level.list _
    (omega arith) (above g c) (omega (arith, c.args.self.now.few))

pub overflow_add-members : goal.overflow_add-members
overflow_add-members g c = omega (arith, (few g (goal.at.overflow_add-members g c).In-loop-level).0)

pub overflow_add-inside : goal.overflow_add-inside
overflow_add-inside g c = let small = few g (goal.at.overflow_add-inside g c).In-loop-level in omega (arith, small.1, small.2)

pub overflow_add-reaching : goal.overflow_add-reaching
overflow_add-reaching g c = omega (arith, (few g (goal.at.overflow_add-reaching g c).In-loop-level).2)

pub overflow_sub-list : goal.overflow_sub-list
overflow_sub-list g c = (few g (goal.at.overflow_sub-list g c).In-loop-level).1

pub loop-level-preserved : goal.loop-level-preserved
loop-level-preserved g c =
    swept_more (g.V.View.site c.args.self.now.view.now) (slice_index c.args.self.now.numbers.now) (c.loop-level.level - 1) c.loop-level.members c.loop-level.inside c.loop-level.reaching c.loop-level.list _
    (omega arith) (above g (goal.at.loop-level-preserved g c).In-loop-level)

pub returns : goal.returns
returns g c =
    let last : c.loop-level.level ≡ 0 = omega arith in
    swept_all (g.V.View.site c.args.self.now.view.now) (slice_index c.args.self.now.numbers.now) c.loop-level.members c.loop-level.inside c.loop-level.reaching c.loop-level.list (rw last at c.loop-level.invariant)
