use Rattle.std.proofs.Common.{length-set, map-id, refl, sym, ap, ◌∙◌, subst, arith}
use Rattle.drawer.specs.Removals.{removals_of}
use Rattle.drawer.specs.Peeling.{Counts, there}
use Rattle.sheet.proofs.Runs.{Filled-none, Filled-more, Filled-all}
use Rattle.drawer.proofs.Peels.{least_is_next, none_at_the_end, all_remain, removals_length, removal_at, counts_on, no_removal}
use Rattle.drawer.proofs.peeling.peel.Goals as goal

pub loop-removal-init : goal.loop-removal-init
loop-removal-init g c =
    let site = g.V.View.site c.args.view.now in
    (omega arith, refl, Filled-none (λ r. r) (removals_of site) c.args.out.now, c.of-remaining.ensures.view, subst (λ X. Counts site X c.of-remaining.result.left) (all_remain site) c.of-remaining.ensures.left)

pub bounds-out-place : goal.bounds-out-place
bounds-out-place g c =
    let (low, long, noted, same, counted) = c.loop-removal.invariant in
    let next = least_is_next (g.V.View.site c.args.view.now) c.loop-removal.place c.loop-removal.remaining.left low counted c.in-Some.removal c.in-Some.ensures.least in
    omega (arith, next.0, c.requires.room)

pub remove-requires-clause-on_site : goal.remove-requires-clause-on_site
remove-requires-clause-on_site g c =
    let (low, long, noted, same, counted) = c.loop-removal.invariant in
    let next = least_is_next (g.V.View.site c.args.view.now) c.loop-removal.place c.loop-removal.remaining.left low counted c.in-Some.removal c.in-Some.ensures.least in
    rw (c.in-Some.ensures.view, same) next.2

pub loop-removal-smaller : goal.loop-removal-smaller
loop-removal-smaller g c =
    let (low, long, noted, same, counted) = c.loop-removal.invariant in
    let next = least_is_next (g.V.View.site c.args.view.now) c.loop-removal.place c.loop-removal.remaining.left low counted c.in-Some.removal c.in-Some.ensures.least in
    omega (arith, next.0)

pub loop-removal-preserved : goal.loop-removal-preserved
loop-removal-preserved g c =
    let site = g.V.View.site c.args.view.now in
    let i = c.loop-removal.place in
    let (low, long, noted, same, counted) = c.loop-removal.invariant in
    let (more, is, on_site, there) = least_is_next site i c.loop-removal.remaining.left low counted c.in-Some.removal c.in-Some.ensures.least in
    let removed = c.in-Some.removal in
    let at = removal_at site i removed more in (
      omega arith,
      length-set c.loop-removal.out i removed ∙ long,
      Filled-more (λ r. r) i (removals_of site) c.args.out.now c.loop-removal.out removed removed (omega (arith, removals_length site)) (omega (arith, c.requires.room)) (is ∙ sym at) refl noted,
      c.remove.ensures.view ∙ ap (λ v. v.now) c.in-Some.ensures.view ∙ same,
      counts_on site _ i c.loop-removal.remaining.left c.remove.new.self.left removed (ap g.V.View.site same) more is counted (rw (c.in-Some.ensures.left, c.in-Some.ensures.view) at c.remove.ensures.left),
    )

pub returns : goal.returns
returns g c =
    let site = g.V.View.site c.args.view.now in
    let (low, long, noted, same, counted) = c.loop-removal.invariant in
    let end = none_at_the_end site c.loop-removal.place c.loop-removal.remaining.left low counted (no_removal c.loop-removal.remaining.left c.next_removal.result c.next_removal.ensures.least c.in_default.not-Some) in
    rw (end, map-id (removals_of site)) at (Filled-all (λ r. r) c.loop-removal.place (removals_of site) c.args.out.now c.loop-removal.out (removals_length site ∙ sym end) noted)
