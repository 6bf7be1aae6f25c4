use Rattle.std.proofs.Common.{length-set, ◌∙◌, rules, arith}
use Rattle.inspector.proofs.Places.{station_on_site, noted_more}
use Rattle.inspector.proofs.judging.Judged.new.Goals as goal

pub bounds-places-from : goal.bounds-places-from
bounds-places-from g c = omega (arith, station_on_site _ _ c.args.order.now c.requires c.loop-place.place c.loop-place-test.true, c.requires.few)

pub loop-place-preserved : goal.loop-place-preserved
loop-place-preserved g c =
    let (long, noted) = c.loop-place.invariant in (
      length-set c.loop-place.places _ _ ∙ long,
      noted_more _ _ c.args.order.now c.requires c.loop-place.places c.loop-place.place c.loop-place-test.true (omega (arith, c.requires.few)) noted c.from.result (search rules),
    )
