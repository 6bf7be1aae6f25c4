use Rattle.std.proofs.Common.{length-set, get_or, refl, ◌∙◌, arith}
use Rattle.std.proofs.lemmas.List.{get_or_default}
use Rattle.drawer.specs.declared.removal.Removal.{Removal}
use Rattle.sheet.proofs.Runs.{Filled-more}
use Rattle.drawer.proofs.ordering.note_order.Goals as goal

pub loop-place-preserved : goal.loop-place-preserved
loop-place-preserved c =
    let (long, filled) = c.loop-place.invariant in
    let i = c.loop-place.place in
    let removals = c.args.removals.now in
    let r : Removal = get_or removals i (record { station = 0; left = 0 }) in (
      length-set c.loop-place.order i _ ∙ long,
      Filled-more (λ r. r.station) i removals c.args.order.now c.loop-place.order r r.station c.loop-place-test.true (omega (arith, c.requires.room)) (get_or_default removals i _ r c.loop-place-test.true) refl filled,
    )
