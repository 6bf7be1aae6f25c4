use Rattle.std.proofs.Common.{◌≡◌, ◌<◌, max, length, get_or, length-set, refl, ap, ◌∙◌, arith}
use Rattle.cores.specs.Drawing.{left_at}
use Rattle.drawer.specs.declared.removal.Removal.{Removal}
use Rattle.drawer.proofs.Peels.{removals_length, removal_at}
use Rattle.drawer.proofs.Peaks.{numbered_none, numbered_more, numbered_all}
use Rattle.drawer.proofs.numbering.note_numbers.Goals as goal

pub loop-removal-init : goal.loop-removal-init
loop-removal-init c = (omega arith, refl, λ g is. numbered_none g c.args.numbers.now)

pub loop-removal-preserved : goal.loop-removal-preserved
unfolding left_at
loop-removal-preserved c =
    let (low, long, numbered) = c.loop-removal.invariant in
    let i = c.loop-removal.removal-index in
    let blank : Removal = record { left = 0; station = 0 } in
    let r = get_or c.args.removals.now i blank in
    let (within, small) = c.requires i blank c.loop-removal-test.true in (
      omega (arith, small, c.max-most.ensures),
      length-set c.loop-removal.numbers r.station _ ∙ long,
      λ g is.
          let more : i < g.size = omega (arith, ap length is, removals_length g, c.loop-removal-test.true) in
          let at = ap (λ rs. get_or rs i blank) is ∙ removal_at g i blank more in
          numbered_more g i c.loop-removal.most r.station c.max-most.result c.args.numbers.now c.loop-removal.numbers more (ap (λ x. x.station) at) (c.max-most.ensures ∙ ap (λ x. max x.left c.loop-removal.most) at) (omega arith) (numbered g is),
    )

pub returns : goal.returns
returns c g is room =
    let (low, long, numbered) = c.loop-removal.invariant in
    let end : c.loop-removal.removal-index ≡ g.size = omega (arith, ap length is, removals_length g) in
    numbered_all g c.loop-removal.most c.args.numbers.now c.loop-removal.numbers room (rw end at (numbered g is))
