use Rattle.std.proofs.Common.{◌≡◌, length, refl, length-set, ◌∙◌, arith}
use Rattle.std.proofs.lemmas.Bool.Decides.{nat_tests}
use Rattle.view.proofs.Lower.{row_length}
use Rattle.drawer.proofs.Counted.{degree_below, filled_none, filled_more, filled_counts}
use Rattle.drawer.proofs.Sorted.{sorted_none, within_none}
use Rattle.drawer.proofs.remaining.Remaining.of.Goals as goal

pub invariant_of-remaining : goal.invariant_of-remaining
invariant_of-remaining g c = record { sorted = sorted_none _ c.none.ensures; within = within_none 512 0; few = omega arith }

pub loop-s-init : goal.loop-s-init
loop-s-init g c = (refl, refl, filled_none (λ s. length (g.V.View.row c.args.view.now s)) 512)

pub put-requires-clause-few : goal.put-requires-clause-few
put-requires-clause-few g c =
    let law = g.met.V.View.faithful c.args.view.now in
    omega (arith, c.degree.ensures, row_length _ (g.V.View.row c.args.view.now) law c.loop-s.s, degree_below _ law.lawful c.loop-s.s (omega arith))

pub put-requires-clause-gone : goal.put-requires-clause-gone
put-requires-clause-gone g c = let before = c.loop-s.invariant.2 c.loop-s.s in grind (arith, nat_tests)

pub loop-s-preserved : goal.loop-s-preserved
loop-s-preserved g c =
    let (same, long, filled) = c.loop-s.invariant in (
      rw c.put.ensures.view same,
      rw c.put.ensures.left (length-set c.loop-s.remaining.left c.loop-s.s _ ∙ long),
      rw c.put.ensures.left (filled_more (λ s. length (g.V.View.row c.args.view.now s)) c.loop-s.s c.degree.result c.loop-s.remaining.left (omega (arith, long)) c.degree.ensures filled),
    )

pub returns-clause-left : goal.returns-clause-left
returns-clause-left g c =
    let view = c.args.view.now in
    let site = g.V.View.site view in
    let end : c.loop-s.s ≡ site.size = omega arith in
    filled_counts site (λ s. length (g.V.View.row view s)) c.loop-s.remaining.left (row_length site (g.V.View.row view) (g.met.V.View.faithful view)) (rw end at c.loop-s.invariant.2)
