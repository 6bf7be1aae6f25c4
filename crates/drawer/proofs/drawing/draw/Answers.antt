use Rattle.std.proofs.Common.{length, replicate, refl, sym, ap, ◌∙◌, arith}
use Rattle.view.specs.Answers.{counted}
use Rattle.view.proofs.Admitted.{admitted, sized_within}
use Rattle.drawer.proofs.Peels.{removals_fit, peeled_front}
use Rattle.drawer.proofs.Drawn.{tables_are_put}
use Rattle.drawer.proofs.drawing.draw.Goals as goal

pub note_numbers-requires : goal.note_numbers-requires
note_numbers-requires g c =
    let site = g.V.View.site c.args.view.now in
    let few = (sized_within site.size (admitted site.size c.in_ok-admit.field-0 (sym c.in_ok-admit.was ∙ c.admit.ensures ∙ ap counted c.stations-stations.ensures))).1 in
    rw (peeled_front site c.stations-stations.result c.peel.new.out _ c.stations-stations.ensures c.peel.ensures) (removals_fit site (replicate 512 0) few few)

pub note_order-requires-clause-small : goal.note_order-requires-clause-small
note_order-requires-clause-small g c =
    let site = g.V.View.site c.args.view.now in
    let few = (sized_within site.size (admitted site.size c.in_ok-admit.field-0 (sym c.in_ok-admit.was ∙ c.admit.ensures ∙ ap counted c.stations-stations.ensures))).1 in
    rw (peeled_front site c.stations-stations.result c.peel.new.out _ c.stations-stations.ensures c.peel.ensures) (λ i d h. omega (arith, (removals_fit site (replicate 512 0) few few i d h).0))

pub returns-clause-answer : goal.returns-clause-answer
returns-clause-answer g c =
    let view = c.args.view.now in
    let put = tables_are_put (g.V.View.site view) (g.met.V.View.faithful view).lawful c.stations-stations.result (length c.args.out.now) c.peel.new.out _ c.note_numbers.new.numbers c.homes_and_ups.new.homes c.homes_and_ups.new.ups c.note_order.new.order
    (replicate 512 0) (replicate 512 0) (replicate 512 0) (replicate 512 0) (sym c.in_ok-admit.was ∙ c.admit.ensures) c.stations-stations.ensures refl refl refl c.peel.ensures c.note_numbers.ensures c.note_order.ensures c.homes_and_ups.ensures.homes c.homes_and_ups.ensures.ups in
    rw put at c.put.ensures.answer

pub returns-clause-out : goal.returns-clause-out
returns-clause-out g c =
    let view = c.args.view.now in
    let put = tables_are_put (g.V.View.site view) (g.met.V.View.faithful view).lawful c.stations-stations.result (length c.args.out.now) c.peel.new.out _ c.note_numbers.new.numbers c.homes_and_ups.new.homes c.homes_and_ups.new.ups c.note_order.new.order
    (replicate 512 0) (replicate 512 0) (replicate 512 0) (replicate 512 0) (sym c.in_ok-admit.was ∙ c.admit.ensures) c.stations-stations.ensures refl refl refl c.peel.ensures c.note_numbers.ensures c.note_order.ensures c.homes_and_ups.ensures.homes c.homes_and_ups.ensures.ups in
    rw put at c.put.ensures.out
