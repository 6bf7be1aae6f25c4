use Rattle.std.proofs.Common.{◌≡◌, true, take, get_or, refl, sym, ap, ◌∙◌, arith}
use Rattle.std.proofs.lemmas.List.{take_all}
use Rattle.cores.specs.Counting.{holds}
use Rattle.cores.proofs.Entries.{times_at, times_holds}
use Rattle.book.specs.Queues.{noted}
use Rattle.book.specs.Orders.{LastFirst}
use Rattle.book.specs.Tables.{places}
use Rattle.book.proofs.Places.{none_forward, more_forward, same_forward}
use Rattle.book.proofs.table.Table.bring_forward.Goals as goal

pub loop-s-init : goal.loop-s-init
loop-s-init c = (refl, refl, none_forward (places c.args.self.now))

pub put_first-requires : goal.put_first-requires
put_first-requires c =
    let xs = c.noted-s-items.result.now in
    let s = get_or xs c.loop-s.s-index 0 in
    let listed : holds xs s ≡ true = times_holds xs s (times_at s xs c.loop-s.s-index c.loop-s-test.true refl) in
    rw c.from.ensures (c.requires s (sym (c.sort_last_first.ensures.same s) ∙ ap (λ ys. holds ys s) (sym c.noted-s-items.ensures) ∙ listed))

pub loop-s-preserved : goal.loop-s-preserved
loop-s-preserved c =
    let (same, numbers, forward) = c.loop-s.invariant in
    let xs = c.noted-s-items.result.now in
    let p = places c.args.self.now in
    let s = get_or xs c.loop-s.s-index 0 in
    let order : LastFirst p xs = rw c.noted-s-items.ensures c.sort_last_first.ensures.last_first in (
      same,
      numbers,
      more_forward p xs c.loop-s.s-index c.loop-s-test.true order (places c.loop-s.self) c.put_first.new.self.places (rw c.from.ensures at c.put_first.ensures) forward,
    )

pub returns-clause-order : goal.returns-clause-order
returns-clause-order c =
    let xs = c.noted-s-items.result.now in
    let all = take_all c.loop-s.s-index xs (omega arith) in
    same_forward (places c.args.self.now) (holds (take c.loop-s.s-index xs)) (holds (noted c.args.stations.now)) (places c.loop-s.self)
    (λ t. ap (λ ys. holds ys t) (all ∙ c.noted-s-items.ensures) ∙ c.sort_last_first.ensures.same t)
    c.loop-s.invariant.2
