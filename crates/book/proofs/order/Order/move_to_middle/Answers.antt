use Rattle.std.proofs.Common.{◌+◌, sym, subst, arith}
use Rattle.book.specs.Orders.{Apart, Kept, lower}
use Rattle.book.proofs.Places.{one_more, all_changed, moved_kept, moved_apart}
use Rattle.book.proofs.order.Order.move_to_middle.Goals as goal

pub loop-place-preserved : goal.loop-place-preserved
loop-place-preserved c =
    let old = c.args.self.now.places in
    rw c.count_lower.ensures (one_more (λ x. 32512 + lower old x) old c.loop-place.place-items c.loop-place.place-index (omega arith) c.loop-place.invariant)

pub invariant_of-self : goal.invariant_of-self
invariant_of-self c =
    let self = c.args.self.now in
    let all = all_changed (λ x. 32512 + lower self.places x) self.places c.loop-place.place-items c.loop-place.place-index (omega arith) c.loop-place.invariant in
    record { apart = subst (λ xs. Apart xs 32512 33024) (sym all) (moved_apart self.places self.first self.last self.apart 32512 (omega arith)) }

pub returns-clause-order : goal.returns-clause-order
returns-clause-order c =
    let self = c.args.self.now in
    let all = all_changed (λ x. 32512 + lower self.places x) self.places c.loop-place.place-items c.loop-place.place-index (omega arith) c.loop-place.invariant in
    subst (λ xs. Kept self.places xs) (sym all) (moved_kept self.places self.first self.last self.apart 32512)
