use Rattle.std.proofs.Common.{◌≡◌, ◌+◌, ◌++◌, map, take, drop}
use Rattle.book.specs.Orders.{lower}
use Rattle.book.proofs.order.Order.move_to_middle.Given as goal

abbrev pub invariant-loop-place : goal.invariant-loop-place
invariant-loop-place l =
    let old = l.fn.self.places in
    l.place-items ≡ map (λ x. 32512 + lower old x) (take l.place-index old) ++ drop l.place-index old
