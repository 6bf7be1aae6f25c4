use Rattle.std.proofs.Common.{rules, arith}
use Rattle.book.proofs.Places.{own_places}
use Rattle.book.proofs.order.Order.new.Goals as goal

pub invariant_of-result : goal.invariant_of-result
invariant_of-result c = record { apart = own_places _ 32512 c.from_fn.ensures.items.long (omega arith) (λ s h. let (p, q, called) = c.from_fn.ensures.items.at s 0 h in search rules) }
