use Rattle.std.proofs.Common.{◌-◌, arith}
use Rattle.book.proofs.Places.{first_put, first_apart, kept_then}
use Rattle.book.proofs.order.Order.put_first.Goals as goal

pub invariant_of-self : goal.invariant_of-self
invariant_of-self c =
    let now = c.make_room.new.self in
    record { apart = first_apart now.places c.args.s (now.first - 1) now.apart.all c.requires now.first now.last now.apart (omega (arith, c.make_room.ensures.ahead)) (omega (arith, (now.apart.within 0 (omega arith)).0, (now.apart.within 0 (omega arith)).1)) }

pub returns : goal.returns
returns c =
    let now = c.make_room.new.self in
    let put = first_put now.places c.args.s (now.first - 1) now.apart.all c.requires now.first now.last now.apart (omega (arith, c.make_room.ensures.ahead)) in
    (kept_then _ _ _ c.args.s c.make_room.ensures.order put.0, put.1)
