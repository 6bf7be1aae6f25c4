use Rattle.std.proofs.Common.{◌≡◌, ◌-◌, take, ltb}
use Rattle.sheet.specs.Decoding.{order_at}
use Rattle.sheet.specs.Parts.{unnamed}
use Rattle.sheet.proofs.Runs.{with_front}
use Rattle.sheet.proofs.lists.order.Given as goal

abbrev pub invariant-loop-slot : goal.invariant-loop-slot
invariant-loop-slot l = with_front (take l.slot-index l.slot-items) (order_at (unnamed l.roll) (l.count - l.slot-index) l.rest) ≡ order_at (λ t. ltb t l.count) l.count l.bytes
