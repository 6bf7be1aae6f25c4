use Rattle.std.proofs.Common.{◌≡◌, ◌-◌, ◌*◌, length, find}
use Rattle.std.specs.List.{range_with_len}
use Rattle.view.specs.Bits.{one_at}
use Rattle.view.proofs.square.bits.find_one.Given as goal

-- none was found so far
abbrev pub invariant-loop-bit : goal.invariant-loop-bit
invariant-loop-bit l = find (one_at l.row) (range_with_len l.bit (8 * length l.row - l.bit)) ≡ find (one_at l.row) (range_with_len l.from (8 * length l.row - l.from))

abbrev pub decreases-loop-bit : goal.decreases-loop-bit
decreases-loop-bit l = 8 * length l.row - l.bit
