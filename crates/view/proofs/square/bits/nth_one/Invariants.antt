use Rattle.std.proofs.Common.{◌≡◌, ◌*◌, drop}
use Rattle.std.specs.List.{slice_get}
use Rattle.view.specs.Bits.{ones_from}
use Rattle.view.proofs.square.bits.nth_one.Given as goal

-- what is left of the place is a place among the bytes that are left
abbrev pub invariant-loop-index : goal.invariant-loop-index
invariant-loop-index l = slice_get (ones_from (8 * l.index) (drop l.index l.row)) l.left ≡ slice_get (ones_from 0 l.row) l.place
