use Rattle.std.proofs.Common.{◌≡◌, ◌-◌, take}
use Rattle.sheet.specs.Decoding.{entries_at}
use Rattle.sheet.proofs.Runs.{with_front}
use Rattle.sheet.proofs.lists.entries.Given as goal

abbrev pub invariant-loop-s : goal.invariant-loop-s
invariant-loop-s l = with_front (take l.s l.table) (entries_at l.count (l.count - l.s) l.s l.rest) ≡ entries_at l.count l.count 0 l.bytes
