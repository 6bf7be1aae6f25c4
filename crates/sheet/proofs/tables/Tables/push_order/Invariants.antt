use Rattle.std.proofs.Common.{◌≡◌, ◌++◌, take}
use Rattle.std.specs.List.{flat_map}
use Rattle.sheet.specs.Encoding.{field}
use Rattle.sheet.specs.Parts.{bytes_written}
use Rattle.sheet.proofs.tables.Tables.push_order.Given as goal

abbrev pub invariant-loop-station : goal.invariant-loop-station
invariant-loop-station l = bytes_written l.sheet ≡ bytes_written l.fn.sheet ++ flat_map field (take l.station-index l.self.order.now)
