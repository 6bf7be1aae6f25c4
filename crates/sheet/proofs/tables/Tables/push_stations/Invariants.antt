use Rattle.std.proofs.Common.{◌≡◌, ◌++◌}
use Rattle.std.specs.List.{flat_map, range_with_len}
use Rattle.sheet.specs.Plans.{entry}
use Rattle.sheet.specs.Encoding.{entry_bytes}
use Rattle.sheet.specs.Parts.{plan_of_tables, bytes_written}
use Rattle.sheet.proofs.tables.Tables.push_stations.Given as goal

abbrev pub invariant-loop-s : goal.invariant-loop-s
invariant-loop-s l = bytes_written l.sheet ≡ bytes_written l.fn.sheet ++ flat_map (λ s. entry_bytes s (entry (plan_of_tables l.self) s)) (range_with_len 0 l.s)
