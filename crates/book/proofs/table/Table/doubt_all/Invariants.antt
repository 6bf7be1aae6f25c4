use Rattle.std.proofs.Common.{◌≡◌, ℕ, drop}
use Rattle.cores.specs.Counting.{holds}
use Rattle.book.specs.Queues.{noted}
use Rattle.book.specs.Tables.{links, numbers, places}
use Rattle.book.specs.Updates.{falls, in_row, Lowering, Watched}
use Rattle.book.proofs.table.Table.doubt_all.Given as goal

abbrev pub invariant-loop-s : goal.invariant-loop-s
invariant-loop-s l =
    let on = links l.fn.self in
    (links l.self ≡ on)
    × Lowering on l.level (numbers l.self) (places l.self) (noted l.fallen)
    × ((v : ℕ) → Watched (in_row on) (falls on (numbers l.fn.self) l.level) (holds l.stations) (noted l.fn.fallen) v
    → Watched (in_row on) (falls on (numbers l.self) l.level) (holds (drop l.s-index l.stations)) (noted l.fallen) v)
