use Rattle.std.proofs.Common.{◌≡◌, ◌-◌, false}
use Rattle.book.specs.Queues.{noted}
use Rattle.book.specs.Tables.{links, numbers, places}
use Rattle.book.specs.Updates.{falls, in_row, Lowering, Watched}
use Rattle.book.proofs.table.Table.settle.Given as goal

abbrev pub invariant-loop-s : goal.invariant-loop-s
invariant-loop-s l =
    let on = links l.fn.self in
    (links l.self ≡ on)
    × Lowering on l.level (numbers l.self) (places l.self) (noted l.fallen)
    × Watched (in_row on) (falls on (numbers l.self) l.level) (λ t. false) (noted l.fallen) l.visited

abbrev pub decreases-loop-s : goal.decreases-loop-s
decreases-loop-s l = 512 - l.visited
