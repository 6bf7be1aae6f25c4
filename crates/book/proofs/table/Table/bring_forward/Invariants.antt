use Rattle.std.proofs.Common.{◌≡◌, take}
use Rattle.cores.specs.Counting.{holds}
use Rattle.book.specs.Orders.{Forward}
use Rattle.book.specs.Tables.{links, numbers, places}
use Rattle.book.proofs.table.Table.bring_forward.Given as goal

abbrev pub invariant-loop-s : goal.invariant-loop-s
invariant-loop-s l =
    (links l.self ≡ links l.fn.self)
    × (numbers l.self ≡ numbers l.fn.self)
    × Forward (holds (take l.s-index l.s-items)) (places l.fn.self) (places l.self)
