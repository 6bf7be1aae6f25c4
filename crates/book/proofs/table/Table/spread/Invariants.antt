use Rattle.std.proofs.Common.{◌≡◌, ◌-◌, false}
use Rattle.book.specs.Queues.{noted}
use Rattle.book.specs.Tables.{links, numbers, places}
use Rattle.book.specs.Updates.{rises, in_row_behind, Raising, Raised, Watched}
use Rattle.book.proofs.table.Table.spread.Given as goal

abbrev pub invariant-loop-s : goal.invariant-loop-s
invariant-loop-s l =
    let on = links l.fn.self in
    let p = places l.fn.self in
    (links l.self ≡ on)
    × (places l.self ≡ p)
    × Raising on l.level (numbers l.self) (noted l.lifted)
    × Raised l.level (numbers l.fn.self) (numbers l.self) (noted l.lifted)
    × Watched (in_row_behind on p) (rises on (numbers l.self) p l.level) (λ t. false) (noted l.lifted) l.visited

abbrev pub decreases-loop-s : goal.decreases-loop-s
decreases-loop-s l = 512 - l.visited
