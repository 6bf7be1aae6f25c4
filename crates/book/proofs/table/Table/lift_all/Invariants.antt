use Rattle.std.proofs.Common.{◌≡◌, ℕ, List, drop}
use Rattle.book.specs.Queues.{noted}
use Rattle.book.specs.Tables.{links, numbers, places}
use Rattle.book.specs.Updates.{rises, in_row_behind, at_or_behind, Raising, Raised, Watched}
use Rattle.book.proofs.table.Table.lift_all.Given as goal

abbrev pub invariant-loop-s : goal.invariant-loop-s
invariant-loop-s l =
    let on = links l.fn.self in
    let p = places l.fn.self in
    (links l.self ≡ on)
    × (places l.self ≡ p)
    × Raising on l.level (numbers l.self) (noted l.lifted)
    × ((before : List ℕ) → Raised l.level before (numbers l.fn.self) (noted l.fn.lifted) → Raised l.level before (numbers l.self) (noted l.lifted))
    × ((v : ℕ) → Watched (in_row_behind on p) (rises on (numbers l.fn.self) p l.level) (at_or_behind p l.place l.stations) (noted l.fn.lifted) v
    → Watched (in_row_behind on p) (rises on (numbers l.self) p l.level) (at_or_behind p l.place (drop l.s-index l.stations)) (noted l.lifted) v)
