use Rattle.std.specs.List.{range_with_len}
use Rattle.cores.specs.Numbers.{number}
use Rattle.sheet.proofs.Runs.{Filled}
use Rattle.book.specs.Books.{site}
use Rattle.planner_c.proofs.linking.note_numbers.Given as goal

abbrev pub invariant-loop-s : goal.invariant-loop-s
invariant-loop-s l = let g = site l.book in Filled (number g) l.s (range_with_len 0 g.size) l.fn.numbers l.numbers
