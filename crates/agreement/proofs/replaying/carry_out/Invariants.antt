use Rattle.book.specs.Books.{site}
use Rattle.agreement.proofs.Carried.{Carried}
use Rattle.agreement.proofs.replaying.carry_out.Given as goal

abbrev pub invariant-loop-i : goal.invariant-loop-i
invariant-loop-i l = Carried l.calls l.fn.answers l.i (site l.book) l.answers
