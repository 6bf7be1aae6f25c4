use Rattle.std.proofs.Common.{arith}
use Rattle.book.proofs.LaidOut.{laid_out_current, laid_out_site}
use Rattle.book.proofs.book.Book.new.Goals as goal

pub invariant_of-result : goal.invariant_of-result
invariant_of-result c = record { current = laid_out_current 0 c.laid_out.result (omega arith) c.laid_out.ensures.links c.laid_out.ensures.numbers }

pub returns : goal.returns
returns c = laid_out_site 0 c.laid_out.result c.laid_out.ensures.links
