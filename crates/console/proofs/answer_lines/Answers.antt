use Rattle.std.proofs.Common.{◌∙◌}
use Rattle.text.specs.Cursors.{lines_left}
use Rattle.book.specs.Books.{site}
use Rattle.console.proofs.LineByLine.{lines_on, lines_done}
use Rattle.console.proofs.answer_lines.Goals as goal

pub loop-line-preserved : goal.loop-line-preserved
loop-line-preserved c =
    lines_on (lines_left c.loop-line.line-iterator) (lines_left c.next.new.self) c.in-Some.line.now (site c.loop-line.desk.book) (site c.answer_line.new.desk.book) c.in-Some.ensures.steps.cut
    c.in_ok-answer_line.ensures
    ∙ c.loop-line.invariant

pub returns : goal.returns
returns c = lines_done (lines_left c.loop-line.line-iterator) (site c.loop-line.desk.book) c.in-None.ensures.steps.done ∙ c.loop-line.invariant
