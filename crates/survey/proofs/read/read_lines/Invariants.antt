use Rattle.std.proofs.Common.{◌≡◌, ◌+◌}
use Rattle.std.specs.Iterator.Adapters.{enumerate_source, enumerate_count}
use Rattle.text.specs.Cursors.{lines_left}
use Rattle.text.specs.Texts.{lines}
use Rattle.book.specs.Books.{site}
use Rattle.survey.specs.Surveys.{lines_read}
use Rattle.survey.proofs.read.read_lines.Given as goal

-- What the lines that are left do to the book is what is left to do.
abbrev pub invariant-loop-i : goal.invariant-loop-i
invariant-loop-i l =
    lines_read (enumerate_count l.i-iterator + 1) (site l.book) (lines_left (enumerate_source l.i-iterator)) ≡ lines_read 1 (site l.initial.book) (lines l.text)
