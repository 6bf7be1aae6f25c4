use Rattle.std.proofs.Common.{◌≡◌}
use Rattle.text.specs.Cursors.{lines_left}
use Rattle.text.specs.Texts.{lines}
use Rattle.cores.specs.Site.{no_stations}
use Rattle.book.specs.Books.{site}
use Rattle.console.specs.Calls.{site_after_lines}
use Rattle.console.proofs.answer_lines.Given as goal

-- the lines that are left lead to what all lines lead to
abbrev pub invariant-loop-line : goal.invariant-loop-line
invariant-loop-line l = site_after_lines (lines_left l.line-iterator) (site l.desk.book) ≡ site_after_lines (lines l.text) no_stations
