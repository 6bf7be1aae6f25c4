use Rattle.std.proofs.Common.{◌≡◌, ◌+◌, Ok, Err, sym, ap, ◌∙◌}
use Rattle.std.proofs.lemmas.Result.{err_from_is_err_and}
use Rattle.std.specs.Iterator.Adapters.{enumerate_source, enumerate_count}
use Rattle.text.specs.Cursors.{lines_left}
use Rattle.text.specs.Texts.{tokens_of}
use Rattle.book.specs.Books.{site}
use Rattle.survey.specs.Surveys.{line_read, lines_read}
use Rattle.survey.specs.Reached.{reached}
use Rattle.survey.proofs.Surveyed.{lines_on, lines_off, lines_none}
use Rattle.survey.proofs.read.read_lines.Goals as goal

pub loop-i-preserved : goal.loop-i-preserved
loop-i-preserved c =
    let next = c.in-Some.ensures.steps in
    let n = enumerate_count c.loop-i.i-iterator + 1 in
    let g = site c.loop-i.book in
    let h = site c.read.new.book in
    let left = lines_left (enumerate_source c.next.new.self) in
    let read : line_read n g (tokens_of c.in-Some.bytes.now) ≡ Ok h =
    ap (λ i. line_read (i + 1) g (tokens_of c.in-Some.bytes.now)) (sym next.1) ∙ sym c.read.ensures ∙ ap (λ r. reached r h) c.in_ok-read.was in
    ap (λ k. lines_read (k + 1) h left) next.2 ∙ sym (lines_on n g next.0.cut h read) ∙ c.loop-i.invariant

pub returns-in_err-read : goal.returns-in_err-read
returns-in_err-read c =
    let next = c.in-Some.ensures.steps in
    let n = enumerate_count c.loop-i.i-iterator + 1 in
    let g = site c.loop-i.book in
    let fault = c.in_err-read.field-0.0 in
    let read : line_read n g (tokens_of c.in-Some.bytes.now) ≡ Err fault =
    ap (λ i. line_read (i + 1) g (tokens_of c.in-Some.bytes.now)) (sym next.1) ∙ sym c.read.ensures ∙ ap (λ r. reached r (site c.read.new.book)) c.in_err-read.was in
    let e = err_from_is_err_and c.from_residual.result c.from_residual.ensures.1 in
    ap (λ r. reached r (site c.read.new.book)) e.1 ∙ ap Err e.2 ∙ sym (lines_off n g next.0.cut fault read) ∙ c.loop-i.invariant

pub returns : goal.returns
returns c =
    let g = site c.loop-i.book in
    sym (lines_none (enumerate_count c.loop-i.i-iterator + 1) g c.in-None.ensures.steps.0.done) ∙ c.loop-i.invariant
