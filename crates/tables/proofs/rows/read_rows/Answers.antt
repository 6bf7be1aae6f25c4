use Rattle.std.proofs.Common.{◌≡◌, ◌+◌, ◌∷◌, Err, sym, ap, ◌∙◌, arith}
use Rattle.std.specs.Iterator.Adapters.{enumerate_source, enumerate_count}
use Rattle.text.specs.Cursors.{lines_left}
use Rattle.text.specs.Texts.{lines}
use Rattle.tables.specs.Listings.{rows_of, listed}
use Rattle.tables.specs.Answered.{listing_of, with_rows}
use Rattle.tables.proofs.RowSteps.{rows_on, rows_off, rows_done, meant_by, passed_on}
use Rattle.tables.proofs.rows.read_rows.Goals as goal

pub loop-i-preserved : goal.loop-i-preserved
loop-i-preserved c =
    let next = c.in-Some.ensures.steps in
    let line = c.in_ok-add_row.ensures in
    let on = rows_on (listing_of c.loop-i.table) (c.in-Some.i + 1) c.in-Some.line.now (lines_left (enumerate_source c.next.new.self)) (listing_of c.add_row.new.self) line.row in
    (cc (next.0.cut, next.1, next.2, c.loop-i.invariant.0), omega (arith, line.few, next.0.shared, c.loop-i.invariant.1))

pub returns-in_err-add_row : goal.returns-in_err-add_row
returns-in_err-add_row c =
    let had = listing_of c.loop-i.table in
    let n = c.in-Some.i + 1 in
    let next = c.in-Some.ensures.steps in
    let left = lines_left (enumerate_source c.next.new.self) in
    let e = c.in_err-add_row.field-0.0 in
    let exit = c.from_residual-in_err-add_row in
    let whole : listed (rows_of 1 (lines c.args.text.now)) ≡ with_rows had (rows_of n (c.in-Some.line.now ∷ left)) = cc (next.0.cut, next.1, c.loop-i.invariant.0) in
    passed_on _ listing_of exit.result e exit.ensures.1 (meant_by (Err e) whole (rows_off had n _ _ e c.in_err-add_row.ensures.row))

pub returns : goal.returns
returns c =
    let had = listing_of c.loop-i.table in
    let n = enumerate_count c.loop-i.i-iterator + 1 in
    sym c.loop-i.invariant.0 ∙ ap (λ ls. with_rows had (rows_of n ls)) c.in-None.ensures.steps.0.done ∙ rows_done had n
