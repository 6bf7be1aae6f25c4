use Rattle.std.proofs.Common.{sym, ◌∙◌, arith}
use Rattle.cores.proofs.Searches.{lowest_none, lowest_more, lowest_found}
use Rattle.view.specs.Listing.{lists, stations, bad_row}
use Rattle.view.proofs.listed.Listing.find_bad_row.Goals as goal

pub loop-s-init : goal.loop-s-init
loop-s-init c = lowest_none (bad_row (lists c.args.self.now))

pub loop-s-preserved : goal.loop-s-preserved
loop-s-preserved c =
    lowest_more c.loop-s.s (bad_row (lists c.args.self.now)) c.loop-s.invariant (sym c.row_is_bad.ensures ∙ c.if-row_is_bad.false)

pub returns-then-row_is_bad : goal.returns-then-row_is_bad
returns-then-row_is_bad c =
    let ls = lists c.args.self.now in
    sym (lowest_found (stations ls) (bad_row ls) c.loop-s.s (omega arith) c.loop-s.invariant (sym c.row_is_bad.ensures ∙ c.if-row_is_bad.true))
