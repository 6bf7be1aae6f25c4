use Rattle.std.proofs.Common.{◌+◌, get_or, sym, ◌∙◌, arith}
use Rattle.view.specs.Listing.{lists}
use Rattle.view.proofs.Listings.{row_in, row_out}
use Rattle.view.proofs.Rows.{part_or_none}
use Rattle.view.proofs.listed.Listing.row.Goals as goal

pub returns-then-s-stations : goal.returns-then-s-stations
returns-then-s-stations c = sym (row_out (lists c.args.self.now) c.args.s (omega arith))

pub returns : goal.returns
returns c =
    let ls = lists c.args.self.now in
    let s = c.args.s in
    part_or_none ls.ends (get_or ls.starts s 0) (get_or ls.starts (s + 1) 0) c.get.result c.unwrap_or_default.result (rw (← c.min-to.ensures) c.get.ensures.lookup) c.unwrap_or_default.ensures
    ∙ sym (row_in ls s (omega arith))
