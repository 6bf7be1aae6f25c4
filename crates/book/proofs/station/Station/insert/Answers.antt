use Rattle.std.proofs.Common.{nat_lt, length, rules, tests, ap, ◌∙◌}
use Rattle.std.specs.Option.{unwrap_or}
use Rattle.std.proofs.lemmas.Iterator.{YieldsList-from_slice}
use Rattle.std.proofs.lemmas.Iterator.Search.{position_from_yields_List}
use Rattle.book.specs.Stations.{entries}
use Rattle.book.proofs.Rows.{put_in, first_or_end}
use Rattle.book.proofs.station.Station.insert.Goals as goal

pub returns-clause-row : goal.returns-clause-row
returns-clause-row c =
    let old = c.args.self.now in
    let t = c.args.neighbour in
    let row = entries old in
    let found = position_from_yields_List (nat_lt t) _ _ c.position.result c.position.ensures.ran (YieldsList-from_slice row (cc)) (λ x b q k. search (rules, tests)) in
    let first = c.unwrap_or-place.ensures ∙ ap (λ xs. unwrap_or c.position.result (length xs)) c.row-len.ensures ∙ first_or_end (nat_lt t) row _ found in
    let (copied, same, behind) = c.copy_within.ensures.by_index in
    rw c.row-len.ensures (put_in t old.row old.len c.copy_within.new.self c.unwrap_or-place.result (search rules) first c.copy_within.ensures.len (rw c.row-len.ensures at copied) same)
