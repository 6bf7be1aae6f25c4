use Rattle.std.proofs.Common.{nat_eq, rules, tests, sym, ◌∙◌}
use Rattle.std.proofs.lemmas.Iterator.{YieldsList-from_slice}
use Rattle.std.proofs.lemmas.Iterator.Search.{position_from_yields_List}
use Rattle.book.specs.Stations.{entries}
use Rattle.book.proofs.Rows.{taken_out, not_there}
use Rattle.book.proofs.station.Station.remove.Goals as goal

pub returns-in-Some-clause-row : goal.returns-in-Some-clause-row
returns-in-Some-clause-row c =
    let old = c.args.self.now in
    let t = c.args.neighbour in
    let found = position_from_yields_List (nat_eq t) _ _ c.position.result c.position.ensures.ran (YieldsList-from_slice (entries old) (cc)) (λ x b q k. search (rules, tests)) in
    let (copied, same, behind) = c.copy_within.ensures.by_index in
    rw c.row-len.ensures (taken_out t old.row old.len c.copy_within.new.self c.in-Some.place (sym c.in-Some.is ∙ found) c.copy_within.ensures.len (rw c.row-len.ensures at copied) same)

pub returns-in_default-clause-row : goal.returns-in_default-clause-row
returns-in_default-clause-row c =
    let old = c.args.self.now in
    let t = c.args.neighbour in
    let found = position_from_yields_List (nat_eq t) _ _ c.position.result c.position.ensures.ran (YieldsList-from_slice (entries old) (cc)) (λ x b q k. search (rules, tests)) in
    not_there t old.row old.len (search rules)
