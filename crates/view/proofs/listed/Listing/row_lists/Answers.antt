use Rattle.std.proofs.Common.{rules, tests, eqb}
use Rattle.std.proofs.lemmas.Iterator.{YieldsList-from_slice}
use Rattle.std.proofs.lemmas.Iterator.Search.{any_from_yields_List}
use Rattle.cores.proofs.Entries.{holds_listed}
use Rattle.view.specs.Listing.{lists, row}
use Rattle.view.proofs.listed.Listing.row_lists.Goals as goal

pub returns : goal.returns
returns c =
    rw holds_listed
    (any_from_yields_List (λ x. eqb x c.args.t) _ _ _ c.any.ensures.ran (YieldsList-from_slice (row (lists c.args.self.now) c.args.s) (cc)) (λ x b q k. search (rules, tests)))
