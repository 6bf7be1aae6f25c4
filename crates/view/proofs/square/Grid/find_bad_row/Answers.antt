use Rattle.std.proofs.Common.{sym, ◌∙◌, rules, tests, arith}
use Rattle.std.proofs.lemmas.Iterator.{YieldsList-from_range}
use Rattle.std.proofs.lemmas.Iterator.Adapters.{option_map_id}
use Rattle.std.proofs.lemmas.Iterator.Search.{find_from_yields_List}
use Rattle.view.specs.Grid.{bitmap, bad_row}
use Rattle.cores.proofs.Searches.{lowest_listed}
use Rattle.view.proofs.square.Grid.find_bad_row.Goals as goal

pub returns : goal.returns
returns c =
    let n = c.args.self.now.stations in
    rw lowest_listed
    (sym (option_map_id c.find.result)
    ∙ find_from_yields_List (bad_row (bitmap c.args.self.now)) _ _ c.find.result c.find.ensures.ran (YieldsList-from_range 0 n n (cc) (omega arith)) (λ x b q k. search (rules, tests)))
