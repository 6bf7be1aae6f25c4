use Rattle.std.proofs.Common.{◌&&◌, eqb, length, get_or, sym, ◌∙◌, rules, tests, arith}
use Rattle.std.proofs.lemmas.Iterator.{YieldsList-from_range}
use Rattle.std.proofs.lemmas.Iterator.Adapters.{option_map_id}
use Rattle.std.proofs.lemmas.Iterator.Search.{find_from_yields_List}
use Rattle.cores.proofs.Searches.{lowest_listed}
use Rattle.view.specs.Components.{together}
use Rattle.view.proofs.forest.numbered.Numbered.lowest.Goals as goal

pub returns-clause-lowest : goal.returns-clause-lowest
returns-clause-lowest g c =
    let numbers = c.args.self.now.numbers.now in
    let n = length numbers in
    let labels = c.args.components.now.labels in
    rw lowest_listed
    (sym (option_map_id c.find.result)
    ∙ find_from_yields_List (λ t. eqb (get_or numbers t 0) c.args.number && together labels c.args.s t) _ _ c.find.result c.find.ensures.ran
    (YieldsList-from_range 0 n n (cc) (omega arith)) (λ x b q k. search (rules, tests)))
