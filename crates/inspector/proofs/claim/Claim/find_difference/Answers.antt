use Rattle.std.proofs.Common.{◌&&◌, eqb, not, get_or, sym, ◌∙◌, rules, tests, arith}
use Rattle.std.proofs.lemmas.Iterator.{YieldsList-from_range}
use Rattle.std.proofs.lemmas.Iterator.Adapters.{option_map_id}
use Rattle.std.proofs.lemmas.Iterator.Search.{find_from_yields_List}
use Rattle.cores.proofs.Searches.{lowest_listed}
use Rattle.inspector.proofs.claim.Claim.find_difference.Goals as goal

pub returns : goal.returns
returns c =
    let claim = c.args.self.now in
    let n = claim.stations in
    rw lowest_listed
    (sym (option_map_id c.find.result)
    ∙ find_from_yields_List (λ s. not (eqb (get_or claim.homes s 0) (get_or c.args.homes.now s 0) && eqb (get_or claim.ups s 0) (get_or c.args.ups.now s 0))) _ _ c.find.result c.find.ensures.ran
    (YieldsList-from_range 0 n n (cc) (omega arith)) (λ x b q k. search (rules, tests)))
