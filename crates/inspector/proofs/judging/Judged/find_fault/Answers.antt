use Rattle.std.proofs.Common.{◌≡◌, length, get_or, sym, ap, ◌∙◌, rules, tests, arith}
use Rattle.std.proofs.lemmas.Iterator.{YieldsList-from_range}
use Rattle.std.proofs.lemmas.Iterator.Adapters.{option_map_id}
use Rattle.std.proofs.lemmas.Iterator.Search.{find_from_yields_List}
use Rattle.cores.specs.Counting.{lowest}
use Rattle.cores.specs.Orders.{at_fault}
use Rattle.cores.proofs.Searches.{lowest_listed}
use Rattle.inspector.proofs.judging.Judged.find_fault.Goals as goal

pub returns : goal.returns
returns g c =
    let judged = c.args.self.now in
    let n = length judged.numbers.now in
    let fault = at_fault (g.V.View.site judged.view.now) (λ t. get_or judged.numbers.now t 0) judged.order.now in
    let found : c.find.result ≡ lowest n fault =
    rw lowest_listed
    (sym (option_map_id c.find.result)
    ∙ find_from_yields_List fault _ _ c.find.result c.find.ensures.ran
    (YieldsList-from_range 0 n n (cc) (omega arith)) (λ x b q k. search (rules, tests))) in
    found ∙ ap (λ k. lowest k fault) judged.fit.numbered
