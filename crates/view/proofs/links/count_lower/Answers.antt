use Rattle.std.proofs.Common.{ltb, rules, tests, ◌∙◌}
use Rattle.std.proofs.lemmas.Iterator.Consumers.{count_from_yields_List, YieldsList-from_filter, YieldsList-from_first, YieldsList-at}
use Rattle.view.proofs.Lower.{lower_entries}
use Rattle.view.proofs.links.count_lower.Goals as goal

pub returns : goal.returns
returns g c =
    let view = c.args.view.now in
    count_from_yields_List _ _ c.count.ensures.ran
    (YieldsList-from_filter _ (λ t. ltb t c.args.s) (YieldsList-at c.filter.ensures.source (YieldsList-from_first (λ t. t) (λ rest. rest) _ c.neighbours.ensures)) c.filter.ensures.closure
    (λ x b q k. search (rules, tests)))
    ∙ lower_entries (g.V.View.site view) (g.V.View.row view) (g.met.V.View.faithful view) c.args.s
