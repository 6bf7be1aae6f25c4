use Rattle.std.proofs.Common.{rules, tests, sym, ◌∙◌}
use Rattle.std.proofs.lemmas.Iterator.Adapters.{option_map_id}
use Rattle.std.proofs.lemmas.Iterator.Consumers.{nth_from_yields_List, YieldsList-from_filter, YieldsList-from_first, YieldsList-at}
use Rattle.view.specs.Service.{is_marked}
use Rattle.view.specs.Struck.{shows_link}
use Rattle.view.proofs.struck.StruckView.neighbour.Goals as goal

pub returns : goal.returns
returns g c =
    sym (option_map_id c.nth.result)
    ∙ nth_from_yields_List c.nth.result c.nth.new.self c.args.place c.nth.ensures.ran
    (YieldsList-from_filter _ (shows_link (is_marked c.args.self.now.list) c.args.s) (YieldsList-at c.filter.ensures.source (YieldsList-from_first (λ t. t) (λ rest. rest) _ c.neighbours.ensures)) c.filter.ensures.closure
    (λ x b q k. search (rules, tests)))
