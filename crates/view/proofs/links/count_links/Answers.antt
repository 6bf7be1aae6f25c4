use Rattle.std.proofs.Common.{◌≡◌, ℕ, rules, tests, sym, ap, ◌∙◌, arith}
use Rattle.std.proofs.lemmas.Grind.{common_steps}
use Rattle.std.proofs.lemmas.Iterator.{YieldsList-from_map, YieldsList-from_range}
use Rattle.std.proofs.lemmas.Iterator.Consumers.{sum_from_yields_List, fits_from_yields_list, YieldsList-at}
use Rattle.cores.specs.Counting.{count}
use Rattle.cores.specs.Site.{link_count}
use Rattle.cores.proofs.Sums.{total_listed}
use Rattle.view.specs.Answers.{counted}
use Rattle.view.proofs.Admitted.{admitted, sized_within}
use Rattle.view.proofs.Lower.{few_lower}
use Rattle.view.proofs.links.count_links.Goals as goal

pub sum-requires-clause-fits : goal.sum-requires-clause-fits
sum-requires-clause-fits g c =
    let site = g.V.View.site c.args.view.now in
    let n = site.size in
    let small = admitted n c.in_ok-admit.field-0 (sym c.in_ok-admit.was ∙ c.admit.ensures ∙ ap counted c.stations-stations.ensures) in
    fits_from_yields_list _ _
    (YieldsList-from_map _ (λ s. count s (site.linked s)) (YieldsList-at c.map.ensures.source (YieldsList-from_range 0 n n (cc) (omega arith))) c.map.ensures.closure
    (λ x r q k. search (rules, tests)))
    (few_lower site n (sized_within n small).1)

pub returns : goal.returns
returns g c =
    let site = g.V.View.site c.args.view.now in
    let n = site.size in
    let lower : ℕ → ℕ = λ s. count s (site.linked s) in
    let small = admitted n c.in_ok-admit.field-0 (sym c.in_ok-admit.was ∙ c.admit.ensures ∙ ap counted c.stations-stations.ensures) in
    let links : c.sum.result ≡ link_count site =
    sum_from_yields_List _ _ c.sum.ensures.ran
    (YieldsList-from_map _ lower (YieldsList-at c.map.ensures.source (YieldsList-from_range 0 n n (cc) (omega arith))) c.map.ensures.closure
    (λ x r q k. search (rules, tests)))
    ∙ sym (total_listed n lower) in
    grind (arith, common_steps)
