use Rattle.std.proofs.Common.{◌≡◌, Ok, sym, ap, ◌∙◌, take, replicate, rules, tests}
use Rattle.std.proofs.lemmas.Iterator.{YieldsList-from_slice}
use Rattle.std.proofs.lemmas.Iterator.Consumers.{YieldsList-from_filter_map, YieldsList-from_enumerate, YieldsList-at}
use Rattle.std.specs.Option.{option_map_or}
use Rattle.rules.specs.Levels.{levels}
use Rattle.rules.proofs.Tabled.{counted_out, written_out, levels_few}
use Rattle.rules.proofs.Bests.{best_by_call, map_or_is}
use Rattle.rules.proofs.Chosen.{scored, folded_is}
use Rattle.rules.proofs.levels.choose.Goals as goal

pub returns-in_err-levels : goal.returns-in_err-levels
returns-in_err-levels g c =
    let view = c.args.view.now in
    let site = g.V.View.site view in
    let (large, is) = counted_out site (levels site) (levels_few site (g.met.V.View.faithful view).lawful) c.in_err-levels.field-0.0 c.in_err-levels.ensures.answer in
    rw (large, sym is) (search rules)

pub returns : goal.returns
returns g c =
    let view = c.args.view.now in
    let site = g.V.View.site view in
    let (small, are) = written_out site (levels site) (levels_few site (g.met.V.View.faithful view).lawful) c.in_ok-levels.levels c.tally.new.list (replicate 512 c.default-list.result) c.in_ok-levels.ensures.answer c.in_ok-levels.ensures.list in
    let best = best_by_call _ _ (λ a b. g.R.Rule.orders c.args.rule.now a.1 b.1) (λ a b o q k. search (rules, tests)) _ c.max_by-best.result _ c.max_by-best.ensures.ran
    (YieldsList-from_filter_map _ (scored (g.R.Rule.scores c.args.rule.now)) (YieldsList-at c.filter_map.ensures.source (YieldsList-from_enumerate (YieldsList-at c.enumerate.ensures.source (YieldsList-from_slice (take c.in_ok-levels.levels c.tally.new.list) c.iter.ensures.rest)) c.enumerate.ensures.count)) c.filter_map.ensures.closure
    (λ x r q k. search (rules, tests)))
    in
    let chosen : c.map_or.result ≡ option_map_or (λ b. b.0) c.max_by-best.result 0 = map_or_is c.max_by-best.result c.map_or.result 0 (λ b. b.0) _ (λ x k. search (rules, tests)) c.map_or.ensures in
    let is = folded_is site (g.R.Rule.scores c.args.rule.now) (g.R.Rule.orders c.args.rule.now) (g.met.R.Rule.lawful c.args.rule.now) (g.met.V.View.faithful view).lawful small in
    rw small (ap Ok (chosen ∙ ap (λ o. option_map_or (λ b. b.0) o 0) best ∙ rw are is))
