use Rattle.std.proofs.Common.{length, ap, ◌∙◌, rules, tests, ◌==◌}
use Rattle.std.specs.Option.{unwrap_or}
use Rattle.std.proofs.lemmas.Iterator.{YieldsList-from_slice}
use Rattle.std.proofs.lemmas.Iterator.Search.{position_from_yields_List}
use Rattle.text.proofs.Fronts.{first_or_end}
use Rattle.text.proofs.cut.until.Goals as goal

pub returns-clause-first : goal.returns-clause-first
returns-clause-first c =
    let w = c.args.bytes.now in
    c.unwrap_or.ensures
    ∙ ap (λ o. unwrap_or o (length w))
    (position_from_yields_List (λ b. b == c.args.stop) _ _ c.position.result c.position.ensures.ran (YieldsList-from_slice w c.iter.ensures.rest) (λ x b q k. search (rules, tests)))
    ∙ first_or_end (λ b. b == c.args.stop) w
