use Rattle.std.proofs.Common.{Ok, ap, ◌∙◌, rules}
use Rattle.inspector.proofs.Claims.{lowest_difference}
use Rattle.inspector.proofs.comparing.find_wrong.Goals as goal

pub returns : goal.returns
returns g c =
    let claim = c.args.claim.now in
    let view = c.args.view.now in
    ap (λ found. Ok found) (c.find_difference.ensures
    ∙ lowest_difference (g.V.View.site view) (g.met.V.View.faithful view).lawful claim.stations claim.numbers claim.homes claim.ups claim.order c.requires (search rules)
    c.homes_and_ups.new.homes c.homes_and_ups.new.ups (rw c.numbers.ensures at c.homes_and_ups.ensures.homes) (rw c.numbers.ensures at c.homes_and_ups.ensures.ups) (search rules) (search rules))
