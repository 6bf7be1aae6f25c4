use Rattle.std.proofs.Common.{Some, ap, sym, ◌∙◌}
use Rattle.std.specs.Option.{option_map}
use Rattle.rules.proofs.Tallied.{made_is}
use Rattle.rules.proofs.levels.score.Goals as goal

pub returns : goal.returns
returns g c = ap Some c.score.ensures ∙ ap (option_map (g.R.Rule.scores c.args.rule.now)) (sym c.in_ok-new.was ∙ made_is c.args.level.now c.new.result c.new.ensures)
