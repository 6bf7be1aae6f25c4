use Rattle.std.proofs.Common.{◌-◌, None, Some}
use Rattle.std.proofs.lemmas.List.{set-set}
use Rattle.drawer.proofs.remaining.Remaining.lower.Goals as goal

pub returns-in-Some-clause-left : goal.returns-in-Some-clause-left
returns-in-Some-clause-left g c = rw (← c.in-Some.ensures.was, c.put.ensures.left, c.in-Some.ensures.left) (set-set c.args.self.now.left c.args.t None (Some (c.in-Some.left - 1)))
