use Rattle.view.proofs.Striking.{struck_faithful}
use Rattle.view.proofs.struck.Struck.new.Goals as goal

pub invariant_of-result : goal.invariant_of-result
invariant_of-result g c = record { faithful = search (struck_faithful, g.met.V.View.faithful c.args.below) }
