use Rattle.inspector.proofs.Passes.{each_refusal_says_what_is_wrong}
use Rattle.inspector.proofs.laws.each_refusal_says_what_is_wrong.Goals as goal

pub returns : goal.returns
returns c = each_refusal_says_what_is_wrong
