use Rattle.view.proofs.Marks.{none_at_first}
use Rattle.view.proofs.laws.no_mark_is_set_at_first.Goals as goal

pub returns : goal.returns
returns c = none_at_first
