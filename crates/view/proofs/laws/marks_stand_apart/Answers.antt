use Rattle.view.proofs.Marks.{marks_apart}
use Rattle.view.proofs.laws.marks_stand_apart.Goals as goal

pub returns : goal.returns
returns c = marks_apart
