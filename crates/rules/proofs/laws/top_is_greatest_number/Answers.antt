use Rattle.rules.proofs.Tops.{top_greatest}
use Rattle.rules.proofs.laws.top_is_greatest_number.Goals as goal

pub returns : goal.returns
returns c = top_greatest
