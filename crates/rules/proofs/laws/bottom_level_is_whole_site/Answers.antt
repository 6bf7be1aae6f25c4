use Rattle.rules.proofs.Tops.{bottom_whole}
use Rattle.rules.proofs.laws.bottom_level_is_whole_site.Goals as goal

pub returns : goal.returns
returns c = bottom_whole
