use Rattle.view.proofs.Theorems.{off_site_none}
use Rattle.view.proofs.laws.off_site_alone.Goals as goal

pub returns : goal.returns
returns c = off_site_none
