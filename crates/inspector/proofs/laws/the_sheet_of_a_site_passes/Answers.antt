use Rattle.inspector.proofs.Passes.{the_sheet_of_a_site_passes}
use Rattle.inspector.proofs.laws.the_sheet_of_a_site_passes.Goals as goal

pub returns : goal.returns
returns c = the_sheet_of_a_site_passes
