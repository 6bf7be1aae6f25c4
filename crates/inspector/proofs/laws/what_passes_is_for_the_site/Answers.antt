use Rattle.inspector.proofs.Passes.{what_passes_is_for_the_site}
use Rattle.inspector.proofs.laws.what_passes_is_for_the_site.Goals as goal

pub returns : goal.returns
returns c = what_passes_is_for_the_site
