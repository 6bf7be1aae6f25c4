use Rattle.shown.proofs.Computed.{shown}
use Rattle.shown.proofs.worked_sites.Goals as goal

pub returns : goal.returns
returns c = shown
