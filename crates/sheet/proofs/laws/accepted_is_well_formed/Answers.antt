use Rattle.sheet.proofs.SheetLaws.{accepted}
use Rattle.sheet.proofs.laws.accepted_is_well_formed.Goals as goal

pub returns : goal.returns
returns c = λ bytes p e. (accepted bytes p e).0
