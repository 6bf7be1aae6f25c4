use Rattle.sheet.proofs.SheetLaws.{accepted}
use Rattle.sheet.proofs.laws.read_and_written_is_the_same.Goals as goal

pub returns : goal.returns
returns c = λ bytes p are e. (accepted bytes p e).1 are
