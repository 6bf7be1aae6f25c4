use Rattle.sheet.proofs.SheetLaws.{written_and_read}
use Rattle.sheet.proofs.laws.written_and_read_is_the_same.Goals as goal

pub returns : goal.returns
returns c = written_and_read
