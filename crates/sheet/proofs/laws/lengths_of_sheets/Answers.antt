use Rattle.sheet.proofs.Lengths.{lengths_of_sheets}
use Rattle.sheet.proofs.laws.lengths_of_sheets.Goals as goal

pub returns : goal.returns
returns c = lengths_of_sheets
