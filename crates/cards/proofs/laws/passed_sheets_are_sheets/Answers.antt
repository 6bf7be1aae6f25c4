use Rattle.cards.proofs.Issued.{passed_sheets_are_sheets}
use Rattle.cards.proofs.laws.passed_sheets_are_sheets.Goals as goal

pub returns : goal.returns
returns c = passed_sheets_are_sheets
