use Rattle.sheet.proofs.Lengths.{sheet_is_bytes}
use Rattle.sheet.proofs.laws.sheets_are_bytes.Goals as goal

pub returns : goal.returns
returns c = sheet_is_bytes
