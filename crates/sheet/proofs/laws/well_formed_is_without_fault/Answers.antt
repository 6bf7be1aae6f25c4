use Rattle.sheet.proofs.Faults.{well_formed_without_fault}
use Rattle.sheet.proofs.laws.well_formed_is_without_fault.Goals as goal

pub returns : goal.returns
returns c = well_formed_without_fault
