use Rattle.sheet.proofs.FirstFaults.{first_fault}
use Rattle.sheet.proofs.laws.first_fault_is_named.Goals as goal

pub returns : goal.returns
returns c = first_fault
