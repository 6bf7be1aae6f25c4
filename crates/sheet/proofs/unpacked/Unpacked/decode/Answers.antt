use Rattle.sheet.proofs.FirstFaults.{fault_within}
use Rattle.sheet.proofs.unpacked.Unpacked.decode.Goals as goal

pub overflow_sub-result : goal.overflow_sub-result
overflow_sub-result c = fault_within c.args.sheet.now c.in-Err.fault.from.now c.in-Err.ensures
