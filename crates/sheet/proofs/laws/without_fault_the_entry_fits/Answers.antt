use Rattle.sheet.proofs.Faults.{fault_in_words}
use Rattle.sheet.proofs.laws.without_fault_the_entry_fits.Goals as goal

pub returns : goal.returns
returns c = fault_in_words
