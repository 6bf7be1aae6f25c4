use Rattle.std.proofs.Common.{◌≡◌, None}
use Rattle.cores.specs.Counting.{lowest}
use Rattle.sheet.specs.Plans.{at_fault}
use Rattle.sheet.specs.Parts.{unnamed, plan_of_tables}
use Rattle.sheet.proofs.Faults.{unnamed_at}
use Rattle.sheet.proofs.tables.Tables.find_fault.Given as goal

abbrev pub invariant-loop-i : goal.invariant-loop-i
invariant-loop-i l = (lowest l.i (at_fault (plan_of_tables l.self)) ≡ None) × (unnamed l.roll ≡ unnamed_at l.count l.self.order.now l.i)
