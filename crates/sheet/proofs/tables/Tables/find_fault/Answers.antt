use Rattle.std.proofs.Common.{◌<◌, get_or, refl, ◌∙◌, ap, arith}
use Rattle.std.proofs.lemmas.Bool.Decides.{nat_tests}
use Rattle.cores.specs.Numbers.{without}
use Rattle.cores.proofs.Searches.{lowest_none}
use Rattle.sheet.specs.Plans.{stations, at_fault}
use Rattle.sheet.specs.Parts.{unnamed, plan_of_tables}
use Rattle.sheet.proofs.Faults.{unnamed_first, unnamed_more, fault_in_entry, fault_in_order, no_fault_yet}
use Rattle.sheet.proofs.tables.Tables.find_fault.Goals as goal
use Rattle.sheet.proofs.tables.Tables.find_fault.Goals.{then-is_at_fault-via-then-is_at_fault, then-is_at_fault-via-else-is_at_fault+then-not-name}

pub loop-i-init : goal.loop-i-init
loop-i-init c = let p = plan_of_tables c.args.self.now in (lowest_none (at_fault p), c.new-roll.ensures ∙ unnamed_first (stations p) p.order)

pub returns-then-is_at_fault : goal.returns-then-is_at_fault
returns-then-is_at_fault c =
    let p = plan_of_tables c.args.self.now in
    let i = c.loop-i.i in
    let on_site : i < stations p = grind (arith, nat_tests) in
    elim c.then-is_at_fault.branch [
      | then-is_at_fault-via-then-is_at_fault w ↦ fault_in_entry p i c.entry.result on_site c.loop-i.invariant.0 c.entry.ensures w.if-is_at_fault.ensures
      | then-is_at_fault-via-else-is_at_fault+then-not-name w ↦ fault_in_order p i (unnamed c.loop-i.roll) on_site c.loop-i.invariant.0 c.loop-i.invariant.1 w.if-not-name.ensures.answer
    ]

pub loop-i-preserved : goal.loop-i-preserved
loop-i-preserved c =
    let p = plan_of_tables c.args.self.now in
    let i = c.loop-i.i in
    let X = unnamed c.loop-i.roll in
    let t = get_or p.order i 0 in (
      no_fault_yet p i c.entry.result X c.loop-i.invariant.0 c.entry.ensures c.if-is_at_fault.ensures c.loop-i.invariant.1 c.if-not-name.ensures.answer,
      c.name.ensures.after ∙ ap (without t) c.loop-i.invariant.1 ∙ unnamed_more (stations p) p.order i t c.loop-i-test.true refl,
    )
