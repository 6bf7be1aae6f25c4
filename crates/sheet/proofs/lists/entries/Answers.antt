use Rattle.std.proofs.Common.{take, arith, rules}
use Rattle.sheet.specs.Decoding.{entries_at}
use Rattle.sheet.proofs.Runs.{entries_more, entries_fault, entries_end}
use Rattle.sheet.proofs.lists.entries.Goals as goal

pub returns-in_err-entry : goal.returns-in_err-entry
returns-in_err-entry c =
    let fault = entries_fault c.args.count c.loop-s.s (take c.loop-s.s c.loop-s.table) c.loop-s.rest.now _ (entries_at c.args.count c.args.count 0 c.args.bytes.now) (omega arith) c.in_err-entry.ensures c.loop-s.invariant in
    search rules

pub loop-s-preserved : goal.loop-s-preserved
loop-s-preserved c = rw c.from.ensures (
    entries_more c.args.count c.loop-s.s c.loop-s.table c.loop-s.rest.now c.in_ok-entry.behind.now c.in_ok-entry.entry (entries_at c.args.count c.args.count 0 c.args.bytes.now)
    (omega arith) (omega arith) c.in_ok-entry.ensures c.loop-s.invariant)

pub returns : goal.returns
returns c = entries_end c.args.count c.loop-s.s c.loop-s.table c.loop-s.rest.now (entries_at c.args.count c.args.count 0 c.args.bytes.now) (omega arith) c.loop-s.invariant
