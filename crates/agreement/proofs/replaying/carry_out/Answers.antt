use Rattle.std.proofs.Common.{arith}
use Rattle.book.specs.Books.{site}
use Rattle.agreement.proofs.Carried.{carried_none, carried_more, carried_all}
use Rattle.agreement.proofs.replaying.carry_out.Goals as goal

pub loop-i-init : goal.loop-i-init
loop-i-init c = carried_none c.args.calls.now c.args.answers.now (site c.new-book.result) c.new-book.ensures

pub loop-i-preserved : goal.loop-i-preserved
loop-i-preserved c =
    let calls = c.args.calls.now in
    let i = c.loop-i.i in
    let step = c.carry_out.ensures in
    carried_more calls c.args.answers.now i _ (site c.loop-i.book) (site c.carry_out.new.book) c.loop-i.answers c.carry_out.result
    c.loop-i-test.true (omega arith) step.answer step.site step.moves c.loop-i.invariant

pub returns-clause-answers : goal.returns-clause-answers
returns-clause-answers c = carried_all c.args.calls.now c.args.answers.now c.loop-i.i (site c.loop-i.book) c.loop-i.answers (omega arith) c.loop-i.invariant
