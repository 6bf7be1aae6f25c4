use Rattle.std.proofs.Common.{arith}
use Rattle.book.specs.Books.{site}
use Rattle.planner_c.proofs.Steps.{stepped, all_stepped}
use Rattle.planner_c.proofs.linking.book_after.Goals as goal

pub loop-step-preserved : goal.loop-step-preserved
loop-step-preserved c =
    stepped c.args.steps.now c.loop-step.step-index _ (site c.loop-step.book) (site c.carry_out.new.book) _ c.loop-step-test.true c.carry_out.ensures c.loop-step.invariant

pub returns : goal.returns
returns c = all_stepped c.args.steps.now c.loop-step.step-index (site c.loop-step.book) _ (omega arith) c.loop-step.invariant
