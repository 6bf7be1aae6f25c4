use Rattle.inspector.proofs.Passes.{passed_numbers_are_the_greatest}
use Rattle.inspector.proofs.laws.passed_numbers_are_the_greatest.Goals as goal

pub returns : goal.returns
returns c = passed_numbers_are_the_greatest
