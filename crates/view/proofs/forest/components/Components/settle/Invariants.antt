use Rattle.view.specs.Components.{AreShortened, AreSettled}
use Rattle.view.proofs.forest.components.Components.settle.Given as goal

abbrev pub invariant-loop-s : goal.invariant-loop-s
invariant-loop-s l = AreShortened l.fn.self.labels l.self.labels × AreSettled l.s l.self.labels
