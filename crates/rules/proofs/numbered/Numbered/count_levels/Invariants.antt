use Rattle.std.proofs.Common.{slice_index}
use Rattle.rules.proofs.Sweeps.{Swept}
use Rattle.rules.proofs.numbered.Numbered.count_levels.Given as goal

abbrev pub invariant-loop-level : goal.invariant-loop-level
invariant-loop-level g l = Swept (g.V.View.site l.self.view.now) (slice_index l.self.numbers.now) l.level l.members l.inside l.reaching l.list
