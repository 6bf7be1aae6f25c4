use Rattle.std.proofs.Common.{slice_index}
use Rattle.rules.specs.Noted.{Holds, noted}
use Rattle.rules.proofs.numbered.Numbered.note_stations.Given as goal

abbrev pub invariant-loop-s : goal.invariant-loop-s
invariant-loop-s g l = Holds (noted (g.V.View.site l.self.view.now) (slice_index l.self.numbers.now) l.s) l.list
