use Rattle.std.proofs.Common.{◌≡◌, ◌++◌, slice_index}
use Rattle.rules.specs.Noted.{Holds}
use Rattle.rules.proofs.Notes.{noting}
use Rattle.rules.proofs.numbered.Numbered.note_station.Given as goal

abbrev pub invariant-loop-t : goal.invariant-loop-t
invariant-loop-t g l =
    (l.yielded ++ l.t-iterator ≡ g.V.View.row l.self.view.now l.s)
    × Holds (noting (g.V.View.site l.self.view.now) (slice_index l.self.numbers.now) l.s l.yielded) l.list
