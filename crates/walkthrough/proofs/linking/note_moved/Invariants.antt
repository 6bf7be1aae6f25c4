use Rattle.walkthrough.proofs.Moves.{Noted}
use Rattle.walkthrough.proofs.linking.note_moved.Given as goal

abbrev pub invariant-loop-station : goal.invariant-loop-station
invariant-loop-station l = Noted l.before l.now l.station l.count l.out
