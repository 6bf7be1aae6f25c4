use Rattle.std.proofs.Common.{◌≡◌, length}
use Rattle.inspector.proofs.Places.{Noted}
use Rattle.inspector.proofs.judging.Judged.new.Given as goal

abbrev pub invariant-loop-place : goal.invariant-loop-place
invariant-loop-place g l = (length l.places ≡ 512) × Noted l.order l.places l.place
