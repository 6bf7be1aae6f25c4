use Rattle.std.proofs.Common.{◌≡◌, drop}
use Rattle.console.specs.Plans.{marked_on, marked_by}
use Rattle.console.proofs.planning.mark_all.Given as goal

-- the marks that are still to come lead to what all of them lead to
abbrev pub invariant-loop-station : goal.invariant-loop-station
invariant-loop-station l = marked_on l.list (drop l.station-index l.stations) ≡ marked_by l.stations
