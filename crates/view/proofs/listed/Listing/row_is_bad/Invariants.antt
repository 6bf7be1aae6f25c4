use Rattle.std.proofs.Common.{◌≡◌, false}
use Rattle.cores.specs.Counting.{some}
use Rattle.view.specs.Listing.{lists, bad_entry}
use Rattle.view.proofs.listed.Listing.row_is_bad.Given as goal

-- no entry so far is bad
abbrev pub invariant-loop-place : goal.invariant-loop-place
invariant-loop-place l = some l.place (bad_entry (lists l.self) l.s) ≡ false
