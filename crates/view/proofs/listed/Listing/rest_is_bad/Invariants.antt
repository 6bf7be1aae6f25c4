use Rattle.std.proofs.Common.{◌≡◌, false}
use Rattle.cores.specs.Counting.{some}
use Rattle.view.specs.Listing.{lists}
use Rattle.view.proofs.Rows.{misplaced}
use Rattle.view.proofs.listed.Listing.rest_is_bad.Given as goal

-- no entry so far is misplaced
abbrev pub invariant-loop-place : goal.invariant-loop-place
invariant-loop-place l = some l.place (misplaced (lists l.self) l.s) ≡ false
