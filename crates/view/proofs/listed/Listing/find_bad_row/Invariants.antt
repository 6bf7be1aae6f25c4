use Rattle.std.proofs.Common.{◌≡◌, None}
use Rattle.cores.specs.Counting.{lowest}
use Rattle.view.specs.Listing.{lists, bad_row}
use Rattle.view.proofs.listed.Listing.find_bad_row.Given as goal

abbrev pub invariant-loop-s : goal.invariant-loop-s
invariant-loop-s l = lowest l.s (bad_row (lists l.self)) ≡ None
