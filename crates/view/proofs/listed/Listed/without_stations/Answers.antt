use Rattle.view.proofs.Listings.{faithful}
use Rattle.view.proofs.Checks.{empty_sound}
use Rattle.view.proofs.listed.Listed.without_stations.Goals as goal

pub invariant_of-result : goal.invariant_of-result
invariant_of-result c = record { sound = empty_sound; faithful = faithful _ empty_sound }
