-- How quiet a level is, and which of two stands above. Assumes nothing.
use Rattle.std.specs.declared.cmp.Ordering.{Ordering}
use Rattle.std.specs.Ordering.{nat_cmp, ordering_then}
use Rattle.std.specs.Cmp.{nat_cmp_total, then_total, on_total, back_total}
use Rattle.rules.specs.declared.tally.Tally.{Tally}
use Rattle.rules.specs.Tallies.{counts_in}
use Rattle.rules.specs.Orders.{LawfulOrder}
use Rattle.rules.specs.OrderLaws.{lawful_total}
use Rattle.quietest.specs.declared.Quiet.{Quiet}

abbrev pub quiet : Tally → Quiet
quiet tally = record { boundary = (counts_in tally).boundary; members = (counts_in tally).members }

-- a stands to b as the boundary of b to that of a, and where those are level, as the members of a to those of b
abbrev pub by_quiet : Quiet → Quiet → Ordering
by_quiet a b = ordering_then (nat_cmp b.boundary a.boundary) (nat_cmp a.members b.members)

-- The law of the rule: an order of numbers is total, and so is one the other way round, and one after another.
pub lawful_quiet : LawfulOrder by_quiet
lawful_quiet = lawful_total (then_total (back_total (on_total (λ q. q.boundary) nat_cmp_total)) (on_total (λ q. q.members) nat_cmp_total))
