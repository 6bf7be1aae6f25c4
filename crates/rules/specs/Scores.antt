-- What the rules score, and how their scores are ordered. Assumes nothing.
use Rattle.std.specs.Prelude.{◌*◌, ◌<◌, ℤ, pos, ◌-ℤ◌, ◌+ℤ◌, ◌≤ℤ◌}
use Rattle.std.specs.declared.cmp.Ordering.{Ordering}
use Rattle.std.specs.Ordering.{nat_cmp, ordering_then}
use Rattle.rules.specs.declared.tally.Tally.{Tally}
use Rattle.rules.specs.declared.average.Fraction.{Fraction}
use Rattle.rules.specs.declared.net.Net.{Net}
use Rattle.rules.specs.declared.paired.Pair.{Pair}
use Rattle.rules.specs.Tallies.{counts_in, some_members}

-- 2 × inside / members
abbrev pub average : Tally → Fraction
average tally = record { numerator = 2 * (counts_in tally).inside; denominator = (counts_in tally).members; nonzero = some_members tally }

-- a/b stands to c/d as a × d to c × b
abbrev pub by_fraction : Fraction → Fraction → Ordering
by_fraction a b = nat_cmp (a.numerator * b.denominator) (b.numerator * a.denominator)

-- gain × inside − boundary cost × boundary − member cost × members
abbrev pub net : Net → Tally → ℤ
net rule tally = let c = counts_in tally in (pos (rule.inside_gain * c.inside) -ℤ pos (rule.boundary_cost * c.boundary)) -ℤ pos (rule.member_cost * c.members)

-- With weights of 16 bits, a score of Net lies between −4,328,455,680 and 8,573,026,560.
abbrev pub ScoresOfNetAreBounded : Type 0
ScoresOfNetAreBounded = (rule : Net) → rule.inside_gain < 65536 → rule.boundary_cost < 65536 → rule.member_cost < 65536 → (tally : Tally)
    → (pos 0 ≤ℤ (net rule tally +ℤ pos 4328455680)) × (net rule tally ≤ℤ pos 8573026560)

-- the scores of a tally by two rules
abbrev pub paired : {S T : Type 0} → (Tally → S) → (Tally → T) → Tally → Pair S T
paired first second tally = record { first = first tally; second = second tally }

-- the second scores count where the first are level
abbrev pub by_pair : {S T : Type 0} → (S → S → Ordering) → (T → T → Ordering) → Pair S T → Pair S T → Ordering
by_pair first second a b = ordering_then (first a.first b.first) (second a.second b.second)
