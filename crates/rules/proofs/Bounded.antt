-- The bounds of a score of Net.
use Rattle.std.proofs.Common.{◌≡◌, ℕ, ◌+◌, ◌*◌, ◌<◌, ◌≤◌, true, ◌&&◌, nat_le, mul-le-mul, arith}
use Rattle.std.proofs.lemmas.Int.{ints}
use Rattle.std.specs.Cmp.{first_so, second_so}
use Rattle.std.proofs.lemmas.Bool.{leb-true}
use Rattle.rules.specs.declared.counts.Counts.{Counts}
use Rattle.rules.specs.Limits.{within}
use Rattle.rules.specs.Tallies.{counts_in}
use Rattle.rules.specs.Scores.{ScoresOfNetAreBounded}

-- a product of two bounded numbers
product : (a b x y : ℕ) → a < x + 1 → b ≤ y → a * b ≤ x * y
product a b x y f g = mul-le-mul (omega arith) g

-- what the limits come to
limits : (c : Counts) → within c ≡ true → (c.inside ≤ 130816) × (c.boundary ≤ 65536) × (c.members ≤ 512)
limits c fits =
    let some = nat_le 1 c.members in
    let few = some && nat_le c.members 512 in
    let inner = few && nat_le c.inside 130816 in
    let has : inner ≡ true = first_so inner (nat_le c.boundary 65536) fits in
    let is_few : few ≡ true = first_so few (nat_le c.inside 130816) has in
    (leb-true c.inside 130816 (second_so few _ has), leb-true c.boundary 65536 (second_so inner _ fits), leb-true c.members 512 (second_so some _ is_few))

pub net_bounded : ScoresOfNetAreBounded
net_bounded rule gain cost member tally =
    let c = counts_in tally in
    let at = limits c tally.fits in
    let a : rule.inside_gain * c.inside ≤ 65535 * 130816 = product rule.inside_gain c.inside 65535 130816 gain at.0 in
    let b : rule.boundary_cost * c.boundary ≤ 65535 * 65536 = product rule.boundary_cost c.boundary 65535 65536 cost at.1 in
    let d : rule.member_cost * c.members ≤ 65535 * 512 = product rule.member_cost c.members 65535 512 member at.2 in
    (omega (arith, ints), omega (arith, ints))
