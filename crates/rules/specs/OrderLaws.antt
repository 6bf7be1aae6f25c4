-- Proofs that the orders of scores are lawful, for the rules to cite. No promise rests on a word of this file.
use Rattle.std.proofs.Common.{◌≡◌, ℕ, ◌*◌, ◌<◌, ◌≤◌, Bool, true, false, cond, refl, sym, ap, ◌∙◌, arith, Ordering, Less, Equal, Greater, is_lt, is_gt, nat_cmp, int_cmp}
use Rattle.std.proofs.Math.Nat.{mul-le-mul_right, le_of_mul-le-mul_right}
use Rattle.std.proofs.lemmas.Cmp.{ranked, by_ranked, upto, nat_cmp_total, int_cmp_total, on_total, then_total}
use Rattle.std.proofs.lemmas.Map.Keys.{ge_from_not_lt}
use Rattle.std.specs.Cmp.{IsTotalOrder}
use Rattle.std.specs.Ordering.{ordering_reverse}
use Rattle.rules.specs.declared.average.Fraction.{Fraction}
use Rattle.rules.specs.Orders.{LawfulOrder}
use Rattle.rules.specs.Scores.{by_fraction, by_pair}

-- ---- answers by their tests

-- above one way round is below the other
turned : (r : Ordering) → is_gt (ordering_reverse r) ≡ is_lt r
turned Less = refl
turned Equal = refl
turned Greater = refl

by_tests : (r : Ordering) → r ≡ cond (is_lt r) Less (cond (is_gt r) Greater Equal)
by_tests Less = refl
by_tests Equal = refl
by_tests Greater = refl

agree : (r s : Ordering) → is_lt r ≡ is_lt s → is_gt r ≡ is_gt s → r ≡ s
agree r s h k = by_tests r ∙ (λ i. cond (h i) Less (cond (k i) Greater Equal)) ∙ sym (by_tests s)

below : (r : Ordering) → (is_lt r ≡ false → ⊥) → r ≡ Less
below Less h = refl
below Equal h = absurd (h refl)
below Greater h = absurd (h refl)

both_fail : (s t : Bool) → (s ≡ false → t ≡ false) → (t ≡ false → s ≡ false) → s ≡ t
both_fail false t h k = sym (h refl)
both_fail true true h k = refl
both_fail true false h k = k refl

-- ---- an order is lawful if it is a total order of std, which std builds of numbers, fields and turns

module _ {Score : Type 0} {order : Score → Score → Ordering} where
  mirrored : ((a b : Score) → order b a ≡ ordering_reverse (order a b)) → (a b : Score) → is_gt (order b a) ≡ is_lt (order a b)
  mirrored swapped a b = ap is_gt (swapped a b) ∙ turned (order a b)

  pub lawful_total : IsTotalOrder order → LawfulOrder order
  lawful_total total =
      let above : (a b : Score) → is_gt (order b a) ≡ is_lt (order a b) = mirrored (λ a b. total.antisymm b a) in
      record {
        swapped = λ a b. total.antisymm b a;
        carried = λ a b c h k. sym (above a c) ∙ upto total c b a (above b c ∙ k) (above a b ∙ h);
      }

  -- and only then
  module _ (law : LawfulOrder order) where
    above : (a b : Score) → is_gt (order b a) ≡ is_lt (order a b)
    above = mirrored law.swapped

    other_way : (a b : Score) (r : Ordering) → order a b ≡ r → is_lt (order b a) ≡ is_lt (ordering_reverse r)
    other_way a b r h = ap is_lt (law.swapped a b ∙ ap ordering_reverse h)

    chained : (a b c : Score) → order a b ≡ Less → order b c ≡ Less → order a c ≡ Less
    chained a b c h k = below (order a c) (λ up. let e : is_lt (order a b) ≡ false = law.carried a c b up (other_way b c Less k) in cc (e, h))

    alike : (a b c : Score) → order a b ≡ Equal → order a c ≡ order b c
    alike a b c h =
        let ab : is_lt (order a b) ≡ false = ap is_lt h in
        let ba : is_lt (order b a) ≡ false = other_way a b Equal h in
        let lower : is_lt (order a c) ≡ is_lt (order b c) = both_fail _ _ (law.carried b a c ba) (law.carried a b c ab) in
        let higher : is_lt (order c a) ≡ is_lt (order c b) = both_fail _ _ (λ k. law.carried c a b k ab) (λ k. law.carried c b a k ba) in
        agree (order a c) (order b c) lower (above c a ∙ higher ∙ sym (above c b))

    pub total_lawful : IsTotalOrder order
    total_lawful = record { antisymm = λ a b. law.swapped b a; trans = chained; congr = alike }

-- ---- the orders of the rules

pub lawful_numbers : LawfulOrder int_cmp
lawful_numbers = lawful_total int_cmp_total

not_less : (x y : ℕ) → y ≤ x → is_lt (nat_cmp x y) ≡ false
not_less x y h = by_ranked (x < y) (x ≡ y) (y < x) (nat_cmp x y) (ranked x y _ refl) (λ _ l. absurd (omega arith)) (λ e _. ap is_lt e) (λ e _. ap is_lt e)

-- one fraction is not below another
abbrev AtLeast : Fraction → Fraction → Type 0
AtLeast a b = b.numerator * a.denominator ≤ a.numerator * b.denominator

-- by what is left of the product of all three where the middle denominator is cancelled
carried_on : (a b c : Fraction) → AtLeast a b → AtLeast b c → AtLeast a c
carried_on a b c h k = le_of_mul-le-mul_right {k = b.denominator} (omega (arith, mul-le-mul_right c.denominator h, mul-le-mul_right a.denominator k)) b.nonzero

pub lawful_fractions : LawfulOrder by_fraction
lawful_fractions =
    let left : Fraction → Fraction → ℕ = λ a b. a.numerator * b.denominator in
    let at_least : (a b : Fraction) → is_lt (by_fraction a b) ≡ false → AtLeast a b = λ a b. ge_from_not_lt (left a b) (left b a) in
    record {
      swapped = λ a b. nat_cmp_total.antisymm (left b a) (left a b);
      carried = λ a b c h k. not_less (left a c) (left c a) (carried_on a b c (at_least a b h) (at_least b c k));
    }

pub lawful_pairs : {S T : Type 0} {first : S → S → Ordering} {second : T → T → Ordering} → LawfulOrder first → LawfulOrder second → LawfulOrder (by_pair first second)
lawful_pairs first second = lawful_total (then_total (on_total (λ p. p.first) (total_lawful first)) (on_total (λ p. p.second) (total_lawful second)))
