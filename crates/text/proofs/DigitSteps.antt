-- The value of digits, one digit after the other.
use Rattle.std.proofs.Common.{◌≡◌, ℕ, ◌+◌, ◌-◌, ◌*◌, ◌<◌, ◌≤◌, true, false, cond, ◌&&◌, List, [], ◌∷◌, length, get_or, drop, Option, Some, None, ◌∙◌, arith, nat_le, sym, refl}
use Rattle.std.specs.Char.{is_ascii_digit}
use Rattle.std.specs.List.{list_all}
use Rattle.std.proofs.lemmas.List.{at_drop_more, at_drop_all}
use Rattle.std.proofs.lemmas.Bool.Decides.{nat_tests}
use Rattle.text.specs.Texts.{read_on, value_up_to}

-- The same behind digits that stand for n.
unfoldable pub value_on : ℕ → ℕ → List ℕ → Option ℕ
value_on limit n bs = cond (list_all is_ascii_digit bs && nat_le (read_on n bs) limit) (Some (read_on n bs)) None

pub from_zero : (limit : ℕ) (bs : List ℕ) → value_on limit 0 bs ≡ value_up_to limit bs
unfolding value_on
from_zero limit bs = refl

-- A value only grows.
reads_up : (n : ℕ) (bs : List ℕ) → n ≤ read_on n bs
unfolding read_on
reads_up n [] = omega arith
reads_up n (b ∷ bs) = omega (arith, reads_up (n * 10 + (b - 48)) bs)

not_small : (limit n : ℕ) (bs : List ℕ) → limit < read_on n bs → None ≡ value_on limit n bs
unfolding value_on
not_small limit n bs h = grind (arith, nat_tests)

module _ (limit n : ℕ) (w : List ℕ) (i : ℕ) where
  pub no_digit : i < length w → is_ascii_digit (get_or w i 0) ≡ false → None ≡ value_on limit n (drop i w)
  unfolding value_on
  no_digit h e = sym (at_drop_more (value_on limit n) w i 0 h ∙ rw e)

  pub one_more : i < length w → is_ascii_digit (get_or w i 0) ≡ true → value_on limit n (drop i w) ≡ value_on limit (n * 10 + (get_or w i 0 - 48)) (drop (i + 1) w)
  unfolding value_on read_on
  one_more h e = at_drop_more (value_on limit n) w i 0 h ∙ rw e

  pub too_large : i < length w → limit < n * 10 + (get_or w i 0 - 48) → None ≡ value_on limit n (drop i w)
  unfolding value_on read_on
  too_large h big =
      let m = n * 10 + (get_or w i 0 - 48) in
      not_small limit n (drop i w) (rw (at_drop_more (read_on n) w i 0 h) (omega (arith, reads_up m (drop (i + 1) w))))

  pub no_more : length w ≤ i → n ≤ limit → Some n ≡ value_on limit n (drop i w)
  unfolding value_on read_on
  no_more h fits = sym (at_drop_all (value_on limit n) w i h ∙ grind (arith, nat_tests))
