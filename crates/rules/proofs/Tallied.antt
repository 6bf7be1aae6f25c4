-- Counts and the tally that has them.
use Rattle.std.proofs.Common.{◌≡◌, Bool, true, false, cond, Some, None, Option, refl, sym, ap, subst}
use Rattle.std.proofs.Math.Bool.{Bool-set}
use Rattle.std.proofs.lemmas.Option.{none-some}
use Rattle.std.specs.Option.{option_map, option_map_or}
use Rattle.rules.specs.declared.counts.Counts.{Counts}
use Rattle.rules.specs.declared.tally.Tally.{Tally}
use Rattle.rules.specs.Limits.{within}
use Rattle.rules.specs.Tallies.{counts_in, tally_if, tally_of}

-- tallies with the same counts are the same
pub same_tally : (t u : Tally) → counts_in t ≡ counts_in u → t ≡ u
same_tally t u same =
    let made : (c : Counts) → within c ≡ true → Tally = λ c fits. record { counts = c; fits = fits } in
    subst (λ c. (fits : within c ≡ true) → t ≡ made c fits) same (λ fits. ap (made t.counts) (Bool-set (within t.counts) true t.fits fits)) u.fits

-- what is made of counts by their limits is their tally
made_if : (c : Counts) (found : Bool) (is : within c ≡ found) (made : Option Tally) → option_map counts_in made ≡ cond found (Some c) None → made ≡ tally_if c found is
made_if c true is None e = absurd (none-some c e)
made_if c true is (Some t) e = ap Some (same_tally t (record { counts = c; fits = is }) (ap (λ o. option_map_or (λ x. x) o c) e))
made_if c false is None e = refl
made_if c false is (Some t) e = absurd (none-some (counts_in t) (sym e))

pub made_is : (c : Counts) (made : Option Tally) → option_map counts_in made ≡ cond (within c) (Some c) None → made ≡ tally_of c
made_is c = made_if c (within c) refl

-- a tally is that of its counts
pub tally_is : (t : Tally) → tally_of (counts_in t) ≡ Some t
tally_is t = sym (made_is (counts_in t) (Some t) (rw t.fits refl))
