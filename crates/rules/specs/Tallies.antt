-- The counts that a tally holds. Assumes nothing.
use Rattle.std.specs.Prelude.{◌≡◌, ◌≤◌, Bool, true, false, refl, Option, Some, None}
use Rattle.std.specs.Cmp.{first_so}
use Rattle.std.proofs.lemmas.Bool.{leb-true}
use Rattle.rules.specs.declared.counts.Counts.{Counts}
use Rattle.rules.specs.declared.tally.Tally.{Tally}
use Rattle.rules.specs.Limits.{within}

abbrev pub counts_in : Tally → Counts
counts_in tally = tally.counts

-- A level has members, as the first of the four limits says.
pub some_members : (tally : Tally) → 1 ≤ (counts_in tally).members
some_members tally = leb-true 1 tally.counts.members (first_so _ _ (first_so _ _ (first_so _ _ tally.fits)))

-- the counts as a tally, where they are found to be within the limits
abbrev pub tally_if : (c : Counts) (found : Bool) → within c ≡ found → Option Tally
tally_if c true fits = Some (record { counts = c; fits = fits })
tally_if c false fits = None

-- the tally with these counts, if they are within the limits
abbrev pub tally_of : Counts → Option Tally
tally_of c = tally_if c (within c) refl
