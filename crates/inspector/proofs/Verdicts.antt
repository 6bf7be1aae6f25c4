-- What the inspector asks of its parts.
use Rattle.std.proofs.Common.{◌≡◌, ℕ, None, Ok, Err, List, Result, is_some, get_or, ap, arith}
use Rattle.std.proofs.lemmas.Bool.Decides.{nat_tests}
use Rattle.cores.specs.Counting.{lowest}
use Rattle.cores.specs.Site.{Site, Lawful, EachOnce}
use Rattle.cores.proofs.Searches.{lowest_at}
use Rattle.cores.proofs.Orders.{faultless_means}
use Rattle.view.proofs.Admitted.{sized_within}
use Rattle.sheet.specs.Plans.{Plan, WellFormed, stations}
use Rattle.sheet.specs.Decoding.{decode}
use Rattle.inspector.specs.Inspecting.{is_at_fault}
use Rattle.inspector.specs.Parts.{CanBeJudged, CanBeCompared}
use Rattle.inspector.proofs.Claims.{read_as}

-- what was read is on the sheet
pub decoded : (bytes : List ℕ) (p : Plan) → Ok p ≡ read_as (decode bytes) → decode bytes ≡ Ok p
decoded bytes p e = go (decode bytes) e
  where
    go : (r : Result Plan ℕ) → Ok p ≡ read_as r → r ≡ Ok p
    go (Ok q) d = cc
    go (Err place) d = absurd cc

module _ (g : Site) (p : Plan) (well : WellFormed p) (counted : stations p ≡ g.size) where
  names_each_once : EachOnce g p.order
  names_each_once t = rw counted at (well.each_once t)

  -- it can be judged
  pub can_be_judged : CanBeJudged g p.numbers p.order
  can_be_judged =
      let lengths = well.lengths in
      record { few = (sized_within g.size (rw counted at well.counted)).1; numbered = counted; ordered = grind (arith, nat_tests); each_once = names_each_once }

  -- and compared, once no station is at fault
  pub can_be_compared : Lawful g → lowest g.size (is_at_fault g p) ≡ None → CanBeCompared g p
  can_be_compared law none =
      record {
        sized = rw counted at well.counted;
        counted = counted;
        numbered = ((faultless_means g law (λ s. get_or p.numbers s 0) p.order names_each_once).0 (λ s h. lowest_at g.size (is_at_fault g p) s (ap is_some none) h)).0;
      }
