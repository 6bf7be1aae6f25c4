-- What the inspector answers. Assumes nothing.
use Rattle.std.specs.Prelude.{ℕ, Bool, cond, not, ◌&&◌, List, Some, None, Ok, Err, Option, Result, ◌==◌, nat_eq, slice_index}
use Rattle.std.specs.Option.{option_eq}
use Rattle.refusals.specs.declared.Refusal.{Refusal}
use Rattle.refusals.specs.declared.Refusal.TheVariants.{CountOutOfRange, NotASheet, CountsDiffer, StationAtFault, HomeOrUpWrong}
use Rattle.cores.specs.Counting.{lowest}
use Rattle.cores.specs.Site.{Site, sized}
use Rattle.cores.specs.Forest.{home, up}
use Rattle.cores.specs.Orders.{at_fault}
use Rattle.sheet.specs.Plans.{Plan, stations, entry}
use Rattle.sheet.specs.Decoding.{decode}

-- is station s at fault for the numbers and the order of a plan
abbrev pub is_at_fault : Site → Plan → ℕ → Bool
is_at_fault g p = at_fault g (slice_index p.numbers) p.order

-- is the home or the up of station s on a plan not that of the site
unfoldable pub is_wrong : Site → Plan → ℕ → Bool
is_wrong g p s = let e = entry p s in not (e.home == home g s && option_eq nat_eq e.up (up g s))

-- a station that is found is refused, and else it goes on
abbrev pub unless_found : (ℕ → Refusal) → Option ℕ → Result (Unit {0}) Refusal → Result (Unit {0}) Refusal
unless_found refusal (Some s) further = Err (refusal s)
unless_found refusal None further = further

-- The verdict on a plan: first the lowest station at fault is named, then the lowest whose home or up is wrong.
abbrev pub plan_verdict : Site → Plan → Result (Unit {0}) Refusal
plan_verdict g p = unless_found StationAtFault (lowest g.size (is_at_fault g p)) (unless_found HomeOrUpWrong (lowest g.size (is_wrong g p)) (Ok tt))

-- The verdict on what was read of some bytes: they are to be a sheet, of as many stations as the site has.
abbrev pub sheet_verdict : Site → Result Plan ℕ → Result (Unit {0}) Refusal
sheet_verdict g (Ok p) = cond (stations p == g.size) (plan_verdict g p) (Err CountsDiffer)
sheet_verdict g (Err place) = Err (NotASheet place)

-- What inspect answers: first the station count of the site is judged, then the bytes.
abbrev pub inspected : Site → List ℕ → Result (Unit {0}) Refusal
inspected g bytes = cond (sized g.size) (sheet_verdict g (decode bytes)) (Err CountOutOfRange)
