-- What is written of a site, and what bytes carry. Assumes nothing.
use Rattle.std.specs.Prelude.{◌≡◌, ℕ, ◌<◌, true, cond, List, Ok, Err, Result, ◌==◌}
use Rattle.refusals.specs.declared.Refusal.{Refusal}
use Rattle.refusals.specs.declared.Refusal.TheVariants.{CountOutOfRange}
use Rattle.cores.specs.Site.{Site, EachOnce}
use Rattle.cores.specs.Numbers.{number, IsGreatest}
use Rattle.cores.specs.Forest.{home, up}
use Rattle.cores.specs.Orders.{rightful}
use Rattle.sheet.specs.Plans.{Plan, stations, entry}
use Rattle.sheet.specs.Decoding.{decode}
use Rattle.sheet.specs.Sites.{sheet_of}
use Rattle.inspector.specs.Inspecting.{inspected}

-- the sheet of a site; without stations there is none
abbrev pub sheet_if_any : Site → Result (List ℕ) Refusal
sheet_if_any g = cond (g.size == 0) (Err CountOutOfRange) (Ok (sheet_of g))

-- the verdict on a sheet over a view of a site, or why there is no sheet
abbrev pub judged : Site → Result (List ℕ) Refusal → Result (Unit {0}) Refusal
judged shown (Ok bytes) = inspected shown bytes
judged shown (Err e) = Err e

-- Bytes carry the plan of a site. Read as a sheet they have an entry for each of its stations, with the number, the home and
-- the up that it has on the site, and an order that names each station once and is rightful.
pub record Carries (g : Site) (bytes : List ℕ) : Type 0 where
  pub plan : Plan
  pub read : decode bytes ≡ Ok plan
  pub counted : stations plan ≡ g.size
  pub numbers : (s : ℕ) → s < g.size → (entry plan s).number ≡ number g s
  pub homes : (s : ℕ) → s < g.size → (entry plan s).home ≡ home g s
  pub ups : (s : ℕ) → s < g.size → (entry plan s).up ≡ up g s
  pub each_once : EachOnce g plan.order
  pub in_order : rightful g (number g) plan.order ≡ true

-- Bytes carry, read as a sheet, for each station of a site the greatest k for which some group holds the station and lets
-- every member hear at least k others of the group.
pub record CarriesGreatest (g : Site) (bytes : List ℕ) : Type 0 where
  pub plan : Plan
  pub read : decode bytes ≡ Ok plan
  pub counted : stations plan ≡ g.size
  pub greatest : (s : ℕ) → s < g.size → IsGreatest g s (entry plan s).number
