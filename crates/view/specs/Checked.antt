-- The verdict on a table of links, and the site that it opens as; for two lists. Assumes nothing.
use Rattle.std.specs.Prelude.{ℕ, Bool, cond, ◌&&◌, is_ok, Some, None, Ok, Err, Option, Result}
use Rattle.std.specs.Result.{result_map_both}
use Rattle.refusals.specs.declared.TableFault.{TableFault}
use Rattle.refusals.specs.declared.TableFault.TheVariants.{Shape, Row}
use Rattle.refusals.specs.declared.Refusal.{Refusal}
use Rattle.refusals.specs.declared.Refusal.TheVariants.{UnlawfulTable}
use Rattle.cores.specs.Site.{Site, no_stations, sized}
use Rattle.view.specs.Listing.{Lists, stations, shaped, lowest_bad_row, site_of}

-- a bad row is a fault
abbrev pub unless_bad : Option ℕ → Result (Unit {0}) TableFault
unless_bad None = Ok tt
unless_bad (Some s) = Err (Row s)

-- the first fault: of the station count and the shape, then the lowest bad row
abbrev pub first_fault : Bool → Option ℕ → Result (Unit {0}) TableFault
first_fault well_shaped bad = cond well_shaped (unless_bad bad) (Err Shape)

-- a table with a fault is refused for it
abbrev pub refused : Result (Unit {0}) TableFault → Result (Unit {0}) Refusal
refused verdict = result_map_both (λ u. u) UnlawfulTable verdict

-- a table that passes means its site, another the site with no stations
abbrev pub site_if : Result (Unit {0}) Refusal → Site → Site
site_if verdict g = cond (is_ok verdict) g no_stations

-- the first fault of two lists
abbrev pub judged : Lists → Result (Unit {0}) TableFault
judged l = first_fault (sized (stations l) && shaped l) (lowest_bad_row l)

-- the verdict on them
abbrev pub checked : Lists → Result (Unit {0}) Refusal
checked l = refused (judged l)

-- and what they mean
abbrev pub opened : Lists → Site
opened l = site_if (checked l) (site_of l)
