-- The status that the program ends with. Assumes nothing.
use Rattle.std.specs.Prelude.{ℕ, cond, List, is_ok, Ok, Err, Option, Result}
use Rattle.std.specs.Borrow.{Bor}
use Rattle.std.specs.Option.{option_map, unwrap_or}
use Rattle.refusals.specs.declared.Refusal.{Refusal}
use Rattle.cores.specs.Site.{Site}
use Rattle.view.specs.Listing.{Lists, site_of}
use Rattle.view.specs.Checked.{checked}
use Rattle.view.specs.Service.{is_marked}
use Rattle.view.specs.Struck.{struck_site}
use Rattle.sheet.specs.Sites.{sheet_of}
use Rattle.inspector.specs.Inspecting.{inspected}
use Rattle.walkthrough.specs.declared.Request.{Request}
use Rattle.walkthrough.specs.Linking.{site_by_links}

-- 0 for what passes, and 1 for what is turned down
abbrev pub status_of : Result (Unit {0}) Refusal → ℕ
status_of (Ok u) = 0
status_of (Err refusal) = 1

-- the bytes that are offered, if any are
abbrev pub sheet_offered : Request → Option (List ℕ)
sheet_offered request = option_map (λ (sheet : Bor (List ℕ)). sheet.now) request.offered

-- the verdict on the sheet that is offered, or else on the one that is drawn, over the links that are left where the marked stations are struck
abbrev pub verdict_on : Site → Request → Result (Unit {0}) Refusal
verdict_on g request = let left = struck_site (is_marked request.list) g in inspected left (unwrap_or (sheet_offered request) (sheet_of left))

-- the site of a table, or of the book that is built from it
abbrev pub site_told : Lists → Request → Site
site_told l request = cond request.by_book (site_by_links l) (site_of l)

-- the status after a table was told: first the table is judged, then the sheet
abbrev pub status_after : Lists → Request → ℕ
status_after l request = cond (is_ok (checked l)) (status_of (verdict_on (site_told l request) request)) 1
