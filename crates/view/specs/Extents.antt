-- How large the site of a table is, or why the table was turned down. Assumes nothing.
use Rattle.std.specs.Prelude.{Ok, Err, Result}
use Rattle.refusals.specs.declared.Refusal.{Refusal}
use Rattle.view.specs.declared.listed.extents.Extent.{Extent}
use Rattle.cores.specs.Site.{Site, link_count}
use Rattle.view.specs.Listing.{Lists, site_of}
use Rattle.view.specs.Checked.{checked}

-- the stations and links of a site
abbrev pub extent : Site → Extent
extent g = record { stations = g.size; links = link_count g }

-- what a verdict tells of a site
abbrev pub told_of : Site → Result (Unit {0}) Refusal → Result Extent Refusal
told_of g (Ok u) = Ok (extent g)
told_of g (Err e) = Err e

-- a table that passes is told by its extent
abbrev pub measured : Lists → Result Extent Refusal
measured l = told_of (site_of l) (checked l)
