-- The plan of a site, and its sheet. Assumes nothing.
use Rattle.std.specs.Prelude.{◌≡◌, ℕ, true, List, map, Ok}
use Rattle.std.specs.List.{range_with_len}
use Rattle.cores.specs.Site.{Site, Lawful, sized}
use Rattle.cores.specs.Numbers.{number}
use Rattle.cores.specs.Forest.{home, up}
use Rattle.cores.specs.Drawing.{drawn}
use Rattle.sheet.specs.Plans.{Plan, WellFormed}
use Rattle.sheet.specs.Encoding.{encode}
use Rattle.sheet.specs.Decoding.{decode}

-- the plan of a site: the number, the home and the up of each station, and the drawn order
unfoldable pub plan_of : Site → Plan
plan_of g = record {
  numbers = map (number g) (range_with_len 0 g.size);
  homes = map (home g) (range_with_len 0 g.size);
  ups = map (up g) (range_with_len 0 g.size);
  order = drawn g;
}

-- the sheet of a site
abbrev pub sheet_of : Site → List ℕ
sheet_of g = encode (plan_of g)

-- The plan of a lawful site of 1 to 512 stations is well formed, so its sheet is read back as that plan.
abbrev pub PlansOfSitesAreWellFormed : Type 0
PlansOfSitesAreWellFormed = (g : Site) → Lawful g → sized g.size ≡ true → WellFormed (plan_of g) × (decode (sheet_of g) ≡ Ok (plan_of g))
