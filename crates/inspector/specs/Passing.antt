-- What the verdicts of the inspector mean, in words. Assumes nothing.
use Rattle.std.specs.Prelude.{◌≡◌, ◌≢◌, ℕ, ◌<◌, true, false, List, Ok, Err, slice_index}
use Rattle.refusals.specs.declared.Refusal.{Refusal}
use Rattle.refusals.specs.declared.Refusal.TheVariants.{CountOutOfRange, NotASheet, CountsDiffer, StationAtFault, HomeOrUpWrong}
use Rattle.cores.specs.Site.{Site, Lawful, sized}
use Rattle.cores.specs.Numbers.{number, IsGreatest}
use Rattle.cores.specs.Forest.{home, up}
use Rattle.cores.specs.Orders.{rightful, CoreNumbers}
use Rattle.sheet.specs.Plans.{Plan, stations, entry}
use Rattle.sheet.specs.Decoding.{decode}
use Rattle.sheet.specs.Sites.{plan_of, sheet_of}
use Rattle.inspector.specs.Inspecting.{is_at_fault, inspected}

-- A plan is for a site if it has the numbers, homes and ups of the site, and its order is rightful.
pub record IsFor (g : Site) (p : Plan) : Type 0 where
  pub numbers : p.numbers ≡ (plan_of g).numbers
  pub homes : p.homes ≡ (plan_of g).homes
  pub ups : p.ups ≡ (plan_of g).ups
  pub order : rightful g (number g) p.order ≡ true

-- Bytes are a sheet for a site.
pub record IsSheetFor (g : Site) (bytes : List ℕ) : Type 0 where
  pub counted : sized g.size ≡ true
  pub plan : Plan
  pub is_sheet : decode bytes ≡ Ok plan
  pub is_for : IsFor g plan

-- What inspect passes is a sheet for the site, and it passes every sheet that is.
abbrev pub WhatPassesIsForTheSite : Type 0
WhatPassesIsForTheSite = (g : Site) → Lawful g → (bytes : List ℕ)
    → (inspected g bytes ≡ Ok tt → IsSheetFor g bytes) × (IsSheetFor g bytes → inspected g bytes ≡ Ok tt)

-- The sheet of a site passes over it.
abbrev pub TheSheetOfASitePasses : Type 0
TheSheetOfASitePasses = (g : Site) → Lawful g → sized g.size ≡ true → inspected g (sheet_of g) ≡ Ok tt

-- Each number of a sheet that passes is the greatest k for which some group holds its station and lets every member hear at least k others of the group.
abbrev pub PassedNumbersAreTheGreatest : Type 0
PassedNumbersAreTheGreatest = (g : Site) → Lawful g → (bytes : List ℕ) (p : Plan) → inspected g bytes ≡ Ok tt → decode bytes ≡ Ok p
    → (s : ℕ) → s < g.size → IsGreatest g s (slice_index p.numbers s)

-- s is the lowest station of a site that fails, and all lower ones are as they should be.
pub record IsLowest (g : Site) (Right : ℕ → Type 0) (s : ℕ) : Type 0 where
  pub on_site : s < g.size
  pub fails : Right s → ⊥
  pub below : (t : ℕ) → t < s → Right t

-- the home and the up of s on a plan are those of the site
abbrev pub HasHomeAndUp : Site → Plan → ℕ → Type 0
HasHomeAndUp g p s = ((entry p s).home ≡ home g s) × ((entry p s).up ≡ up g s)

-- The site has 1 to 512 stations, the bytes are a sheet, and its plan fails so.
pub record SheetFails (g : Site) (bytes : List ℕ) (Fails : Plan → Type 0) : Type 0 where
  pub counted : sized g.size ≡ true
  pub plan : Plan
  pub is_sheet : decode bytes ≡ Ok plan
  pub fails : Fails plan

-- numbers and order of a plan are right
abbrev pub IsRight : Site → Plan → Type 0
IsRight g p = (stations p ≡ g.size) × CoreNumbers g (slice_index p.numbers) × (rightful g (number g) p.order ≡ true)

-- A refusal in words. Of a sheet for as many stations as the site has, it names the lowest station at fault; or none is at fault, so that
-- numbers and order are right, and it names the lowest whose home or up is wrong.
abbrev pub RefusedFor : Site → List ℕ → Refusal → Type 0
RefusedFor g bytes CountOutOfRange = sized g.size ≡ false
RefusedFor g bytes (NotASheet place) = (sized g.size ≡ true) × (decode bytes ≡ Err place)
RefusedFor g bytes CountsDiffer = SheetFails g bytes (λ p. stations p ≢ g.size)
RefusedFor g bytes (StationAtFault s) = SheetFails g bytes (λ p. (stations p ≡ g.size) × IsLowest g (λ t. is_at_fault g p t ≡ false) s)
RefusedFor g bytes (HomeOrUpWrong s) = SheetFails g bytes (λ p. IsRight g p × IsLowest g (HasHomeAndUp g p) s)
RefusedFor g bytes e = ⊥

-- Each refusal says what is wrong, and no other refusal is given.
abbrev pub EachRefusalSaysWhatIsWrong : Type 0
EachRefusalSaysWhatIsWrong = (g : Site) → Lawful g → (bytes : List ℕ) (e : Refusal) → inspected g bytes ≡ Err e → RefusedFor g bytes e
