-- How the parts of the inspector are to be understood. Assumes nothing.
use Rattle.std.specs.Prelude.{◌≡◌, ℕ, ◌<◌, ◌≤◌, true, List, take, length, slice_index}
use Rattle.cores.specs.Site.{Site, EachOnce, sized}
use Rattle.cores.specs.Orders.{CoreNumbers}
use Rattle.sheet.specs.Plans.{Plan, stations}
use Rattle.sheet.specs.Calls.{plan_in}
use Rattle.inspector.specs.declared.claim.Claim.{Claim}

-- the plan that a claim holds
abbrev pub claimed : Claim → Plan
claimed c = plan_in (take c.stations c.numbers) (take c.stations c.homes) (take c.stations c.ups) (take c.stations c.order)

-- A table has for each station the place at which it stands in an order.
abbrev pub HasPlaces : List ℕ → List ℕ → Type 0
HasPlaces order places = (i : ℕ) → i < length order → slice_index places (slice_index order i) ≡ i

-- Numbers and an order can be judged for a site: there is a number for each station, and the order names each once.
pub record CanBeJudged (g : Site) (numbers order : List ℕ) : Type 0 where
  pub few : g.size ≤ 512
  pub numbered : length numbers ≡ g.size
  pub ordered : length order ≡ g.size
  pub each_once : EachOnce g order

-- A plan can be compared with a site: it is for as many stations, 1 to 512, and has the core numbers.
pub record CanBeCompared (g : Site) (p : Plan) : Type 0 where
  pub sized : sized g.size ≡ true
  pub counted : stations p ≡ g.size
  pub numbered : CoreNumbers g (slice_index p.numbers)
