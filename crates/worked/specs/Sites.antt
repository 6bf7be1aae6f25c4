-- Worked sites, and what the definitions give for each.
use Rattle.std.specs.Prelude.{◌≡◌, ℕ, true, false, List, [], ◌∷◌, map, Some, None, Option}
use Rattle.std.specs.List.{range_with_len}
use Rattle.cores.specs.Site.{Site, laid_out}
use Rattle.cores.specs.Numbers.{number}
use Rattle.cores.specs.Forest.{home, up}
use Rattle.cores.specs.Drawing.{drawn}
use Rattle.cores.specs.Links.{joined, parted, moves}

-- the site with each link of a list too
unfoldable pub joined_all : Site → List (ℕ × ℕ) → Site
joined_all g [] = g
joined_all g (l ∷ ls) = joined_all (joined g l.0 l.1) ls

-- what f gives for each station
abbrev pub each : {X : Type 0} → Site → (ℕ → X) → List X
each g f = map f (range_with_len 0 g.size)

-- The plan of a site: for each station its number, its home and its up, and the drawn order.
pub record PlanOf (g : Site) (numbers homes : List ℕ) (ups : List (Option ℕ)) (order : List ℕ) : Type 0 where
  pub numbered : each g (number g) ≡ numbers
  pub housed : each g (home g) ≡ homes
  pub raised : each g (up g) ≡ ups
  pub ordered : drawn g ≡ order

-- one station
abbrev pub OneStation : Type 0
OneStation = PlanOf (laid_out 1) (0 ∷ []) (0 ∷ []) (None ∷ []) (0 ∷ [])

-- four stations all linked, a triangle that one of them is linked to, and a station that hangs on the triangle
abbrev pub eight : Site
eight = joined_all (laid_out 8) ((0, 1) ∷ (0, 2) ∷ (0, 3) ∷ (1, 2) ∷ (1, 3) ∷ (2, 3) ∷ (3, 4) ∷ (4, 5) ∷ (4, 6) ∷ (5, 6) ∷ (6, 7) ∷ [])

abbrev pub EightStations : Type 0
EightStations = PlanOf eight
    (3 ∷ 3 ∷ 3 ∷ 3 ∷ 2 ∷ 2 ∷ 2 ∷ 1 ∷ [])
    (0 ∷ 0 ∷ 0 ∷ 0 ∷ 4 ∷ 4 ∷ 4 ∷ 7 ∷ [])
    (Some 4 ∷ None ∷ None ∷ None ∷ Some 7 ∷ None ∷ None ∷ None ∷ [])
    (7 ∷ 5 ∷ 6 ∷ 4 ∷ 0 ∷ 1 ∷ 2 ∷ 3 ∷ [])

-- two times four stations all linked, and a ninth that bridges them
abbrev pub bridge : Site
bridge = joined_all (laid_out 9) ((0, 1) ∷ (0, 2) ∷ (0, 3) ∷ (1, 2) ∷ (1, 3) ∷ (2, 3) ∷ (4, 5) ∷ (4, 6) ∷ (4, 7) ∷ (5, 6) ∷ (5, 7) ∷ (6, 7) ∷ (8, 3) ∷ (8, 4) ∷ [])

abbrev pub TwoCliquesAndABridge : Type 0
TwoCliquesAndABridge = PlanOf bridge
    (3 ∷ 3 ∷ 3 ∷ 3 ∷ 3 ∷ 3 ∷ 3 ∷ 3 ∷ 2 ∷ [])
    (0 ∷ 0 ∷ 0 ∷ 0 ∷ 4 ∷ 4 ∷ 4 ∷ 4 ∷ 8 ∷ [])
    (Some 8 ∷ None ∷ None ∷ None ∷ Some 8 ∷ None ∷ None ∷ None ∷ None ∷ [])
    (8 ∷ 0 ∷ 1 ∷ 2 ∷ 3 ∷ 4 ∷ 5 ∷ 6 ∷ 7 ∷ [])

-- With a link between 5 and 7, station 7 moves and no other.
pub record OneLinkMore : Type 0 where
  pub moved : each eight (moves eight (joined eight 5 7)) ≡ false ∷ false ∷ false ∷ false ∷ false ∷ false ∷ false ∷ true ∷ []
  pub plan : PlanOf (joined eight 5 7)
      (3 ∷ 3 ∷ 3 ∷ 3 ∷ 2 ∷ 2 ∷ 2 ∷ 2 ∷ [])
      (0 ∷ 0 ∷ 0 ∷ 0 ∷ 4 ∷ 4 ∷ 4 ∷ 4 ∷ [])
      (Some 4 ∷ None ∷ None ∷ None ∷ None ∷ None ∷ None ∷ None ∷ [])
      (7 ∷ 5 ∷ 6 ∷ 4 ∷ 0 ∷ 1 ∷ 2 ∷ 3 ∷ [])

-- Without the link between 0 and 1, stations 0 to 3 move and no other.
pub record OneLinkLess : Type 0 where
  pub moved : each eight (moves eight (parted eight 0 1)) ≡ true ∷ true ∷ true ∷ true ∷ false ∷ false ∷ false ∷ false ∷ []
  pub plan : PlanOf (parted eight 0 1)
      (2 ∷ 2 ∷ 2 ∷ 2 ∷ 2 ∷ 2 ∷ 2 ∷ 1 ∷ [])
      (0 ∷ 0 ∷ 0 ∷ 0 ∷ 0 ∷ 0 ∷ 0 ∷ 7 ∷ [])
      (Some 7 ∷ None ∷ None ∷ None ∷ None ∷ None ∷ None ∷ None ∷ [])
      (7 ∷ 0 ∷ 1 ∷ 2 ∷ 3 ∷ 4 ∷ 5 ∷ 6 ∷ [])
