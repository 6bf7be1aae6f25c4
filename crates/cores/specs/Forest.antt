-- Connected cores, and the forest that they make: the home and the up of a station.
use Rattle.std.specs.Prelude.{◌≡◌, ℕ, zero, suc, ◌<◌, Bool, true, cond, ◌&&◌, ◌||◌, None, Option, ◌==◌}
use Rattle.std.specs.Option.{unwrap_or}
use Rattle.cores.specs.Counting.{some, or_else, lowest}
use Rattle.cores.specs.Site.{Site, Lawful}
use Rattle.cores.specs.Numbers.{Group, in_core, number}
use Rattle.cores.specs.Homes.{HomeInWords, UpInWords}

-- Chain g X s t: links between members of X lead from s to t, over any number of members.
pub data Chain (g : Site) (X : Group) (s : ℕ) : ℕ → Type 0 where
  start : X s ≡ true → Chain g X s s
  step : {t u : ℕ} → Chain g X s t → g.linked t u ≡ true → X u ≡ true → Chain g X s u

-- does a chain of at most i links inside X lead from s to t
unfoldable pub reaches : Site → Group → ℕ → ℕ → ℕ → Bool
reaches g X zero s t = X t && s == t
reaches g X (suc i) s t = reaches g X i s t || (X t && some g.size (λ u. g.linked u t && reaches g X i s u))

-- are s and t connected at k: in one k-core, which is a connected part of the k-core set
unfoldable pub connected : Site → ℕ → ℕ → ℕ → Bool
connected g k s t = reaches g (in_core g k) g.size s t

-- the home of the k-core around s: its lowest station of number k, if it has one
unfoldable pub core_home : Site → ℕ → ℕ → Option ℕ
core_home g k s = lowest g.size (λ t. (number g t == k) && connected g k s t)

-- the home of s: that of the core around it at its own number
unfoldable pub home : Site → ℕ → ℕ
home g s = unwrap_or (core_home g (number g s) s) s

-- the home of the j-core around s for the greatest j < k where that j-core has one
unfoldable pub home_below : Site → ℕ → ℕ → Option ℕ
home_below g zero s = None
home_below g (suc j) s = or_else (core_home g j s) (home_below g j s)

-- the up of s: only homes have ups
unfoldable pub up : Site → ℕ → Option ℕ
up g s = cond (home g s == s) (home_below g (number g s) s) None

-- Connected at k means that a chain of any length inside the k-core set leads from one to the other.
abbrev pub ConnectedMeansAChain : Type 0
ConnectedMeansAChain = (g : Site) → Lawful g → (k s t : ℕ)
    → (connected g k s t ≡ true → Chain g (in_core g k) s t) × (Chain g (in_core g k) s t → connected g k s t ≡ true)

-- Connected at k parts the k-core set: each member is connected to itself, and it goes both ways and carries over.
pub record Parts (g : Site) (k : ℕ) : Type 0 where
  pub inside : (s t : ℕ) → connected g k s t ≡ true → (in_core g k s ≡ true) × (in_core g k t ≡ true)
  pub itself : (s : ℕ) → in_core g k s ≡ true → connected g k s s ≡ true
  pub back : (s t : ℕ) → connected g k s t ≡ true → connected g k t s ≡ true
  pub onward : (s t u : ℕ) → connected g k s t ≡ true → connected g k t u ≡ true → connected g k s u ≡ true

abbrev pub ConnectedCoresPartTheCoreSet : Type 0
ConnectedCoresPartTheCoreSet = (g : Site) → Lawful g → (k : ℕ) → Parts g k

-- The home, and no other station, is the lowest of its number in the connected core of a station, and its own home.
abbrev pub TheHomeIsTheLowestOfItsCore : Type 0
TheHomeIsTheLowestOfItsCore = (g : Site) → Lawful g → (s : ℕ) → s < g.size → HomeInWords (number g) (connected g) (home g) s

-- The up of a home, and no other station, is the home of the nearest core around it that has one.
abbrev pub TheUpIsTheNearestHomeBelow : Type 0
TheUpIsTheNearestHomeBelow = (g : Site) → Lawful g → (s : ℕ) → UpInWords (number g) (connected g) (home g) (up g) s
