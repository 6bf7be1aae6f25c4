-- Homes and ups by a table of numbers, whatever the numbers. By the core numbers they are those of the site.
use Rattle.std.specs.Prelude.{◌≡◌, ℕ, zero, suc, ◌<◌, Bool, true, cond, ◌&&◌, None, Option, ◌==◌, nat_le, nat_lt}
use Rattle.std.specs.Option.{unwrap_or}
use Rattle.cores.specs.Counting.{or_else, lowest}
use Rattle.cores.specs.Site.{Site, Lawful}
use Rattle.cores.specs.Numbers.{Group}
use Rattle.cores.specs.Homes.{HomeInWords, UpInWords}
use Rattle.cores.specs.Forest.{Chain, reaches, home, up}
use Rattle.cores.specs.Orders.{CoreNumbers}

-- the stations of the site that have k or more by the numbers c
unfoldable pub at_least : Site → (ℕ → ℕ) → ℕ → Group
at_least g c k t = nat_lt t g.size && nat_le k (c t)

-- are s and t connected by stations that have k or more
unfoldable pub connected_by : Site → (ℕ → ℕ) → ℕ → ℕ → ℕ → Bool
connected_by g c k s t = reaches g (at_least g c k) g.size s t

-- the lowest station of number k that is connected with s at k, if there is one
unfoldable pub core_home_by : Site → (ℕ → ℕ) → ℕ → ℕ → Option ℕ
core_home_by g c k s = lowest g.size (λ t. (c t == k) && connected_by g c k s t)

-- the home of s by the numbers c
unfoldable pub home_by : Site → (ℕ → ℕ) → ℕ → ℕ
home_by g c s = unwrap_or (core_home_by g c (c s) s) s

-- the home around s at the greatest level below k that has one
unfoldable pub home_below_by : Site → (ℕ → ℕ) → ℕ → ℕ → Option ℕ
home_below_by g c zero s = None
home_below_by g c (suc j) s = or_else (core_home_by g c j s) (home_below_by g c j s)

-- the up of s by the numbers c: only homes have ups
unfoldable pub up_by : Site → (ℕ → ℕ) → ℕ → Option ℕ
up_by g c s = cond (home_by g c s == s) (home_below_by g c (c s) s) None

-- Connected at k by the numbers c means that a chain of any length, of stations that have k or more, leads from one to the other.
abbrev pub ConnectedByNumbersMeansAChain : Type 0
ConnectedByNumbersMeansAChain = (g : Site) → Lawful g → (c : ℕ → ℕ) (k s t : ℕ)
    → (connected_by g c k s t ≡ true → Chain g (at_least g c k) s t) × (Chain g (at_least g c k) s t → connected_by g c k s t ≡ true)

-- What is said of the homes and ups of a site holds of those by any numbers, with cores by these numbers.
abbrev pub TheHomeByNumbersIsTheLowestOfItsCore : Type 0
TheHomeByNumbersIsTheLowestOfItsCore = (g : Site) → Lawful g → (c : ℕ → ℕ) (s : ℕ) → s < g.size → HomeInWords c (connected_by g c) (home_by g c) s

abbrev pub TheUpByNumbersIsTheNearestHomeBelow : Type 0
TheUpByNumbersIsTheNearestHomeBelow = (g : Site) → Lawful g → (c : ℕ → ℕ) (s : ℕ) → UpInWords c (connected_by g c) (home_by g c) (up_by g c) s

-- By the core numbers, homes and ups are those of the site.
abbrev pub ByCoreNumbersTheyAreThoseOfTheSite : Type 0
ByCoreNumbersTheyAreThoseOfTheSite = (g : Site) → Lawful g → (c : ℕ → ℕ) → CoreNumbers g c → (s : ℕ) → s < g.size
    → (home_by g c s ≡ home g s) × (up_by g c s ≡ up g s)
