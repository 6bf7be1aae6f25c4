-- Groups of stations, core sets, and the number of a station.
use Rattle.std.specs.Prelude.{◌≡◌, ℕ, zero, suc, ◌<◌, ◌≤◌, Bool, true, false, not, ◌&&◌, ◌||◌, ◌==◌, nat_le}
use Rattle.cores.specs.Counting.{count, all, greatest}
use Rattle.cores.specs.Site.{Site, Lawful}

-- A group is any set of stations, given by a test.
abbrev pub Group : Type 0
Group = ℕ → Bool

-- how many members of the group X the station s hears: a station hears its neighbours
unfoldable pub hears : Site → Group → ℕ → ℕ
hears g X s = count g.size (λ t. g.linked s t && X t)

-- is X steady at k: every member hears at least k members
unfoldable pub steady : Site → ℕ → Group → Bool
steady g k X = all g.size (λ s. not (X s) || nat_le k (hears g X s))

-- the group X, and the station m too
unfoldable pub including : ℕ → Group → Group
including m X t = t == m || X t

-- the group X without the station m
unfoldable pub without : ℕ → Group → Group
without m X t = X t && not (t == m)

-- does some group of stations below n pass P
unfoldable pub some_group : ℕ → (Group → Bool) → Bool
some_group zero P = P (λ t. false)
some_group (suc n) P = some_group n P || some_group n (λ X. P (including n X))

-- is s in the k-core set: some group holds it and is steady at k
unfoldable pub in_core : Site → ℕ → Group
in_core g k s = some_group g.size (λ X. X s && steady g k X)

-- the number of s: the greatest k whose k-core set holds it
unfoldable pub number : Site → ℕ → ℕ
number g s = greatest g.size (λ k. in_core g k s)

-- The search finds a group of stations below n that passes, exactly if there is one.
abbrev pub TheSearchTriesEveryGroup : Type 0
TheSearchTriesEveryGroup = (n : ℕ) (P : Group → Bool)
    → (some_group n P ≡ true → (X : Group) × ((t : ℕ) → X t ≡ true → t < n) × (P X ≡ true))
    × ((X : Group) → ((t : ℕ) → X t ≡ true → t < n) → P X ≡ true → some_group n P ≡ true)

-- X is a group of stations of the site, and every member hears at least k members.
pub record IsSteady (g : Site) (k : ℕ) (X : Group) : Type 0 where
  pub on_site : (s : ℕ) → X s ≡ true → s < g.size
  pub heard : (s : ℕ) → X s ≡ true → k ≤ hears g X s

-- The k-core set is the largest steady group: it is steady at k, and holds every group that is.
abbrev pub TheCoreSetIsTheLargestSteadyGroup : Type 0
TheCoreSetIsTheLargestSteadyGroup = (g : Site) (k : ℕ)
    → IsSteady g k (in_core g k) × ((X : Group) → IsSteady g k X → (s : ℕ) → X s ≡ true → in_core g k s ≡ true)

-- Every station is in the 0-core set, and a core set lies in each lower one.
abbrev pub CoreSetsAreNested : Type 0
CoreSetsAreNested = (g : Site) (s : ℕ)
    → (s < g.size → in_core g 0 s ≡ true) × ((j k : ℕ) → j ≤ k → in_core g k s ≡ true → in_core g j s ≡ true)

-- k is the greatest for which some group holds s and lets every member hear at least k others of the group.
abbrev pub IsGreatest : Site → ℕ → ℕ → Type 0
IsGreatest g s k = ((X : Group) × (X s ≡ true) × IsSteady g k X) × ((j : ℕ) (X : Group) → X s ≡ true → IsSteady g j X → j ≤ k)

-- The number of a station is that greatest k.
abbrev pub TheNumberIsTheGreatest : Type 0
TheNumberIsTheGreatest = (g : Site) (s : ℕ) → s < g.size → IsGreatest g s (number g s)

-- The k-core set is all stations of number k or more.
abbrev pub TheCoreSetIsByNumber : Type 0
TheCoreSetIsByNumber = (g : Site) (k s : ℕ) → s < g.size → in_core g k s ≡ nat_le k (number g s)

-- A number is below the station count.
abbrev pub NumbersAreBelowTheSize : Type 0
NumbersAreBelowTheSize = (g : Site) → Lawful g → (s : ℕ) → s < g.size → number g s < g.size
