-- The drawn order: the stations of a site as they are removed, those with the fewest neighbours left first.
use Rattle.std.specs.Prelude.{◌≡◌, ℕ, zero, suc, ◌<◌, ◌≤◌, true, not, ◌&&◌, ◌||◌, List, [], ◌∷◌, length, take, Some, None, Option, nat_le, slice_index}
use Rattle.cores.specs.Counting.{all, lowest, holds}
use Rattle.cores.specs.Site.{Site, EachOnce}
use Rattle.cores.specs.Numbers.{Group, hears, without, number}

-- is s in X, with no more neighbours in X than any other member
unfoldable pub has_fewest : Site → Group → Group
has_fewest g X s = X s && all g.size (λ t. not (X t) || nat_le (hears g X s) (hears g X t))

-- the station to be removed next from X: of those with the fewest neighbours left, the lowest
unfoldable pub next : Site → Group → Option ℕ
next g X = lowest g.size (has_fewest g X)

-- the stations of X as they are removed, i at most
unfoldable pub removed : Site → ℕ → Group → List ℕ
removed g zero X = []
removed g (suc i) X = elim (next g X) [ None ↦ [] | Some m ↦ m ∷ removed g i (without m X) ]

-- the drawn order
unfoldable pub drawn : Site → List ℕ
drawn g = removed g g.size (λ t. true)

-- the stations that are left when the first i of an order are gone
unfoldable pub left : List ℕ → ℕ → Group
left order i t = not (holds (take i order) t)

-- m is to be removed next from X: of the members with the fewest neighbours in X, it is the lowest.
pub record IsNext (g : Site) (X : Group) (m : ℕ) : Type 0 where
  pub on_site : m < g.size
  pub member : X m ≡ true
  pub fewest : (t : ℕ) → t < g.size → X t ≡ true → hears g X m ≤ hears g X t
  pub lowest : (t : ℕ) → t < g.size → X t ≡ true → hears g X t ≡ hears g X m → m ≤ t

-- An order is drawn: it names each station once, and at each place stands the one to be removed next from those that are left.
pub record IsDrawn (g : Site) (order : List ℕ) : Type 0 where
  pub each_once : EachOnce g order
  pub in_turn : (i : ℕ) → i < length order → IsNext g (left order i) (slice_index order i)

-- That holds of the drawn order and of no other list.
abbrev pub TheDrawnOrderRemovesTheFewestFirst : Type 0
TheDrawnOrderRemovesTheFewestFirst = (g : Site) → IsDrawn g (drawn g) × ((order : List ℕ) → IsDrawn g order → order ≡ drawn g)

-- how many neighbours the station at place i of an order has left as it is removed
unfoldable pub left_at : Site → List ℕ → ℕ → ℕ
left_at g order i = hears g (left order i) (slice_index order i)

-- The number of the station at a place of the drawn order is the greatest count of neighbours left that was met up to there.
pub record GreatestMet (f : ℕ → ℕ) (i k : ℕ) : Type 0 where
  pub met : (j : ℕ) × (j ≤ i) × (f j ≡ k)
  pub most : (j : ℕ) → j ≤ i → f j ≤ k

abbrev pub NumbersAreTheGreatestCountsMet : Type 0
NumbersAreTheGreatestCountsMet = (g : Site) (i : ℕ) → i < g.size → GreatestMet (left_at g (drawn g)) i (number g (slice_index (drawn g) i))
