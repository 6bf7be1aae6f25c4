-- Rightful orders, and when a station is at fault for given numbers and a given order.
use Rattle.std.specs.Prelude.{◌≡◌, ℕ, suc, ◌<◌, ◌≤◌, Bool, true, false, cond, not, ◌&&◌, ◌||◌, leb, List, [], ◌∷◌, ◌++◌, length, drop, ◌==◌, nat_le, nat_lt, slice_index}
use Rattle.cores.specs.Counting.{holds}
use Rattle.cores.specs.Site.{Site, Lawful, EachOnce}
use Rattle.cores.specs.Numbers.{hears, number}
use Rattle.cores.specs.Drawing.{drawn}

-- does the first of some stations carry less than s, by the numbers c
unfoldable pub falls : (ℕ → ℕ) → ℕ → List ℕ → Bool
falls c s [] = false
falls c s (t ∷ later) = nat_lt (c t) (c s)

-- is an order rightful for the numbers c: they never fall along it, and no station has more neighbours after it than its number
unfoldable pub rightful : Site → (ℕ → ℕ) → List ℕ → Bool
rightful g c [] = true
rightful g c (s ∷ later) = not (falls c s later) && nat_le (hears g (holds later) s) (c s) && rightful g c later

-- what comes after s in an order
unfoldable pub after : ℕ → List ℕ → List ℕ
after s [] = []
after s (t ∷ later) = cond (s == t) later (after s later)

-- is s at fault for the numbers c and an order: fewer than its number of neighbours carry at least its number,
-- more neighbours than its number come after it, or the next station in the order carries less
unfoldable pub at_fault : Site → (ℕ → ℕ) → List ℕ → ℕ → Bool
at_fault g c order s =
    nat_lt (hears g (λ t. leb (c s) (c t)) s) (c s)
    || nat_lt (c s) (hears g (holds (after s order)) s)
    || falls c s (after s order)

-- A rightful order in words, place by place.
pub record IsRightful (g : Site) (c : ℕ → ℕ) (order : List ℕ) : Type 0 where
  pub never_falls : (i : ℕ) → suc i < length order → c (slice_index order i) ≤ c (slice_index order (suc i))
  pub few_after : (i : ℕ) → i < length order → hears g (holds (drop (suc i) order)) (slice_index order i) ≤ c (slice_index order i)

abbrev pub RightfulHoldsAtEachPlace : Type 0
RightfulHoldsAtEachPlace = (g : Site) (c : ℕ → ℕ) (order : List ℕ)
    → (rightful g c order ≡ true → IsRightful g c order) × (IsRightful g c order → rightful g c order ≡ true)

-- The drawn order is rightful for the core numbers.
abbrev pub TheDrawnOrderIsRightful : Type 0
TheDrawnOrderIsRightful = (g : Site) → rightful g (number g) (drawn g) ≡ true

-- An order that holds s is what stands before its first place, s itself, and what comes after s.
abbrev pub AfterIsTheRestBehind : Type 0
AfterIsTheRestBehind = (s : ℕ) (order : List ℕ) → holds order s ≡ true
    → (front : List ℕ) × (holds front s ≡ false) × (order ≡ front ++ (s ∷ after s order))

-- The station s, at place i of an order, is without fault: at least its number of neighbours carry at least its number,
-- at most its number of neighbours stand at later places, and the station at the next place does not carry less.
pub record WithoutFault (g : Site) (c : ℕ → ℕ) (order : List ℕ) (i s : ℕ) : Type 0 where
  pub supported : c s ≤ hears g (λ t. leb (c s) (c t)) s
  pub few_after : hears g (holds (drop (suc i) order)) s ≤ c s
  pub rises : suc i < length order → c s ≤ c (slice_index order (suc i))

-- That is so exactly for the stations that are not at fault.
abbrev pub AtFaultIsJudgedAtItsPlace : Type 0
AtFaultIsJudgedAtItsPlace = (g : Site) (c : ℕ → ℕ) (order : List ℕ) → EachOnce g order → (i : ℕ) → i < length order
    → (at_fault g c order (slice_index order i) ≡ false → WithoutFault g c order i (slice_index order i))
    × (WithoutFault g c order i (slice_index order i) → at_fault g c order (slice_index order i) ≡ false)

-- the numbers c are the core numbers of the site
abbrev pub CoreNumbers : Site → (ℕ → ℕ) → Type 0
CoreNumbers g c = (s : ℕ) → s < g.size → c s ≡ number g s

-- no station of the site is at fault
abbrev pub Faultless : Site → (ℕ → ℕ) → List ℕ → Type 0
Faultless g c order = (s : ℕ) → s < g.size → at_fault g c order s ≡ false

-- Of numbers and an order that names each station once, no station is at fault exactly if
-- the numbers are the core numbers and the order is rightful for them.
abbrev pub FaultlessMeansCoreNumbersInARightfulOrder : Type 0
FaultlessMeansCoreNumbersInARightfulOrder = (g : Site) → Lawful g → (c : ℕ → ℕ) (order : List ℕ) → EachOnce g order
    → (Faultless g c order → CoreNumbers g c × (rightful g c order ≡ true))
    × (CoreNumbers g c → rightful g c order ≡ true → Faultless g c order)
