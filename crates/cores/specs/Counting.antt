-- Tests of the numbers below n, and numbers that a list holds. Assumes nothing.
use Rattle.std.specs.Prelude.{◌≡◌, ℕ, zero, suc, ◌+◌, ◌<◌, ◌≤◌, Bool, true, false, cond, ◌&&◌, ◌||◌, List, map, length, Some, None, sum, count_by, filter, Option, nat_eq, nat_lt, slice_index}
use Rattle.std.specs.List.{range_with_len}

-- a test as a number
unfoldable pub bit : Bool → ℕ
bit true = 1
bit false = 0

-- how many t < n pass p
unfoldable pub count : ℕ → (ℕ → Bool) → ℕ
count zero p = 0
count (suc n) p = count n p + bit (p n)

-- the sum of f t over the t < n
unfoldable pub total : ℕ → (ℕ → ℕ) → ℕ
total zero f = 0
total (suc n) f = total n f + f n

-- do all t < n pass p
unfoldable pub all : ℕ → (ℕ → Bool) → Bool
all zero p = true
all (suc n) p = all n p && p n

-- does some t < n pass p
unfoldable pub some : ℕ → (ℕ → Bool) → Bool
some zero p = false
some (suc n) p = some n p || p n

-- the first answer, or else the second
abbrev pub or_else : Option ℕ → Option ℕ → Option ℕ
or_else (Some t) o = Some t
or_else None o = o

-- the lowest t < n that passes p, if any does
unfoldable pub lowest : ℕ → (ℕ → Bool) → Option ℕ
lowest zero p = None
lowest (suc n) p = or_else (lowest n p) (cond (p n) (Some n) None)

-- the greatest k ≤ n that passes p, or 0
unfoldable pub greatest : ℕ → (ℕ → Bool) → ℕ
greatest zero p = 0
greatest (suc n) p = cond (p (suc n)) (suc n) (greatest n p)

-- how often t stands in a list
unfoldable pub times : ℕ → List ℕ → ℕ
times t xs = count_by (nat_eq t) xs

-- does t stand in a list
unfoldable pub holds : List ℕ → ℕ → Bool
holds xs t = nat_lt 0 (times t xs)

-- All pass if each does, and some if one does.
pub record LooksAtEach (n : ℕ) (p : ℕ → Bool) : Type 0 where
  pub each : all n p ≡ true → (t : ℕ) → t < n → p t ≡ true
  pub every : ((t : ℕ) → t < n → p t ≡ true) → all n p ≡ true
  pub one : some n p ≡ true → (t : ℕ) × (t < n) × (p t ≡ true)
  pub any : (t : ℕ) → t < n → p t ≡ true → some n p ≡ true

abbrev pub AllAndSomeLookAtEach : Type 0
AllAndSomeLookAtEach = (n : ℕ) (p : ℕ → Bool) → LooksAtEach n p

-- As many are counted as are kept of the numbers below n.
abbrev pub ACountIsHowManyPass : Type 0
ACountIsHowManyPass = (n : ℕ) (p : ℕ → Bool) → count n p ≡ length (filter p (range_with_len 0 n))

-- A total is the sum of the list of f 0, f 1 and so on.
abbrev pub ATotalIsTheSumOfAll : Type 0
ATotalIsTheSumOfAll = (n : ℕ) (f : ℕ → ℕ) → total n f ≡ sum (map f (range_with_len 0 n))

-- A list holds t if t stands at some place, and otherwise not.
abbrev pub AListHoldsWhatStandsInIt : Type 0
AListHoldsWhatStandsInIt = (xs : List ℕ) (t : ℕ)
    → (holds xs t ≡ true → (i : ℕ) × (i < length xs) × (slice_index xs i ≡ t)) × ((i : ℕ) → i < length xs → slice_index xs i ≡ t → holds xs t ≡ true)

-- Where 0 passes, the greatest passes, is at most n, and none of the others up to n that pass is greater.
abbrev pub TheGreatestIsTheLastThatPasses : Type 0
TheGreatestIsTheLastThatPasses = (n : ℕ) (p : ℕ → Bool) → p 0 ≡ true
    → (greatest n p ≤ n) × (p (greatest n p) ≡ true) × ((k : ℕ) → k ≤ n → p k ≡ true → k ≤ greatest n p)
