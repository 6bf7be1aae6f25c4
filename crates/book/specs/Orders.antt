-- The places at which stations stand in an order. Assumes nothing.
use Rattle.std.specs.Prelude.{◌≡◌, ◌≢◌, ℕ, ◌<◌, ◌≤◌, Bool, true, List, nat_lt, count_by, length, slice_index}

-- The places of 512 stations, which are from a first to a last one, and no two stations have one.
pub record Apart (p : List ℕ) (first last : ℕ) : Type 0 where
  pub all : length p ≡ 512
  pub fits : last < 65536
  pub within : (t : ℕ) → t < 512 → (first ≤ slice_index p t) × (slice_index p t ≤ last)
  pub own : (t u : ℕ) → t < 512 → u < 512 → slice_index p t ≡ slice_index p u → t ≡ u

-- The stations keep their order: who stands no further back than another did so before.
abbrev pub Kept : List ℕ → List ℕ → Type 0
Kept old new = (t u : ℕ) → t < 512 → u < 512 → slice_index new t ≤ slice_index new u → slice_index old t ≤ slice_index old u

-- All stations but s keep their order.
abbrev pub KeptBut : ℕ → List ℕ → List ℕ → Type 0
KeptBut s old new = (t u : ℕ) → t < 512 → u < 512 → (t ≢ s) → (u ≢ s) → slice_index new t ≤ slice_index new u → slice_index old t ≤ slice_index old u

-- how many places are lower than one
abbrev pub lower : List ℕ → ℕ → ℕ
lower p place = count_by (λ other. nat_lt other place) p

-- s comes ahead of all others, and they keep their order.
abbrev pub PutFirst : ℕ → List ℕ → List ℕ → Type 0
PutFirst s old new = KeptBut s old new × ((t : ℕ) → t < 512 → (t ≢ s) → slice_index new s < slice_index new t)

-- s comes behind all others, and they keep their order.
abbrev pub PutLast : ℕ → List ℕ → List ℕ → Type 0
PutLast s old new = KeptBut s old new × ((t : ℕ) → t < 512 → (t ≢ s) → slice_index new t < slice_index new s)

-- Those that M takes come ahead of all others, and both keep their order.
abbrev pub Forward : (ℕ → Bool) → List ℕ → List ℕ → Type 0
Forward M old new = (s t : ℕ) → s < 512 → t < 512 → slice_index new s ≤ slice_index new t
    → (M t ≡ true → M s ≡ true) × (M s ≡ M t → slice_index old s ≤ slice_index old t)

-- Stations with the one at the greatest place first.
abbrev pub LastFirst : List ℕ → List ℕ → Type 0
LastFirst p stations = (i j : ℕ) → i ≤ j → j < length stations → slice_index p (slice_index stations j) ≤ slice_index p (slice_index stations i)
