-- One link more, one link less, and which stations move.
use Rattle.std.specs.Prelude.{◌≡◌, ℕ, ◌+◌, ◌<◌, min, Bool, true, false, not, ◌&&◌, ◌||◌, ◌⊎◌, ◌==◌, ◌≢◌}
use Rattle.cores.specs.Site.{Site, Lawful}
use Rattle.cores.specs.Numbers.{Group, number}
use Rattle.cores.specs.Forest.{Chain}

-- are s and t the ends a and b, in either order
unfoldable pub ends : ℕ → ℕ → ℕ → ℕ → Bool
ends a b s t = (s == a && t == b) || (s == b && t == a)

-- the site with the link between a and b too
unfoldable pub joined : Site → ℕ → ℕ → Site
joined g a b = record { size = g.size; linked = λ s t. g.linked s t || ends a b s t }

-- the site without the link between a and b
unfoldable pub parted : Site → ℕ → ℕ → Site
parted g a b = record { size = g.size; linked = λ s t. g.linked s t && not (ends a b s t) }

-- does s move: has it another number on the new site than on the old one
unfoldable pub moves : Site → Site → Group
moves old new s = not (number old s == number new s)

-- Moving is having another number.
abbrev pub MovingIsHavingAnotherNumber : Type 0
MovingIsHavingAnotherNumber = (old new : Site) (s : ℕ)
    → (moves old new s ≡ true → number new s ≢ number old s) × ((number new s ≢ number old s) → moves old new s ≡ true)

-- A station s that moves had the smaller of the two ends' numbers, and hangs on a moved end:
-- a chain of moved stations that does not use the link between a and b leads from s to a or to b.
pub record Moved (old new : Site) (a b s : ℕ) : Type 0 where
  pub smaller : number old s ≡ min (number old a) (number old b)
  pub hangs : (end : ℕ) × ((end ≡ a) ⊎ (end ≡ b)) × Chain (parted old a b) (moves old new) s end

-- A station keeps its number, or it goes up by one and moves as said.
abbrev pub MovesUp : Site → Site → ℕ → ℕ → Type 0
MovesUp old new a b = (s : ℕ) → s < old.size → (number new s ≡ number old s) ⊎ ((number new s ≡ number old s + 1) × Moved old new a b s)

-- A station keeps its number, or it goes down by one and moves as said.
abbrev pub MovesDown : Site → Site → ℕ → ℕ → Type 0
MovesDown old new a b = (s : ℕ) → s < old.size → (number new s ≡ number old s) ⊎ ((number old s ≡ number new s + 1) × Moved old new a b s)

-- With one link more, stations move up.
abbrev pub OneLinkMoreLiftsByOne : Type 0
OneLinkMoreLiftsByOne = (g : Site) → Lawful g → (a b : ℕ) → a < g.size → b < g.size → (a ≢ b) → g.linked a b ≡ false
    → MovesUp g (joined g a b) a b

-- With one link less, stations move down.
abbrev pub OneLinkLessLowersByOne : Type 0
OneLinkLessLowersByOne = (g : Site) → Lawful g → (a b : ℕ) → g.linked a b ≡ true → MovesDown g (parted g a b) a b

-- A lawful site stays lawful.
abbrev pub OneLinkMoreOrLessIsLawful : Type 0
OneLinkMoreOrLessIsLawful = (g : Site) → Lawful g → (a b : ℕ)
    → (a < g.size → b < g.size → (a ≢ b) → Lawful (joined g a b)) × Lawful (parted g a b)

-- What is set is taken away again, and what is taken away is set again.
abbrev pub OneLinkMoreAndLessUndoEachOther : Type 0
OneLinkMoreAndLessUndoEachOther = (g : Site) → Lawful g → (a b : ℕ)
    → (g.linked a b ≡ false → parted (joined g a b) a b ≡ g) × (g.linked a b ≡ true → joined (parted g a b) a b ≡ g)
