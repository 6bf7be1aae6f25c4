-- What the definitions say, in words. Each law stands on the contract of a function of `laws`.
use Rattle.std.specs.Prelude.{◌≡◌, ℕ, ◌*◌, ◌<◌, Bool, true, false, Some, None, Option}
use Rattle.cores.specs.Counting.{count, total, lowest}
use Rattle.cores.specs.Site.{Site, Lawful, link_count}

-- The lowest that passes is below n, passes, and none below it does; where there is none, no number below n passes.
abbrev pub Found : ℕ → (ℕ → Bool) → Option ℕ → Type 0
Found n p (Some k) = (k < n) × (p k ≡ true) × ((t : ℕ) → t < k → p t ≡ false)
Found n p None = (t : ℕ) → t < n → p t ≡ false

abbrev pub TheLowestIsTheFirstThatPasses : Type 0
TheLowestIsTheFirstThatPasses = (n : ℕ) (p : ℕ → Bool) → Found n p (lowest n p)

-- The neighbour counts of all stations add up to twice the links.
abbrev pub EachLinkHasTwoEnds : Type 0
EachLinkHasTwoEnds = (g : Site) → Lawful g → total g.size (λ s. count g.size (g.linked s)) ≡ 2 * link_count g
