-- A table of links in words: what `Listing` tests, said without tests. Assumes nothing.
use Rattle.std.specs.Prelude.{◌≡◌, ℕ, ◌+◌, ◌-◌, ◌<◌, ◌≤◌, true, length, Ok, Err, Result, slice_index, slice_index_or}
use Rattle.refusals.specs.declared.TableFault.{TableFault}
use Rattle.refusals.specs.declared.TableFault.TheVariants.{Shape as BadShape, Row as BadRow}
use Rattle.refusals.specs.declared.Refusal.{Refusal}
use Rattle.refusals.specs.declared.Refusal.TheVariants.{UnlawfulTable}
use Rattle.cores.specs.Counting.{holds}
use Rattle.view.specs.Listing.{Lists, stations, row}

-- The starts cut the ends into rows.
pub record Shape (l : Lists) : Type 0 where
  pub some_start : 0 < length l.starts
  pub first : slice_index_or l.starts 0 0 ≡ 0
  pub never_fall : (s : ℕ) → s < stations l → slice_index l.starts s ≤ slice_index l.starts (s + 1)
  pub last : slice_index_or l.starts (stations l) 0 ≡ length l.ends

-- The entry t at a place of the row of s is another station of the site, above the entry before it, and lists s in return.
pub record Entry (l : Lists) (s place t : ℕ) : Type 0 where
  pub other : t ≡ s → ⊥
  pub on_site : t < stations l
  pub above : 0 < place → slice_index (row l s) (place - 1) < t
  pub in_return : holds (row l t) s ≡ true

-- Every entry of a row is as it should be.
abbrev pub GoodRow : Lists → ℕ → Type 0
GoodRow l s = (place : ℕ) → place < length (row l s) → Entry l s place (slice_index (row l s) place)

-- The station count is 1 to 512, and the starts cut the ends into rows.
abbrev pub WellShaped : Lists → Type 0
WellShaped l = (1 ≤ stations l) × (stations l ≤ 512) × Shape l

-- A fault in words: of the shape, or of the lowest row that is not good.
abbrev pub FaultBy : Type 0 → ℕ → (ℕ → Type 0) → TableFault → Type 0
FaultBy Shaped n Good BadShape = Shaped → ⊥
FaultBy Shaped n Good (BadRow r) = Shaped × (r < n) × (Good r → ⊥) × ((s : ℕ) → s < r → Good s)

-- A verdict in words: a table passes if it is well shaped and every row is good, and else is refused for a fault that it has.
abbrev pub VerdictBy : Type 0 → ℕ → (ℕ → Type 0) → Result (Unit {0}) Refusal → Type 0
VerdictBy Shaped n Good (Ok u) = Shaped × ((s : ℕ) → s < n → Good s)
VerdictBy Shaped n Good (Err e) = (fault : TableFault) × (e ≡ UnlawfulTable fault) × FaultBy Shaped n Good fault

-- the verdict on two lists, in words
abbrev pub Verdict : Lists → Result (Unit {0}) Refusal → Type 0
Verdict l = VerdictBy (WellShaped l) (stations l) (GoodRow l)
