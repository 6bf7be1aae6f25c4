-- Rows of bits in words: what `Grid` tests, said without tests. Assumes nothing.
use Rattle.std.specs.Prelude.{◌≡◌, ℕ, ◌*◌, ◌<◌, ◌≤◌, true, length, Result}
use Rattle.refusals.specs.declared.Refusal.{Refusal}
use Rattle.view.specs.Grid.{Bitmap, row_length, cell}
use Rattle.view.specs.Tables.{VerdictBy}

-- The bit t of row s is for another station of the site, which has s in return.
pub record Bit (b : Bitmap) (s t : ℕ) : Type 0 where
  pub other : t ≡ s → ⊥
  pub on_site : t < b.stations
  pub in_return : cell b t s ≡ true

-- Each bit of a row that is set is for such a station; a spare bit is for none, so none is set.
abbrev pub GoodRow : Bitmap → ℕ → Type 0
GoodRow b s = (t : ℕ) → t < 8 * row_length b.stations → cell b s t ≡ true → Bit b s t

-- The station count is 1 to 512, and there are as many bytes as the rows take.
abbrev pub WellShaped : Bitmap → Type 0
WellShaped b = (1 ≤ b.stations) × (b.stations ≤ 512) × (length b.bytes ≡ b.stations * row_length b.stations)

-- the verdict on rows of bits, in words
abbrev pub Verdict : Bitmap → Result (Unit {0}) Refusal → Type 0
Verdict b = VerdictBy (WellShaped b) b.stations (GoodRow b)
