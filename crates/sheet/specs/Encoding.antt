-- From a plan to the bytes of its sheet. Assumes nothing.
use Rattle.std.specs.Prelude.{◌≡◌, ℕ, ◌+◌, ◌*◌, ◌<◌, ◌≤◌, All, Bool, true, cond, not, List, [], ◌∷◌, ◌++◌, length, is_some, Some, None, Option, ◌==◌}
use Rattle.std.specs.Int.{w16, to_le_bytes}
use Rattle.std.specs.List.{flat_map, range_with_len}
use Rattle.cores.specs.Counting.{bit}
use Rattle.cores.specs.Site.{sized}
use Rattle.sheet.specs.declared.entry.Entry.{Entry}
use Rattle.sheet.specs.declared.entry.Present.{Present}
use Rattle.sheet.specs.Plans.{Plan, WellFormed, stations, entry}

-- a field: two bytes, the low one first
unfoldable pub field : ℕ → List ℕ
field v = to_le_bytes w16 v

-- a field that may be left out
unfoldable pub field_if : Bool → ℕ → List ℕ
field_if present v = cond present (field v) []

-- the field of an up
unfoldable pub up_field : Option ℕ → List ℕ
up_field None = []
up_field (Some u) = field u

-- which fields are present for station s: a number unless it is 0, a home unless it is s itself, an up if there is one
abbrev pub present : ℕ → Entry → Present
present s e = record { number = not (e.number == 0); home = not (e.home == s); up = is_some e.up }

-- the map byte: bits 0, 1 and 2 say which fields are present
unfoldable pub map_byte : Present → ℕ
map_byte has = bit has.number + 2 * bit has.home + 4 * bit has.up

-- station s on a sheet: its map byte and the fields that are present
unfoldable pub entry_bytes : ℕ → Entry → List ℕ
entry_bytes s e = let has = present s e in map_byte has ∷ (field_if has.number e.number ++ (field_if has.home e.home ++ up_field e.up))

-- all stations of a plan on a sheet, from 0
unfoldable pub station_bytes : Plan → List ℕ
station_bytes p = flat_map (λ s. entry_bytes s (entry p s)) (range_with_len 0 (stations p))

-- the sheet of a plan: the station count, the stations, and the order, which ends it
unfoldable pub encode : Plan → List ℕ
encode p = field (stations p) ++ (station_bytes p ++ flat_map field p.order)

-- A sheet is bytes.
abbrev pub ASheetIsBytes : Type 0
ASheetIsBytes = (p : Plan) → All (λ b. b < 256) (encode p)

-- A plan of n stations whose sheet has so many bytes.
abbrev pub HasSheetOf : ℕ → ℕ → Type 0
HasSheetOf n long = (p : Plan) × WellFormed p × (stations p ≡ n) × (length (encode p) ≡ long)

-- A sheet of n stations has 3n + 2 to 7n + 2 bytes; there are sheets of 3n + 2 bytes, and from two stations on of 7n + 2.
pub record SheetLengths (n : ℕ) : Type 0 where
  pub at_least : (p : Plan) → WellFormed p → stations p ≡ n → 3 * n + 2 ≤ length (encode p)
  pub at_most : (p : Plan) → WellFormed p → stations p ≡ n → length (encode p) ≤ 7 * n + 2
  pub shortest : sized n ≡ true → HasSheetOf n (3 * n + 2)
  pub longest : sized n ≡ true → 2 ≤ n → HasSheetOf n (7 * n + 2)

abbrev pub TheLengthsOfSheets : Type 0
TheLengthsOfSheets = (n : ℕ) → SheetLengths n
