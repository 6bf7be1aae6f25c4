-- Where bytes are no sheet, in words. Assumes nothing.
use Rattle.std.specs.Prelude.{◌≡◌, ◌≢◌, ℕ, ◌+◌, ◌<◌, ◌≤◌, All, Bool, cond, List, [], ◌∷◌, ◌++◌, map, length, take, sum, Err, slice_index_or}
use Rattle.std.specs.List.{flat_map, range_with_len}
use Rattle.sheet.specs.declared.entry.Entry.{Entry}
use Rattle.sheet.specs.Plans.{Plan, WellFormed, stations, entry}
use Rattle.sheet.specs.Encoding.{field, present, encode}
use Rattle.sheet.specs.Decoding.{decode}

-- how many bytes the fields for station s have: a map byte is one, each other field two
abbrev pub width_if : Bool → List ℕ
width_if present = cond present (2 ∷ []) []

unfoldable pub entry_widths : ℕ → Entry → List ℕ
entry_widths s e = let has = present s e in 1 ∷ (width_if has.number ++ (width_if has.home ++ width_if has.up))

-- how many bytes the fields of a sheet have, from the left
unfoldable pub widths : Plan → List ℕ
widths p = 2 ∷ (flat_map (λ s. entry_widths s (entry p s)) (range_with_len 0 (stations p)) ++ map (λ t. 2) p.order)

-- where field i of a sheet begins, and how many bytes it has; behind the last field of a sheet, one byte more would be a field at fault
abbrev pub field_start : Plan → ℕ → ℕ
field_start p i = sum (take i (widths p))

abbrev pub field_width : Plan → ℕ → ℕ
field_width p i = slice_index_or (widths p) i 1

-- Some sheet begins with these bytes.
pub record BeginsASheet (front : List ℕ) : Type 0 where
  pub plan : Plan
  pub well_formed : WellFormed plan
  pub rest : List ℕ
  pub begins : encode plan ≡ front ++ rest

-- The first field at fault, in bytes that are no sheet: so many fields in front of it are those of some sheet. If the bytes end within the field,
-- they are cut, and the place is their length. Else no sheet begins with the bytes up to the end of the field, and the place is where it begins.
pub record FirstFault (bytes : List ℕ) (place : ℕ) : Type 0 where
  pub plan : Plan
  pub well_formed : WellFormed plan
  pub in_front : ℕ
  pub alike : take (field_start plan in_front) bytes ≡ take (field_start plan in_front) (encode plan)
  pub cut : length bytes < field_start plan in_front + field_width plan in_front → place ≡ length bytes
  pub at_fault : field_start plan in_front + field_width plan in_front ≤ length bytes
      → (place ≡ field_start plan in_front) × (BeginsASheet (take (field_start plan in_front + field_width plan in_front) bytes) → ⊥)

-- Bytes that are turned down are at fault at the place that is named. Left out are bytes that count one station: there no number and no home
-- can stand in a field, as both can only be 0, though a map byte may announce one.
abbrev pub TheFirstFaultIsNamed : Type 0
TheFirstFaultIsNamed = (bytes : List ℕ) (place : ℕ) → All (λ b. b < 256) bytes → take 2 bytes ≢ field 1 → decode bytes ≡ Err place → FirstFault bytes place
