-- What read writes to the lent tables, and put to the lent buffer. Assumes nothing.
use Rattle.std.specs.Prelude.{◌≡◌, ℕ, ◌<◌, ◌≤◌, All, cond, ◌&&◌, List, length, map, min, Some, None, Ok, Err, Option, Result}
use Rattle.refusals.specs.declared.Refusal.{Refusal}
use Rattle.refusals.specs.declared.Refusal.TheVariants.{CountOutOfRange, NotASheet}
use Rattle.cores.specs.Site.{sized}
use Rattle.view.specs.Answers.{with_room}
use Rattle.view.specs.Ups.{up_in_table, up_meant}
use Rattle.sheet.specs.Plans.{Plan, stations, has_equal_lengths, lowest_fault}
use Rattle.sheet.specs.Encoding.{encode}
use Rattle.sheet.specs.Decoding.{decode}

-- the plan that four tables hold
abbrev pub plan_in : List ℕ → List ℕ → List ℕ → List ℕ → Plan
plan_in numbers homes ups order = record { numbers = numbers; homes = homes; ups = map up_meant ups; order = order }

-- the room in four tables
abbrev pub least_room : List ℕ → List ℕ → List ℕ → List ℕ → ℕ
least_room numbers homes ups order = min (min (length numbers) (length homes)) (min (length ups) (length order))

-- Read: the plan on a sheet, for tables with so much room. First the bytes are judged, then the tables.
abbrev pub for_tables : ℕ → Result Plan ℕ → Result Plan Refusal
for_tables room (Ok p) = with_room (stations p) room p
for_tables room (Err place) = Err (NotASheet place)

-- the plan that is read into four tables
abbrev pub read_into : List ℕ → List ℕ → List ℕ → List ℕ → List ℕ → Result Plan Refusal
read_into bytes numbers homes ups order = for_tables (least_room numbers homes ups order) (decode bytes)

-- Put: the sheet of a plan, for a buffer of so many bytes. First the lengths and the count are judged, then the entries from the lowest, then the buffer.
abbrev pub for_buffer : ℕ → Plan → Option ℕ → Result (List ℕ) Refusal
for_buffer room p (Some place) = Err (NotASheet place)
for_buffer room p None = with_room (length (encode p)) room (encode p)

-- the bytes that are put into a buffer
abbrev pub put_bytes : Plan → ℕ → Result (List ℕ) Refusal
put_bytes p room = cond (has_equal_lengths p && sized (stations p)) (for_buffer room p (lowest_fault p)) (Err CountOutOfRange)

-- Tables that are put as a sheet are read back from it.
abbrev pub WhatIsPutIsReadBack : Type 0
WhatIsPutIsReadBack = (numbers homes ups order : List ℕ) (room : ℕ) (bytes : List ℕ)
    → put_bytes (plan_in numbers homes ups order) room ≡ Ok bytes
    → (p : Plan) × (decode bytes ≡ Ok p) × (p.numbers ≡ numbers) × (p.homes ≡ homes) × (map up_in_table p.ups ≡ ups) × (p.order ≡ order)

-- Tables that are read from a sheet are put as that sheet, where there is room for it.
abbrev pub WhatIsReadIsPutBack : Type 0
WhatIsReadIsPutBack = (bytes : List ℕ) (p : Plan) (room : ℕ) → All (λ b. b < 256) bytes → length bytes ≤ room
    → decode bytes ≡ Ok p → put_bytes (plan_in p.numbers p.homes (map up_in_table p.ups) p.order) room ≡ Ok bytes
