-- From bytes to the plan that they write, or to the first field at fault. Assumes nothing.
use Rattle.std.specs.Prelude.{◌≡◌, ℕ, zero, suc, ◌+◌, ◌-◌, ◌<◌, All, cond, List, [], ◌∷◌, map, length, Ok, Err, Result, ◌==◌, nat_lt}
use Rattle.cores.specs.Numbers.{Group, without}
use Rattle.cores.specs.Site.{sized}
use Rattle.sheet.specs.declared.entry.Entry.{Entry}
use Rattle.sheet.specs.Plans.{Plan, WellFormed}
use Rattle.sheet.specs.Encoding.{encode}
use Rattle.sheet.specs.Fields.{Reading, ◌>>=◌, field_at, map_at, value_at, up_at}

-- station s of n
unfoldable pub entry_at : ℕ → ℕ → List ℕ → Reading Entry
entry_at n s bytes = do
  has ← map_at bytes
  number ← value_at n 0 has.0.number has.1
  home ← value_at n s has.0.home number.1
  up ← up_at n has.0.up home.1
  Ok (record { number = number.0; home = home.0; up = up.0 }, up.1)

-- i stations of n, from s on
unfoldable pub entries_at : ℕ → ℕ → ℕ → List ℕ → Reading (List Entry)
entries_at n zero s bytes = Ok ([], bytes)
entries_at n (suc i) s bytes = do
  first ← entry_at n s bytes
  others ← entries_at n i (s + 1) first.1
  Ok (first.0 ∷ others.0, others.1)

-- i stations of an order, each one of X that was not named before
unfoldable pub order_at : Group → ℕ → List ℕ → Reading (List ℕ)
order_at X zero bytes = Ok ([], bytes)
order_at X (suc i) bytes = do
  first ← field_at X bytes
  others ← order_at (without first.0 X) i first.1
  Ok (first.0 ∷ others.0, others.1)

-- the plan of the entries of all stations and an order
abbrev pub plan_from : List Entry → List ℕ → Plan
plan_from entries order = record { numbers = map (λ e. e.number) entries; homes = map (λ e. e.home) entries; ups = map (λ e. e.up) entries; order = order }

-- a sheet: the station count, the stations, and the order, which ends it
unfoldable pub sheet_at : List ℕ → Reading Plan
sheet_at bytes = do
  count ← field_at sized bytes
  entries ← entries_at count.0 count.0 0 count.1
  order ← order_at (λ t. nat_lt t count.0) count.0 entries.1
  cond (length order.1 == 0) (Ok (plan_from entries.0 order.0, order.1)) (Err order.1)

-- what was read of some bytes, or the offset of the field at fault in them
abbrev pub plan_or_place : List ℕ → Reading Plan → Result Plan ℕ
plan_or_place bytes (Ok read) = Ok read.0
plan_or_place bytes (Err rest) = Err (length bytes - length rest)

-- The plan that some bytes write, or the place of the fault: the offset of the first field at fault, the length where they are cut, the first extra byte.
unfoldable pub decode : List ℕ → Result Plan ℕ
decode bytes = plan_or_place bytes (sheet_at bytes)

-- A well-formed plan that was written as a sheet and is read back is the same plan.
abbrev pub APlanWrittenAndReadIsTheSame : Type 0
APlanWrittenAndReadIsTheSame = (p : Plan) → WellFormed p → decode (encode p) ≡ Ok p

-- Bytes that are accepted as a sheet and written again are the same bytes.
abbrev pub ASheetReadAndWrittenIsTheSame : Type 0
ASheetReadAndWrittenIsTheSame = (bytes : List ℕ) (p : Plan) → All (λ b. b < 256) bytes → decode bytes ≡ Ok p → encode p ≡ bytes

-- What is accepted is well formed.
abbrev pub WhatIsAcceptedIsWellFormed : Type 0
WhatIsAcceptedIsWellFormed = (bytes : List ℕ) (p : Plan) → decode bytes ≡ Ok p → WellFormed p
