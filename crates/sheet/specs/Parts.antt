-- How the parts of read and put are to be understood. Assumes nothing.
use Rattle.std.specs.Prelude.{ℕ, false, not, ◌&&◌, List, [], take, Ok, Err, Result, nat_lt, slice_index_or}
use Rattle.std.specs.Borrow.{Bor}
use Rattle.cores.specs.Numbers.{Group}
use Rattle.sheet.specs.declared.draft.Draft.{Draft}
use Rattle.sheet.specs.declared.fields.Fault.{Fault}
use Rattle.sheet.specs.declared.tables.Tables.{Tables}
use Rattle.sheet.specs.declared.unpacked.Unpacked.{Unpacked}
use Rattle.sheet.specs.declared.roll.Roll.{Roll}
use Rattle.sheet.specs.Plans.{Plan}
use Rattle.sheet.specs.Fields.{Reading}
use Rattle.sheet.specs.Decoding.{plan_from}
use Rattle.sheet.specs.Calls.{plan_in}

-- what a part of read gives
abbrev pub reading_of : {A : Type 0} → Result (A × Bor (List ℕ)) Fault → Reading A
reading_of (Ok read) = Ok (read.0, read.1.now)
reading_of (Err fault) = Err fault.from.now

-- what a part of read gives that fills a table
abbrev pub table_reading_of : {A : Type 0} → A → Result (Bor (List ℕ)) Fault → Reading A
table_reading_of table (Ok rest) = Ok (table, rest.now)
table_reading_of table (Err fault) = Err fault.from.now

-- the stations that an order has still to name
abbrev pub unnamed : Roll → Group
unnamed roll t = nat_lt t roll.count && not (slice_index_or roll.named t false)

-- the plan that was unpacked
abbrev pub plan_of_unpacked : Unpacked → Plan
plan_of_unpacked sheet = plan_from (take sheet.count sheet.entries) (take sheet.count sheet.order)

-- what unpacking gives: nothing is left behind a whole sheet
abbrev pub unpacked : Result Unpacked Fault → Reading Plan
unpacked (Ok sheet) = Ok (plan_of_unpacked sheet, [])
unpacked (Err fault) = Err fault.from.now

-- the plan that lent tables hold
abbrev pub plan_of_tables : Tables → Plan
plan_of_tables tables = plan_in tables.numbers.now tables.homes.now tables.ups.now tables.order.now

-- what was written so far
abbrev pub bytes_written : Draft → List ℕ
bytes_written draft = take draft.len draft.bytes
