-- The table of refusals. Assumes nothing.
use Rattle.std.specs.Prelude.{ℕ, List, ◌++◌, codes, decimal}
use Rattle.refusals.specs.declared.TableFault.{TableFault}
use Rattle.refusals.specs.declared.TableFault.TheVariants.{Shape, Row}
use Rattle.refusals.specs.declared.Refusal.{Refusal}
use Rattle.refusals.specs.declared.Refusal.TheVariants.{CountOutOfRange, OffSite, EqualEnds, AlreadyLinked, NotLinked, RowFull, BufferShort, TextOutOfForm, SizeLineMisplaced, NotASheet, StationAtFault, HomeOrUpWrong, CountsDiffer, TextTooLong, UnlawfulTable}

-- What the table says of a refusal: its number, 1 to 15, and the place that it names, 0 if none.
pub record Told : Type 0 where
  pub number : ℕ
  pub place : ℕ

abbrev pub told_as : ℕ → ℕ → Told
told_as number place = record { number = number; place = place }

-- The place of a table's fault: 65,535 for its shape or its station count, else the row.
abbrev pub row_at_fault : TableFault → ℕ
row_at_fault Shape = 65535
row_at_fault (Row row) = row

-- The number and the place of each refusal.
abbrev pub told : Refusal → Told
told CountOutOfRange = told_as 1 0
told (OffSite station) = told_as 2 station
told (EqualEnds station) = told_as 3 station
told (AlreadyLinked lower) = told_as 4 lower
told (NotLinked lower) = told_as 5 lower
told (RowFull station) = told_as 6 station
told (BufferShort needed) = told_as 7 needed
told TextOutOfForm = told_as 8 0
told SizeLineMisplaced = told_as 9 0
told (NotASheet place) = told_as 10 place
told (StationAtFault station) = told_as 11 station
told (HomeOrUpWrong station) = told_as 12 station
told CountsDiffer = told_as 13 0
told TextTooLong = told_as 14 0
told (UnlawfulTable fault) = told_as 15 (row_at_fault fault)

-- `refused R place P`
abbrev pub refusal_line : Refusal → List ℕ
refusal_line e = codes "refused " ++ (decimal (told e).number ++ (codes " place " ++ decimal (told e).place))
