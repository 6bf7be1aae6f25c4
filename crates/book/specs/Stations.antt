-- What the record of a station says, and rows with one neighbour more or less. Assumes nothing.
use Rattle.std.specs.Prelude.{ℕ, List, nat_eq, nat_lt, take, replicate}
use Rattle.std.specs.List.{insert, remove, position_or_len}
use Rattle.book.specs.declared.station.Station.{Station}

-- the neighbours that a record lists
abbrev pub entries : Station → List ℕ
entries station = take station.len station.row

-- the record of a station without links
abbrev pub alone : Station
alone = record { row = replicate 32 0; len = 0; number = 0 }

-- a rising row with t in its place: in front of the first greater neighbour
abbrev pub put : ℕ → List ℕ → List ℕ
put t row = insert row (position_or_len (nat_lt t) row) t

-- a row without t
abbrev pub cut : ℕ → List ℕ → List ℕ
cut t row = remove row (position_or_len (nat_eq t) row)
