use Rattle.std.specs.Prelude.{ℕ, List, ◌++◌, codes, decimal}
use Rattle.tables.specs.declared.fault.Unread.{Unread}
use Rattle.tables.specs.declared.fault.Unread.TheVariants.{TooLong, NotAStation, NoMemory}

-- What is written of each fault.
abbrev pub told : Unread → List ℕ
told TooLong = codes "input too long"
told (NotAStation line byte) = codes "line " ++ (decimal line ++ (codes " byte " ++ (decimal byte ++ codes ": not a station")))
told NoMemory = codes "out of memory"
