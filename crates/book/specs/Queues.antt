-- The stations that a queue holds. Assumes nothing.
use Rattle.std.specs.Prelude.{ℕ, List, take}
use Rattle.book.specs.declared.queue.Queue.{Queue}

-- the stations that were noted, in their order
abbrev pub noted : Queue → List ℕ
noted queue = take queue.len queue.stations
