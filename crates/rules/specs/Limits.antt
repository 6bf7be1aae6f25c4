-- The limits of a tally. Assumes nothing.
use Rattle.std.specs.Prelude.{Bool, ◌&&◌, nat_le}
use Rattle.rules.specs.declared.counts.Counts.{Counts}

-- are there 1 to 512 members, at most 130,816 links inside, which is all that 512 stations can have, and at most 65,536
-- at the boundary, which is all that two halves of them can have between them
abbrev pub within : Counts → Bool
within c = nat_le 1 c.members && nat_le c.members 512 && nat_le c.inside 130816 && nat_le c.boundary 65536
