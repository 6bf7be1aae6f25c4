-- How a table holds ups. Assumes nothing.
use Rattle.std.specs.Prelude.{ℕ, cond, Some, None, Option, ◌==◌}

-- an up as a table has it: 65,535 is no up
abbrev pub up_in_table : Option ℕ → ℕ
up_in_table None = 65535
up_in_table (Some u) = u

-- and what a table means by it
abbrev pub up_meant : ℕ → Option ℕ
up_meant u = cond (u == 65535) None (Some u)
