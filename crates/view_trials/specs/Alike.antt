-- Whether two answers are the same number. Assumes nothing.
use Rattle.std.specs.Prelude.{ℕ, Bool, Ok, Err, Result, ◌==◌}
use Rattle.refusals.specs.declared.Refusal.{Refusal}

-- the first refusal, or else whether both numbers are the same
abbrev pub alike : Result ℕ Refusal → Result ℕ Refusal → Result Bool Refusal
alike (Ok a) (Ok b) = Ok (a == b)
alike (Ok a) (Err e) = Err e
alike (Err e) other = Err e
