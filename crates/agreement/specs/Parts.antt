-- How the parts of a run are to be understood. Assumes nothing.
use Rattle.std.specs.Prelude.{◌≡◌, ℕ, ◌+◌, List, take, Some, Result}
use Rattle.std.specs.List.{slice_get}
use Rattle.std.specs.Result.{result_map_both}
use Rattle.refusals.specs.declared.Refusal.{Refusal}
use Rattle.cores.specs.Site.{Site}
use Rattle.cores.specs.Links.{MovesUp, MovesDown}
use Rattle.agreement.specs.declared.call.Call.{Call}
use Rattle.agreement.specs.declared.call.Call.TheVariants.{LayOut, Link, Unlink, ReadSurvey}
use Rattle.agreement.specs.Calls.{site_after}

-- the front of a buffer to which so many bytes were written, or why none were
abbrev pub front_of : List ℕ → Result ℕ Refusal → Result (List ℕ) Refusal
front_of buffer written = result_map_both (λ n. take n buffer) (λ e. e) written

-- How a call moves numbers. Nothing is said of calls that set more than one link.
abbrev pub Moves : Call → Site → Site → Type 0
Moves (LayOut n) old new = Unit {0}
Moves (Link a b) old new = MovesUp old new a b
Moves (Unlink a b) old new = MovesDown old new a b
Moves (ReadSurvey text) old new = Unit {0}

-- At each place of a list, what stands there moves numbers as it may.
abbrev pub MovedThroughout : List Call → Type 0
MovedThroughout calls = (i : ℕ) (call : Call) → slice_get calls i ≡ Some call → Moves call (site_after (take i calls)) (site_after (take (i + 1) calls))
