-- What the calls answer. Assumes nothing.
use Rattle.std.specs.Prelude.{ℕ, Ok, Err, Result}
use Rattle.refusals.specs.declared.Refusal.{Refusal}
use Rattle.refusals.specs.Refusals.{told}
use Rattle.rules.specs.declared.counts.Counts.{Counts}
use Rattle.planner_c.specs.declared.reply.Reply.{Reply}
use Rattle.planner_c.specs.declared.reply.Level.{Level}

-- 0 and what a call answers, or the number of its refusal and the place
abbrev pub reply : Result ℕ Refusal → Reply
reply (Ok value) = record { refusal = 0; value = value }
reply (Err e) = record { refusal = (told e).number; value = (told e).place }

-- and where a call answers nothing more
abbrev pub reply_done : Result (Unit {0}) Refusal → Reply
reply_done (Ok _) = record { refusal = 0; value = 0 }
reply_done (Err e) = record { refusal = (told e).number; value = (told e).place }

-- the counts of a level, as they stand in a list for C
abbrev pub level : Counts → Level
level counts = record { members = counts.members; inside = counts.inside; boundary = counts.boundary }
