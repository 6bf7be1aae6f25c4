use Rattle.sheet.proofs.Runs.{Filled}
use Rattle.planner_c.specs.Replies.{level}
use Rattle.planner_c.proofs.scoring.note_levels.Given as goal

abbrev pub invariant-loop-place : goal.invariant-loop-place
invariant-loop-place l = Filled level l.place l.counts l.fn.list l.list
