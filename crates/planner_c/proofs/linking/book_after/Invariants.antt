use Rattle.std.proofs.Common.{◌≡◌, drop}
use Rattle.book.specs.Books.{site}
use Rattle.planner_c.specs.Given.{after_steps, book_site}
use Rattle.planner_c.proofs.linking.book_after.Given as goal

abbrev pub invariant-loop-step : goal.invariant-loop-step
invariant-loop-step l = after_steps (drop l.step-index l.steps) (site l.book) ≡ book_site l.stations l.steps
