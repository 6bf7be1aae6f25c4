-- What the calls are given. Assumes nothing.
use Rattle.std.specs.Prelude.{ℕ, cond, List, [], ◌∷◌}
use Rattle.cores.specs.Site.{Site, laid_out, no_stations}
use Rattle.cores.specs.Links.{joined, parted}
use Rattle.view.specs.Listing.{Lists}
use Rattle.view.specs.Grid.{Bitmap}
use Rattle.view.specs.Answers.{counted}
use Rattle.book.specs.Answers.{after, link_answer, unlink_answer}
use Rattle.planner_c.specs.declared.linking.Step.{Step}

-- the two lists of a listing
abbrev pub two_lists : List ℕ → List ℕ → Lists
two_lists starts ends = record { starts = starts; ends = ends }

-- the rows of bits of a grid
abbrev pub bits : ℕ → List ℕ → Bitmap
bits stations bytes = record { stations = stations; bytes = bytes }

-- the site after a step
abbrev pub after_step : Step → Site → Site
after_step step g = cond step.sets
    (after (link_answer g step.a step.b) (joined g step.a step.b) g)
    (after (unlink_answer g step.a step.b) (parted g step.a step.b) g)

-- and after some steps
unfoldable pub after_steps : List Step → Site → Site
after_steps [] g = g
after_steps (step ∷ others) g = after_steps others (after_step step g)

-- the site of a book for so many stations, after some steps
abbrev pub book_site : ℕ → List Step → Site
book_site stations steps = after_steps steps (after (counted stations) (laid_out stations) no_stations)
