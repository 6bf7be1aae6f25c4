-- The surveys of the worked sites, read.
use Rattle.std.proofs.Common.{◌≡◌, Ok, refl}
use Rattle.std.specs.Prelude.{codes}
use Rattle.cores.specs.Counting.{bit, count}
use Rattle.cores.specs.Site.{laid_out}
use Rattle.cores.specs.Links.{ends, joined}
use Rattle.worked.specs.Sites.{joined_all, eight, bridge}
use Rattle.text.specs.Texts.{lines, tokens, read_on, value_of}
use Rattle.survey.specs.Surveys.{numbers, linked_with, lines_read, survey_read}
use Rattle.shown.specs.Sites.{triangle}

pub one_read : survey_read (codes "S 1") ≡ Ok (laid_out 1)
unfolding bit count lines tokens read_on value_of numbers linked_with lines_read
one_read = refl

pub triangle_read : survey_read (codes "S 3\nL 0 1 2\nL 1 2\n") ≡ Ok triangle
unfolding bit count ends joined joined_all lines tokens read_on value_of numbers linked_with lines_read
triangle_read = refl

pub eight_read : survey_read (codes "S 8\nL 0 1 2 3\nL 1 2 3\nL 2 3\nL 3 4\nL 4 5 6\nL 5 6\nL 6 7\n") ≡ Ok eight
unfolding bit count ends joined joined_all lines tokens read_on value_of numbers linked_with lines_read
eight_read = refl

pub bridge_read : survey_read (codes "S 9\nL 0 1 2 3\nL 1 2 3\nL 2 3\nL 4 5 6 7\nL 5 6 7\nL 6 7\nL 8 3 4\n") ≡ Ok bridge
unfolding bit count ends joined joined_all lines tokens read_on value_of numbers linked_with lines_read
bridge_read = refl
