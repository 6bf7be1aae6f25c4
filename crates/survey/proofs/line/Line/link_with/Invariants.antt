use Rattle.std.proofs.Common.{◌≡◌, Ok}
use Rattle.text.specs.Cursors.{tokens_left}
use Rattle.book.specs.Books.{site}
use Rattle.survey.specs.Surveys.{numbers, linked_with}
use Rattle.survey.specs.Reached.{answered}
use Rattle.survey.proofs.Numerals.{found}
use Rattle.survey.proofs.line.Line.link_with.Given as goal

-- The words that are left are numbers, and what they do to the book is left to do.
abbrev pub invariant-loop-token : goal.invariant-loop-token
invariant-loop-token l =
    let left = numbers l.self.number (tokens_left l.token-iterator) in
    (answered left ≡ Ok tt)
    × (linked_with l.station (site l.book) (found left) ≡ linked_with l.station (site l.initial.book) (found (numbers l.self.number (tokens_left l.fn.others))))
