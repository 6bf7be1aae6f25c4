use Rattle.std.proofs.Common.{◌≡◌, drop}
use Rattle.book.specs.Books.{site}
use Rattle.walkthrough.proofs.Linked.{led_to}
use Rattle.walkthrough.proofs.linking.tell_links.Given as goal

-- what is still to come leads to what all of the row would lead to
abbrev pub invariant-loop-t : goal.invariant-loop-t
invariant-loop-t g l = led_to (site l.book) l.s (drop l.t-index l.row) ≡ led_to (site l.fn.book) l.s l.row
