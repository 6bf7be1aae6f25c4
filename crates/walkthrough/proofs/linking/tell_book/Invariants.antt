use Rattle.std.proofs.Common.{◌≡◌}
use Rattle.book.specs.Books.{site}
use Rattle.view.specs.Listing.{lists}
use Rattle.walkthrough.specs.Linking.{linked_up_to}
use Rattle.walkthrough.proofs.linking.tell_book.Given as goal

abbrev pub invariant-loop-s : goal.invariant-loop-s
invariant-loop-s g l = site l.book ≡ linked_up_to (lists l.listing) l.s
