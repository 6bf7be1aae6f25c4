use Rattle.std.proofs.Common.{sym, ap, ◌∙◌}
use Rattle.book.specs.Books.{site}
use Rattle.view.specs.Listing.{lists}
use Rattle.walkthrough.proofs.Linked.{led_to, linked_none, linked_more}
use Rattle.walkthrough.proofs.linking.tell_book.Goals as goal

pub loop-s-init : goal.loop-s-init
loop-s-init g c =
    linked_none (lists c.args.listing) c.stations-stations.result c.stations-stations.ensures c.in_ok-lay_out.field-0 (site c.lay_out.new.self) (site c.new-book.result) c.lay_out.ensures.site
    (sym c.in_ok-lay_out.was ∙ c.lay_out.ensures.answer)

pub loop-s-preserved : goal.loop-s-preserved
loop-s-preserved g c =
    let l = lists c.args.listing in
    let s = c.loop-s.s in
    c.in_ok-tell_links.ensures ∙ ap (λ h. led_to h s c.row.result.now) c.loop-s.invariant ∙ ap (led_to _ s) c.row.ensures ∙ sym (linked_more l s)
