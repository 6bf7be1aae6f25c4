use Rattle.std.proofs.Common.{ap, ◌∙◌, rules, arith}
use Rattle.std.proofs.lemmas.Bool.{lt-ltb, le-ltb}
use Rattle.book.specs.Books.{site}
use Rattle.walkthrough.proofs.Linked.{led_past, led_on, led_there}
use Rattle.walkthrough.proofs.linking.tell_links.Goals as goal
use Rattle.walkthrough.proofs.linking.tell_links.Goals.{then-s-t+in_ok-tell_link, else-s-t}

pub loop-t-preserved : goal.loop-t-preserved
loop-t-preserved g c =
    let g0 = site c.loop-t.book in
    let s = c.args.s in
    let i = c.loop-t.t-index in
    let row = c.args.row.now in
    elim c.if-s-t.branch [
      | then-s-t+in_ok-tell_link w ↦
          led_on g0 s i row c.loop-t-test.true c.from-t.result (search rules) (lt-ltb s c.from-t.result w.if-s-t.true) (site c.if-s-t.book) (ap site w.book-is ∙ w.in_ok-tell_link.ensures)
          ∙ c.loop-t.invariant
      | else-s-t w ↦
          rw w.book-is (led_past g0 s i row c.loop-t-test.true c.from-t.result (search rules) (le-ltb s c.from-t.result w.if-s-t.false) ∙ c.loop-t.invariant)
    ]

pub returns : goal.returns
returns g c = led_there (site c.loop-t.book) c.args.s c.loop-t.t-index c.args.row.now (omega arith) ∙ c.loop-t.invariant
