use Rattle.std.proofs.Common.{◌≡◌, drop, get_or, ap₂, ◌+◌, false, ◌∙◌, arith}
use Rattle.std.proofs.lemmas.Bool.{and_parts}
use Rattle.book.specs.Queues.{noted}
use Rattle.book.specs.Tables.{links, numbers, places}
use Rattle.book.specs.Updates.{rises, in_row_behind, at_or_behind}
use Rattle.book.proofs.Watching.{next_behind, next_ahead, none_rest, still_watched}
use Rattle.book.proofs.table.Table.lift_all.Goals as goal

pub lift-requires-clause-raising : goal.lift-requires-clause-raising
lift-requires-clause-raising c = rw c.loop-s.invariant.0 c.loop-s.invariant.2

pub loop-s-preserved : goal.loop-s-preserved
loop-s-preserved c =
    let (same, order, up, raised, watched) = c.loop-s.invariant in
    let p = places c.args.self.now in
    let stations = c.args.stations.now in
    let i = c.loop-s.s-index in (
      c.lift.ensures.links ∙ same,
      c.lift.ensures.order ∙ order,
      rw same at c.lift.ensures.raising,
      λ before r. c.lift.ensures.raised before (raised before r),
      λ v w. (rw (same, order) at c.lift.ensures.watched) (at_or_behind p c.args.place (drop i stations)) (at_or_behind p c.args.place (drop (i + 1) stations)) v
          (rw c.from-s.ensures (next_behind p c.args.place stations i c.loop-s-test.true)) (watched v w),
    )

pub loop-s-preserved-then-place : goal.loop-s-preserved-then-place
loop-s-preserved-then-place c =
    let (same, order, up, raised, watched) = c.loop-s.invariant in
    let on = links c.args.self.now in
    let p = places c.args.self.now in
    let stations = c.args.stations.now in
    let i = c.loop-s.s-index in
    let at : c.place.result ≡ get_or p (get_or stations i 0) 0 = c.place.ensures ∙ ap₂ (λ q s. get_or q s 0) order c.from-s.ensures in (
      same,
      order,
      up,
      raised,
      λ v w. still_watched (in_row_behind on p) (rises on (numbers c.loop-s.self) p c.args.level) (noted c.loop-s.lifted)
          (at_or_behind p c.args.place (drop i stations)) (at_or_behind p c.args.place (drop (i + 1) stations)) v
          (λ t m. next_ahead p c.args.place stations i c.loop-s-test.true (omega (arith, at, c.if-place.true)) t) (watched v w),
    )

pub returns-clause-watched : goal.returns-clause-watched
returns-clause-watched c v w =
    let on = links c.args.self.now in
    let p = places c.args.self.now in
    let stations = c.args.stations.now in
    still_watched (in_row_behind on p) (rises on (numbers c.loop-s.self) p c.args.level) (noted c.loop-s.lifted) (at_or_behind p c.args.place (drop c.loop-s.s-index stations)) (λ t. false) v
    (λ t m e. none_rest stations c.loop-s.s-index c.loop-s-test.false t (and_parts _ _ e).0)
    (c.loop-s.invariant.4 v w)
