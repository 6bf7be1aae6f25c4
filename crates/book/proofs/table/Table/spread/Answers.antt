use Rattle.std.proofs.Common.{◌≡◌, ◌+◌, [], get_or, sym, ap, ◌∙◌, arith, rules}
use Rattle.cores.specs.Counting.{holds}
use Rattle.book.specs.Queues.{noted}
use Rattle.book.specs.Tables.{links, numbers, places, row}
use Rattle.book.specs.Updates.{rises, in_row_behind, at_or_behind}
use Rattle.book.proofs.Tables.{numbers_long, row_at}
use Rattle.book.proofs.Rising.{raising_first, raised_first, risen_within}
use Rattle.book.proofs.Watching.{visited_watched, watched_over, still_watched, all_behind}
use Rattle.book.proofs.table.Table.spread.Goals as goal

pub lift_all-requires-clause-raising : goal.lift_all-requires-clause-raising
lift_all-requires-clause-raising c =
    let old = c.args.self.now in
    rw c.new-lifted.ensures (raising_first (links old) c.args.level (numbers old) c.requires.sound (numbers_long old c.requires.sound))

pub loop-s-init : goal.loop-s-init
loop-s-init c =
    let old = c.args.self.now in (
      c.lift_all.ensures.links,
      c.lift_all.ensures.order,
      c.lift_all.ensures.raising,
      c.lift_all.ensures.raised (numbers old) (rw c.new-lifted.ensures (raised_first (links old) c.args.level (numbers old))),
      c.lift_all.ensures.watched 0 (rw c.new-lifted.ensures
          (still_watched (in_row_behind (links old) (places old)) (rises (links old) (numbers old) (places old) c.args.level) [] (holds c.args.doubtful.now) (at_or_behind (places old) 0 c.args.doubtful.now) 0
          (λ t m. all_behind (places old) c.args.doubtful.now t) c.requires.watched)),
    )

pub offset_bounds-self-s : goal.offset_bounds-self-s
offset_bounds-self-s c =
    let (within, few) = risen_within (links c.args.self.now) c.args.level _ _ c.loop-s.visited c.in-Some.s (sym c.get.ensures ∙ c.in-Some.is) c.loop-s.invariant.2 in
    search rules

pub bounds-self-s : goal.bounds-self-s
bounds-self-s c = (risen_within (links c.args.self.now) c.args.level _ _ c.loop-s.visited c.in-Some.s (sym c.get.ensures ∙ c.in-Some.is) c.loop-s.invariant.2).0

pub overflow_add-visited : goal.overflow_add-visited
overflow_add-visited c =
    let (within, few) = risen_within (links c.args.self.now) c.args.level _ _ c.loop-s.visited c.in-Some.s (sym c.get.ensures ∙ c.in-Some.is) c.loop-s.invariant.2 in
    search rules

pub loop-s-smaller : goal.loop-s-smaller
loop-s-smaller c =
    let (within, few) = risen_within (links c.args.self.now) c.args.level _ _ c.loop-s.visited c.in-Some.s (sym c.get.ensures ∙ c.in-Some.is) c.loop-s.invariant.2 in
    omega arith

pub loop-s-preserved : goal.loop-s-preserved
loop-s-preserved c =
    let (same, order, up, raised, watched) = c.loop-s.invariant in
    let on = links c.args.self.now in
    let next = visited_watched (in_row_behind on (places c.args.self.now)) (rises on (numbers c.loop-s.self) (places c.args.self.now) c.args.level) _ c.loop-s.visited c.in-Some.s (sym c.get.ensures ∙ c.in-Some.is) watched in
    let neighbours : c.row.result.now ≡ row on c.in-Some.s = c.row.ensures ∙ row_at c.loop-s.self c.in-Some.s ∙ ap (λ l. row l c.in-Some.s) same in
    let p = places c.args.self.now in
    let at : c.place-place.result ≡ get_or p c.in-Some.s 0 = c.place-place.ensures ∙ ap (λ q. get_or q c.in-Some.s 0) order in
    let listed = still_watched (in_row_behind on p) (rises on (numbers c.loop-s.self) p c.args.level) (noted c.loop-s.lifted) (in_row_behind on p c.in-Some.s) (at_or_behind p c.place-place.result c.row.result.now) (c.loop-s.visited + 1)
    (λ t m. rw (neighbours, at) (λ e. e)) next in (
      c.lift_all-in-Some.ensures.links ∙ same,
      c.lift_all-in-Some.ensures.order ∙ order,
      rw same at c.lift_all-in-Some.ensures.raising,
      c.lift_all-in-Some.ensures.raised _ raised,
      (rw (same, order) at (c.lift_all-in-Some.ensures.watched (c.loop-s.visited + 1))) listed,
    )

pub returns-clause-over : goal.returns-clause-over
returns-clause-over c = watched_over (in_row_behind (links c.args.self.now) (places c.args.self.now)) _ _ c.loop-s.visited (sym c.get.ensures ∙ c.in_default.is) c.loop-s.invariant.4
