use Rattle.std.proofs.Common.{◌≡◌, sym, ap, ◌∙◌, arith, rules}
use Rattle.book.specs.Tables.{links, numbers, places, row}
use Rattle.book.proofs.Tables.{numbers_long, row_at}
use Rattle.book.specs.Updates.{falls, in_row}
use Rattle.book.proofs.Falling.{lowering_first, fallen_within, nobody_falls}
use Rattle.book.proofs.Watching.{visited_watched, watched_over}
use Rattle.book.proofs.table.Table.settle.Goals as goal

pub doubt_all-requires : goal.doubt_all-requires
doubt_all-requires c = let old = c.args.self.now in rw c.new-fallen.ensures (lowering_first (links old) c.args.level (numbers old) (places old) c.requires.sound (numbers_long old c.requires.sound) c.requires.high c.requires.bears_out)

pub offset_bounds-self-s : goal.offset_bounds-self-s
offset_bounds-self-s c =
    let (within, few) = fallen_within (links c.args.self.now) c.args.level _ _ _ c.loop-s.visited c.in-Some.s (sym c.get.ensures ∙ c.in-Some.is) c.loop-s.invariant.1 in
    search rules

pub bounds-self-s : goal.bounds-self-s
bounds-self-s c = (fallen_within (links c.args.self.now) c.args.level _ _ _ c.loop-s.visited c.in-Some.s (sym c.get.ensures ∙ c.in-Some.is) c.loop-s.invariant.1).0

pub overflow_add-visited : goal.overflow_add-visited
overflow_add-visited c =
    let (within, few) = fallen_within (links c.args.self.now) c.args.level _ _ _ c.loop-s.visited c.in-Some.s (sym c.get.ensures ∙ c.in-Some.is) c.loop-s.invariant.1 in
    search rules

pub loop-s-smaller : goal.loop-s-smaller
loop-s-smaller c =
    let (within, few) = fallen_within (links c.args.self.now) c.args.level _ _ _ c.loop-s.visited c.in-Some.s (sym c.get.ensures ∙ c.in-Some.is) c.loop-s.invariant.1 in
    omega arith

pub loop-s-preserved : goal.loop-s-preserved
loop-s-preserved c =
    let (same, low, watched) = c.loop-s.invariant in
    let on = links c.args.self.now in
    let next = visited_watched (in_row on) (falls on (numbers c.loop-s.self) c.args.level) _ c.loop-s.visited c.in-Some.s (sym c.get.ensures ∙ c.in-Some.is) watched in
    let neighbours : c.row.result.now ≡ row on c.in-Some.s = c.row.ensures ∙ row_at c.loop-s.self c.in-Some.s ∙ ap (λ l. row l c.in-Some.s) same in (
      c.doubt_all-in-Some.ensures.links ∙ same,
      rw same at c.doubt_all-in-Some.ensures.lowering,
      (rw same at c.doubt_all-in-Some.ensures.watched) _ (rw neighbours next),
    )

pub returns-clause-right : goal.returns-clause-right
returns-clause-right c =
    let over = watched_over (in_row (links c.args.self.now)) _ _ c.loop-s.visited (sym c.get.ensures ∙ c.in_default.is) c.loop-s.invariant.2 in
    let low = c.loop-s.invariant.1 in
    nobody_falls (links c.args.self.now) c.args.level _ low.sound low.high over
