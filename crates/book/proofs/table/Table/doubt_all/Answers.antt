use Rattle.std.proofs.Common.{false, drop, ◌+◌, ◌∙◌}
use Rattle.cores.specs.Counting.{holds}
use Rattle.book.specs.Queues.{noted}
use Rattle.book.specs.Tables.{links, numbers}
use Rattle.book.specs.Updates.{falls, in_row}
use Rattle.book.proofs.Watching.{next_rest, none_rest, still_watched}
use Rattle.book.proofs.table.Table.doubt_all.Goals as goal

pub loop-s-preserved : goal.loop-s-preserved
loop-s-preserved c =
    let (same, low, watched) = c.loop-s.invariant in
    let stations = c.args.stations.now in
    let i = c.loop-s.s-index in (
      c.doubt.ensures.links ∙ same,
      rw same at c.doubt.ensures.lowering,
      λ v w. (rw same at c.doubt.ensures.watched) (holds (drop i stations)) (holds (drop (i + 1) stations)) v
          (rw c.from.ensures (next_rest stations i c.loop-s-test.true)) (watched v w),
    )

pub returns-clause-watched : goal.returns-clause-watched
returns-clause-watched c v w =
    let on = links c.args.self.now in
    let stations = c.args.stations.now in
    still_watched (in_row on) (falls on (numbers c.loop-s.self) c.args.level) (noted c.loop-s.fallen) (holds (drop c.loop-s.s-index stations)) (λ t. false) v
    (λ t m. none_rest stations c.loop-s.s-index c.loop-s-test.false t)
    (c.loop-s.invariant.2 v w)
