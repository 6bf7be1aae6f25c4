use Rattle.std.proofs.Common.{◌≡◌, length, replicate, slice_index, rules}
use Rattle.rules.proofs.Links.{no_counts}
use Rattle.rules.proofs.Sweeps.{nothing_noted}
use Rattle.rules.proofs.numbered.Numbered.note_stations.Goals as goal

pub loop-s-init : goal.loop-s-init
loop-s-init g c =
    let filled : c.fill.new.self ≡ replicate (length c.args.list.now) no_counts = search rules in
    rw filled (nothing_noted (g.V.View.site c.args.self.now.view.now) (slice_index c.args.self.now.numbers.now) (length c.args.list.now))
