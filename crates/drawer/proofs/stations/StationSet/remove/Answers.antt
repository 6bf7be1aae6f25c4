use Rattle.std.proofs.Common.{arith, rules, length, ◌≡◌}
use Rattle.drawer.proofs.Sets.{taken_out}
use Rattle.drawer.proofs.stations.StationSet.remove.Goals as goal

pub returns : goal.returns
returns c =
    let words = c.args.self.now.words in
    let long : length words ≡ 8 = search rules in
    taken_out words c.args.s (omega (arith, long, c.requires))
