use Rattle.std.proofs.Common.{take, arith}
use Rattle.std.proofs.lemmas.Grind.{common_steps}
use Rattle.std.proofs.lemmas.Simd.{map-map}
use Rattle.view.specs.Ups.{up_in_table}
use Rattle.sheet.proofs.unpacked.Unpacked.copy_to.Goals as goal

pub returns-clause-ups : goal.returns-clause-ups
returns-clause-ups c =
    let n = c.args.self.now.count in
    let items = take n c.args.self.now.entries in
    rw (map-map up_in_table (λ e. e.up) items) (grind (arith, common_steps))
