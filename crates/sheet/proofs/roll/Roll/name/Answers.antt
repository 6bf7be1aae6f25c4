use Rattle.std.proofs.Common.{◌≡◌, true, false, arith}
use Rattle.std.proofs.lemmas.Bool.Decides.{nat_tests}
use Rattle.sheet.specs.Parts.{unnamed}
use Rattle.sheet.proofs.RollLaws.{without_marked, without_none}
use Rattle.sheet.proofs.roll.Roll.name.Goals as goal
use Rattle.sheet.proofs.roll.Roll.name.Goals.{then-place-self, else-place-self}

pub returns-then-fits-clause-after : goal.returns-then-fits-clause-after
returns-then-fits-clause-after c =
    let fits : unnamed c.args.self.now c.args.station ≡ true
    = elim c.if-place-self.branch [ then-place-self w ↦ grind (arith, nat_tests) | else-place-self w ↦ grind (arith, nat_tests) ] in
    without_marked c.args.self.now.count c.args.station c.from-place.result c.args.self.now.named c.from-place.ensures (omega arith) fits

pub returns-else-fits-clause-after : goal.returns-else-fits-clause-after
returns-else-fits-clause-after c =
    let out : unnamed c.args.self.now c.args.station ≡ false
    = elim c.if-place-self.branch [ then-place-self w ↦ grind (arith, nat_tests) | else-place-self w ↦ grind (arith, nat_tests) ] in
    without_none c.args.station (unnamed c.args.self.now) out
