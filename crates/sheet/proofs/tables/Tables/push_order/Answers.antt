use Rattle.std.proofs.Common.{length, ap, arith, length-append}
use Rattle.std.proofs.lemmas.List.Folds.{length-flat_map-take}
use Rattle.sheet.specs.Encoding.{field}
use Rattle.sheet.proofs.tables.Tables.push_order.Goals as goal

pub push_field-requires : goal.push_field-requires
push_field-requires c =
    omega (
      arith,
      simp length-append at (ap length c.loop-station.invariant),
      length-flat_map-take field c.args.self.now.order.now c.loop-station.station-index 0 c.loop-station-test.true,
    )
