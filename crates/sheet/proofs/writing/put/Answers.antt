use Rattle.std.proofs.Common.{sym, arith}
use Rattle.std.proofs.lemmas.Bool.Decides.{nat_tests}
use Rattle.sheet.specs.Calls.{plan_in}
use Rattle.sheet.proofs.Lengths.{encode_room}
use Rattle.sheet.proofs.writing.put.Goals as goal

pub encode-requires-clause-room : goal.encode-requires-clause-room
encode-requires-clause-room c =
    let p = plan_in c.args.numbers.now c.args.homes.now c.args.ups.now c.args.order.now in
    encode_room p (grind (arith, nat_tests)) (sym c.if-not-has_equal_lengths.ensures) (sym c.in_default.ensures)
