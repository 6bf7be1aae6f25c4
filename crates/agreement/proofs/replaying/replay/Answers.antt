use Rattle.std.proofs.Common.{arith}
use Rattle.agreement.proofs.Agreed.{agreed}
use Rattle.agreement.proofs.replaying.replay.Goals as goal

pub returns : goal.returns
returns g c =
    let view = c.args.view.now in
    let rule = c.args.rule.now in
    let did = c.carry_out-book.ensures in
    let came = c.of.ensures in (
      omega arith,
      agreed c.args.calls.now (g.V.View.site view) (g.met.V.View.faithful view).lawful (g.R.Rule.scores rule) (g.R.Rule.orders rule) (g.met.R.Rule.lawful rule)
          c.args.offered.now c.args.answers.now c.carry_out-book.new.answers c.args.buffer.now c.of.new.buffer c.carry_out-book.result c.of.result
          did.site did.answers did.moves (omega arith) came.book came.length came.buffer came.sheet came.offered came.book_level came.view_level,
    )
