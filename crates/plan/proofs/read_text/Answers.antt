use Rattle.plan.proofs.Taken.{read_up_to}
use Rattle.plan.proofs.read_text.Goals as goal

pub returns : goal.returns
returns g c =
    read_up_to g.R.Read.remaining 60001 c.take.result.limit c.args.input c.take.result.inner c.new-text.result.items c.read_to_end.new.buf.items
    c.take.ensures.limit c.take.ensures.inner c.new-text.ensures.items c.in_ok-read_to_end.ensures.bytes
