use Rattle.std.proofs.Common.{sym, ◌∙◌, rules}
use Rattle.inspector.proofs.Claims.{refused_bytes, read_plan}
use Rattle.inspector.proofs.claim.Claim.read.Goals as goal

pub returns-in_err-stations : goal.returns-in_err-stations
returns-in_err-stations c =
    let refused = refused_bytes c.args.sheet.now c.in_err-stations.field-0.0 (sym c.in_err-stations.was ∙ c.read.ensures.answer) in
    search rules

pub returns : goal.returns
returns c =
    read_plan c.args.sheet.now c.read.new.numbers c.read.new.homes c.read.new.ups c.read.new.order c.in_ok-stations.stations
    (sym c.in_ok-stations.was ∙ c.read.ensures.answer) c.read.ensures.numbers c.read.ensures.homes c.read.ensures.ups c.read.ensures.order
