use Rattle.std.proofs.Common.{rules}
use Rattle.sheet.proofs.SheetLaws.{accepted}
use Rattle.inspector.specs.Parts.{claimed}
use Rattle.inspector.proofs.Verdicts.{decoded, can_be_judged, can_be_compared}
use Rattle.inspector.proofs.inspecting.inspect.Goals as goal

pub new-requires : goal.new-requires
new-requires g c =
    let p = claimed c.in_ok-claim.claim in
    let on_sheet = decoded c.args.sheet.now p (search rules) in
    rw (c.numbers.ensures, c.order.ensures) (can_be_judged (g.V.View.site c.args.view.now) p (accepted c.args.sheet.now p on_sheet).0 (search rules))

pub find_wrong-requires : goal.find_wrong-requires
find_wrong-requires g c =
    let view = c.args.view.now in
    let p = claimed c.in_ok-claim.claim in
    let on_sheet = decoded c.args.sheet.now p (search rules) in
    can_be_compared (g.V.View.site view) p (accepted c.args.sheet.now p on_sheet).0 (search rules) (g.met.V.View.faithful view).lawful (search rules)
