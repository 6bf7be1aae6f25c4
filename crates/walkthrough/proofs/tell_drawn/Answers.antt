use Rattle.std.proofs.Common.{sym, ap, ◌∙◌}
use Rattle.inspector.specs.Inspecting.{inspected}
use Rattle.walkthrough.specs.Ending.{status_of}
use Rattle.walkthrough.proofs.Drawn.{drawn_sheet}
use Rattle.walkthrough.proofs.tell_drawn.Goals as goal

pub returns : goal.returns
returns g c =
    let site = g.V.View.site c.args.view.now in
    let drawn = drawn_sheet site 3586 c.in_ok-length.length c.draw.new.out _ (sym c.in_ok-length.was ∙ c.draw.ensures.answer) c.draw.ensures.out in
    c.in_ok-code.ensures ∙ ap (λ bytes. status_of (inspected site bytes)) drawn
