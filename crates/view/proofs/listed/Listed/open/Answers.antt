use Rattle.std.proofs.Common.{not, is_ok, sym, ap, ◌∙◌}
use Rattle.view.proofs.Checks.{passed_sound}
use Rattle.view.proofs.Listings.{faithful}
use Rattle.view.proofs.listed.Listed.open.Goals as goal

pub invariant_of-result : goal.invariant_of-result
invariant_of-result c =
    let sound = passed_sound _ (ap is_ok (sym c.check.ensures) ∙ c.is_err.ensures.negation ∙ ap not c.if-is_err.false) in
    record { sound = sound; faithful = faithful _ sound }
