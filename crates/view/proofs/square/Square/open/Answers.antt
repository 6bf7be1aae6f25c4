use Rattle.std.proofs.Common.{not, is_ok, sym, ap, ◌∙◌}
use Rattle.view.proofs.Grids.{grid_faithful, grid_passed}
use Rattle.view.proofs.square.Square.open.Goals as goal

pub invariant_of-result : goal.invariant_of-result
invariant_of-result c =
    let sound = grid_passed _ (ap is_ok (sym c.check.ensures) ∙ c.is_err.ensures.negation ∙ ap not c.if-is_err.false) in
    record { sound = sound; faithful = grid_faithful _ sound }
