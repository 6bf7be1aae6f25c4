use Rattle.std.proofs.Common.{rules, tests, arith, ◌*◌, ◌&&◌, ◌∙◌, sym}
use Rattle.std.proofs.lemmas.Iterator.{YieldsList-from_range}
use Rattle.std.proofs.lemmas.Iterator.Search.{any_from_yields_List}
use Rattle.cores.proofs.Searches.{some_listed}
use Rattle.view.specs.Grid.{bitmap, row_length, cell, no_neighbour, bad_row}
use Rattle.view.proofs.Grids.{bits_enough}
use Rattle.view.proofs.Admitted.{sized_within}
use Rattle.view.proofs.square.Grid.row_is_bad.Goals as goal

pub overflow_mul-row_length : goal.overflow_mul-row_length
overflow_mul-row_length c = let n = c.args.self.now.stations in omega (arith, bits_enough n, sized_within n c.requires.sized)

pub returns : goal.returns
unfolding bad_row
returns c =
    let b = bitmap c.args.self.now in
    let n = 8 * row_length b.stations in
    any_from_yields_List (λ t. cell b c.args.s t && no_neighbour b c.args.s t) _ _ c.any.result c.any.ensures.ran (YieldsList-from_range 0 n n (cc) (omega arith)) (λ x r q k. search (rules, tests))
    ∙ sym (some_listed n (λ t. cell b c.args.s t && no_neighbour b c.args.s t))
