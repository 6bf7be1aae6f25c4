use Rattle.std.proofs.Common.{◌≡◌, ◌<◌, ◌++◌, drop, map, ap, ◌∙◌, arith}
use Rattle.std.proofs.lemmas.Bool.Decides.{nat_tests}
use Rattle.std.proofs.lemmas.List.FromFn.{length-range_with_len, get_or-range_with_len}
use Rattle.std.specs.List.{range_with_len}
use Rattle.cores.specs.Numbers.{number}
use Rattle.sheet.specs.Sites.{plan_of}
use Rattle.sheet.proofs.Runs.{Filled-more, Filled-all}
use Rattle.book.specs.Books.{site}
use Rattle.planner_c.proofs.linking.note_numbers.Goals as goal

pub loop-s-preserved : goal.loop-s-preserved
loop-s-preserved c =
    let g = site c.args.book.now in
    let s = c.loop-s.s in
    let here : s < g.size = omega (arith, c.stations-s-end.ensures) in
    Filled-more (number g) s (range_with_len 0 g.size) c.args.numbers.now c.loop-s.numbers s c.unwrap_or.result
    (omega (arith, length-range_with_len 0 g.size)) (omega arith) (omega (arith, get_or-range_with_len 0 g.size s s here))
    (grind (arith, nat_tests, c.number.ensures, c.unwrap_or.ensures, here)) c.loop-s.invariant

pub returns : goal.returns
unfolding plan_of
returns c =
    let g = site c.args.book.now in
    let items = range_with_len 0 g.size in
    let end : c.loop-s.s ≡ g.size = omega arith in
    Filled-all (number g) c.loop-s.s items c.args.numbers.now c.loop-s.numbers (length-range_with_len 0 g.size ∙ omega arith) c.loop-s.invariant
    ∙ ap (λ k. map (number g) items ++ drop k c.args.numbers.now) end
