use Rattle.std.proofs.Common.{ℕ, ◌<◌, get_or, rules, tests, arith, ◌∙◌, sym}
use Rattle.std.proofs.lemmas.Iterator.{YieldsList-from_range, YieldsList-from_map}
use Rattle.std.proofs.lemmas.Iterator.Consumers.{sum_from_yields_List, fits_from_yields_list, YieldsList-at}
use lib.Count.{ones}
use Rattle.view.proofs.Bits.{ones_few, ones_summed}
use Rattle.view.proofs.Words.{word, words_summed}
use Rattle.view.proofs.square.bits.count_ones.Goals as goal

pub sum-requires-clause-fits : goal.sum-requires-clause-fits
sum-requires-clause-fits c =
    let row = c.args.row.now in
    let n = c.div_ceil.result in
    let small : (k : ℕ) → get_or row k 0 < 256 = λ k. let fits = c.type_inv.row k in omega arith in
    fits_from_yields_list _ _
    (YieldsList-from_map _ (λ k. ones (word row k)) (YieldsList-at c.map.ensures.source (YieldsList-from_range 0 n n (cc) (omega arith))) c.map.ensures.closure (λ x r q k. search (rules, tests)))
    (omega (arith, ones_few row (λ k h. small k), words_summed row small n 0 (omega (arith, c.div_ceil.ensures))))

pub returns : goal.returns
returns c =
    let row = c.args.row.now in
    let n = c.div_ceil.result in
    let small : (k : ℕ) → get_or row k 0 < 256 = λ k. let fits = c.type_inv.row k in omega arith in
    sum_from_yields_List _ _ c.sum.ensures.ran
    (YieldsList-from_map _ (λ k. ones (word row k)) (YieldsList-at c.map.ensures.source (YieldsList-from_range 0 n n (cc) (omega arith))) c.map.ensures.closure (λ x r q k. search (rules, tests)))
    ∙ words_summed row small n 0 (omega (arith, c.div_ceil.ensures))
    ∙ sym (ones_summed row 0 (λ k h. small k))
