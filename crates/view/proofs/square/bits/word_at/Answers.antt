use Rattle.std.proofs.Common.{◌≡◌, ℕ, ◌+◌, ◌-◌, ◌*◌, ◌<◌, get_or, length, take, drop, rules, tests, ap, ◌∙◌, arith}
use Rattle.std.proofs.lemmas.List.{get_or-drop, length-drop, take_all}
use Rattle.std.proofs.lemmas.Iterator.Adapters.{YieldsList-from_rev_slice}
use Rattle.std.proofs.lemmas.Iterator.Consumers.{fold_from_yields_List}
use Rattle.view.proofs.Words.{with_byte, put_together}
use Rattle.view.proofs.square.bits.word_at.Goals as goal

pub returns-in-None : goal.returns-in-None
returns-in-None c =
    let row = c.args.row.now in
    let from = 8 * c.args.index in
    let rest = drop from row in
    let all : take (length row - from) rest ≡ rest = take_all _ rest (omega (arith, length-drop from row)) in
    let small : (k : ℕ) → get_or rest k 0 < 256 = λ k. let fits = c.type_inv.row (from + k) in omega (arith, get_or-drop from row k 0) in
    fold_from_yields_List _ with_byte 0 c.fold.result c.fold.ensures.ran (YieldsList-from_rev_slice rest (rw c.rev.ensures.source (c.iter.ensures.rest ∙ all))) (λ w x r q k. search (rules, tests))
    ∙ put_together rest small (omega (arith, c.in-None.ensures.cases, ap length all))
