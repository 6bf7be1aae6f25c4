use Rattle.std.proofs.Common.{ℕ, ◌<◌, get_or, sym, ◌∙◌, arith}
use Rattle.view.proofs.Ones.{found_in_word, found_behind}
use Rattle.view.proofs.square.bits.find_one.Goals as goal

pub returns-then-rest-ne0 : goal.returns-then-rest-ne0
returns-then-rest-ne0 c =
    let row = c.args.row.now in
    let small : (k : ℕ) → get_or row k 0 < 256 = λ k. let fits = c.type_inv.row k in omega arith in
    sym (found_in_word row small c.loop-bit.bit c.word_at.result c.word_at.ensures (omega (arith, c.if-rest-ne0.true))) ∙ c.loop-bit.invariant

pub loop-bit-preserved : goal.loop-bit-preserved
loop-bit-preserved c =
    let row = c.args.row.now in
    let small : (k : ℕ) → get_or row k 0 < 256 = λ k. let fits = c.type_inv.row k in omega arith in
    sym (found_behind row small c.loop-bit.bit c.word_at.result c.word_at.ensures c.loop-bit-test.true c.if-rest-ne0.false) ∙ c.loop-bit.invariant
