use Rattle.std.proofs.Common.{◌<◌, get_or, option_map, ◌+◌, ◌*◌, sym, ap, ◌∙◌, arith}
use Rattle.view.proofs.Bits.{ones_below, in_this_byte, behind_this_byte, past_the_bytes}
use Rattle.view.proofs.square.bits.nth_one.Goals as goal

pub returns-in_err-bit : goal.returns-in_err-bit
returns-in_err-bit c =
    let row = c.args.row.now in
    let i = c.loop-index.index in
    let byte : get_or row i 0 < 256 = let fits = c.type_inv.row i in omega arith in
    let here = in_this_byte row i c.loop-index.left c.loop-index-test.true byte c.if-left-ones.true in
    c.from_residual.ensures ∙ ap (option_map (λ k. 8 * i + k)) c.in_err-bit.ensures ∙ sym here ∙ c.loop-index.invariant

pub overflow_add-result : goal.overflow_add-result
overflow_add-result c = let low = ones_below (get_or c.args.row.now c.loop-index.index 0) c.loop-index.left c.in_ok-bit.bit c.in_ok-bit.ensures in omega arith

pub returns-then-left-ones : goal.returns-then-left-ones
returns-then-left-ones c =
    let row = c.args.row.now in
    let i = c.loop-index.index in
    let byte : get_or row i 0 < 256 = let fits = c.type_inv.row i in omega arith in
    let here = in_this_byte row i c.loop-index.left c.loop-index-test.true byte c.if-left-ones.true in
    ap (option_map (λ k. 8 * i + k)) c.in_ok-bit.ensures ∙ sym here ∙ c.loop-index.invariant

pub loop-index-preserved : goal.loop-index-preserved
loop-index-preserved c =
    let row = c.args.row.now in
    let i = c.loop-index.index in
    let byte : get_or row i 0 < 256 = let fits = c.type_inv.row i in omega arith in
    sym (behind_this_byte row i c.loop-index.left c.loop-index-test.true byte c.if-left-ones.false) ∙ c.loop-index.invariant

pub returns : goal.returns
returns c = sym (past_the_bytes c.args.row.now c.loop-index.index c.loop-index.left (omega arith)) ∙ c.loop-index.invariant
