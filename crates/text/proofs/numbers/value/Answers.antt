use Rattle.std.proofs.Common.{◌≡◌, ◌+◌, ◌*◌, ◌-◌, ◌^◌, get_or, drop, ap, sym, ◌∙◌, arith, rules}
use Rattle.text.proofs.DigitSteps.{value_on, from_zero, no_digit, one_more, too_large, no_more}
use Rattle.text.proofs.numbers.value.Goals as goal

pub loop-b-init : goal.loop-b-init
loop-b-init c = (from_zero _ c.args.bytes.now, omega arith)

pub returns-then-not-is_ascii_digit : goal.returns-then-not-is_ascii_digit
returns-then-not-is_ascii_digit c = no_digit _ _ _ _ c.loop-b-test.true (search rules) ∙ c.loop-b.invariant.0

pub returns-in_err-checked_mul : goal.returns-in_err-checked_mul
returns-in_err-checked_mul c = c.from_residual.ensures ∙ too_large _ _ _ _ c.loop-b-test.true (omega (arith, c.in_err-checked_mul.ensures)) ∙ c.loop-b.invariant.0

pub returns-in_err-sum : goal.returns-in_err-sum
returns-in_err-sum c =
    c.from_residual-in_err-sum.ensures
    ∙ too_large _ _ _ _ c.loop-b-test.true (omega (arith, c.in_err-sum.ensures, c.in_ok-checked_mul.ensures, c.from.ensures)) ∙ c.loop-b.invariant.0

pub loop-b-preserved : goal.loop-b-preserved
loop-b-preserved c =
    let w = c.args.bytes.now in
    let i = c.loop-b.b-index in
    let sum : c.in_ok-sum.sum ≡ c.loop-b.sum * 10 + (get_or w i 0 - 48) = omega (arith, c.in_ok-sum.ensures, c.in_ok-checked_mul.ensures, c.from.ensures) in
    (ap (λ n. value_on (2 ^ 64 - 1) n (drop (i + 1) w)) sum ∙ sym (one_more _ c.loop-b.sum w i c.loop-b-test.true (search rules)) ∙ c.loop-b.invariant.0, omega (arith, c.in_ok-sum.ensures))

pub returns : goal.returns
returns c = no_more _ _ _ _ c.loop-b-test.false (omega arith) ∙ c.loop-b.invariant.0
