use Rattle.std.proofs.Common.{arith, sym, ◌∙◌}
use Rattle.rb_script.proofs.spelled.Numbers.{too_large, numbers_fits}
use Rattle.rb_script.proofs.words.value_of.Goals as goal

pub returns-in_err-checked_mul : goal.returns-in_err-checked_mul
returns-in_err-checked_mul c =
    c.from_residual.ensures ∙ sym
    (too_large c.loop-digit.value c.loop-digit.digit-index c.args.digits.now c.loop-digit-test.true
    c.loop-digit.invariant.0 (omega (arith, c.in_err-checked_mul.ensures)))

pub returns-in_err-value : goal.returns-in_err-value
returns-in_err-value c =
    let digit = c.from.ensures in
    let mul = c.in_ok-checked_mul.ensures in
    c.from_residual-in_err-value.ensures
    ∙ sym (too_large c.loop-digit.value c.loop-digit.digit-index c.args.digits.now c.loop-digit-test.true
    c.loop-digit.invariant.0 (omega (arith, c.in_err-value.ensures, digit, mul)))

pub returns : goal.returns
returns c = numbers_fits c.loop-digit.value c.loop-digit.digit-index c.args.digits.now c.loop-digit-test.false
    c.loop-digit.invariant.0 c.loop-digit.invariant.1
