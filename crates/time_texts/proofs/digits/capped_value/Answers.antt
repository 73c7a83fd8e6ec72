use Rattle.std.proofs.Common.{arith}
use Rattle.time_texts.proofs.DigitLemmas.{digit_low, digit_high, value_next, value_all}
use Rattle.time_texts.proofs.digits.capped_value.Goals as goal

pub overflow_mul-value : goal.overflow_mul-value
overflow_mul-value c = omega arith

pub overflow_sub-digit : goal.overflow_sub-digit
overflow_sub-digit c = digit_low c.args.digits.now c.loop-digit.digit-index c.loop-digit-test.true c.requires.digits

pub overflow_add-value : goal.overflow_add-value
overflow_add-value c = omega (arith, digit_high c.args.digits.now c.loop-digit.digit-index c.loop-digit-test.true c.requires.digits)

pub loop-digit-preserved : goal.loop-digit-preserved
loop-digit-preserved c = omega (arith, value_next c.args.digits.now c.loop-digit.digit-index c.loop-digit-test.true c.requires.digits)

pub returns : goal.returns
returns c = omega (arith, value_all c.args.digits.now c.loop-digit.digit-index (omega arith))
