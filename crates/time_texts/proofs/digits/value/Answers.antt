use Rattle.std.proofs.Common.{arith}
use Rattle.time_texts.proofs.DigitLemmas.{digit_low, value_below, value_next, value_room, value_all}
use Rattle.time_texts.proofs.digits.value.Goals as goal

pub overflow_mul-value : goal.overflow_mul-value
overflow_mul-value c = omega (arith, value_room c.args.digits.now c.loop-digit.digit-index c.loop-digit-test.true c.requires.few c.requires.digits)

pub overflow_sub-value : goal.overflow_sub-value
overflow_sub-value c = digit_low c.args.digits.now c.loop-digit.digit-index c.loop-digit-test.true c.requires.digits

pub overflow_add-value : goal.overflow_add-value
overflow_add-value c = omega (arith, value_room c.args.digits.now c.loop-digit.digit-index c.loop-digit-test.true c.requires.few c.requires.digits)

pub loop-digit-preserved : goal.loop-digit-preserved
loop-digit-preserved c = omega (arith, value_next c.args.digits.now c.loop-digit.digit-index c.loop-digit-test.true c.requires.digits)

pub returns-clause-below : goal.returns-clause-below
returns-clause-below c = omega (arith, value_below c.args.digits.now c.requires.digits, value_all c.args.digits.now c.loop-digit.digit-index (omega arith))
