use Rattle.std.proofs.Common.{arith}
use Rattle.time_texts.proofs.DigitLemmas.{scale_room}
use Rattle.time_texts.proofs.fraction.+scaled.Goals as goal

pub overflow_mul-value : goal.overflow_mul-value
overflow_mul-value t c = omega (arith, scale_room c.args.value c.args.places c.requires.places c.if-places-eq9.false c.requires.below)
