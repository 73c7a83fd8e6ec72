use Rattle.time_texts.proofs.TimestampReads.{hour_digits, minute_digits, second_digits}
use Rattle.time_texts.proofs.civil.civil_of.Goals as goal

pub number_at-requires-4-clause-digits : goal.number_at-requires-4-clause-digits
number_at-requires-4-clause-digits c = hour_digits c.args.text.now c.requires.front

pub number_at-requires-5-clause-digits : goal.number_at-requires-5-clause-digits
number_at-requires-5-clause-digits c = minute_digits c.args.text.now c.requires.front

pub number_at-requires-6-clause-digits : goal.number_at-requires-6-clause-digits
number_at-requires-6-clause-digits c = second_digits c.args.text.now c.requires.front
