use Rattle.std.proofs.Common.{arith}
use Rattle.std.proofs.lemmas.Grind.{common_steps}
use Rattle.time_texts.proofs.DigitLemmas.{padded_next}
use Rattle.time_texts.proofs.digits.+put_padded.Goals as goal

pub returns-clause-ok : goal.returns-clause-ok
returns-clause-ok t c = let step = padded_next c.args.width c.args.n (omega arith) in grind (arith, common_steps)
