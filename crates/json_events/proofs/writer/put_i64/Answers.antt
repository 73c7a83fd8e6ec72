-- The digits with their sign denote the number.
use Rattle.std.proofs.Common.{rules, arith}
use Rattle.std.specs.Fmt.{signed_decimal}
use Rattle.std.proofs.lemmas.Int.{ints}
use Rattle.json_events.proofs.writing.DecimalLemmas.{signed_decimal_denotes}
use Rattle.json_events.proofs.writer.put_i64.Goals as goal

pub returns-clause-means : goal.returns-clause-means
returns-clause-means c = (
  signed_decimal c.args.n,
  search rules,
  signed_decimal_denotes c.args.n (omega (arith, ints, c.ranges.n)),
)
