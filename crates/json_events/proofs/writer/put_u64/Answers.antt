-- The digits denote the number.
use Rattle.std.proofs.Common.{refl, arith, decimal}
use Rattle.json_events.proofs.writing.DecimalLemmas.{decimal_denotes}
use Rattle.json_events.proofs.writer.put_u64.Goals as goal

pub returns-clause-means : goal.returns-clause-means
returns-clause-means c = (
  decimal c.args.n,
  rw (c.in_ok-extend_from_slice.ensures.items, c.as_bytes.ensures.value, c.format.ensures.text) refl,
  decimal_denotes c.args.n (omega arith),
)
