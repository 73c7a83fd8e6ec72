use Rattle.std.proofs.Common.{arith}
use Rattle.hpack_codec.proofs.FieldStarts.{next_within, take_next}
use Rattle.hpack_codec.proofs.field_starts.oldest_bytes.Goals as goal

pub overflow_add-sum : goal.overflow_add-sum
overflow_add-sum c = omega (arith, next_within c.loop-older.older c.args.lengths.now.items c.lengths_at-field.result (omega arith) c.lengths_at-field.ensures)

pub overflow_add-sum-in-loop-older : goal.overflow_add-sum-in-loop-older
overflow_add-sum-in-loop-older c = omega (arith, next_within c.loop-older.older c.args.lengths.now.items c.lengths_at-field.result (omega arith) c.lengths_at-field.ensures)

pub loop-older-preserved : goal.loop-older-preserved
loop-older-preserved c = omega (arith, take_next c.loop-older.older c.args.lengths.now.items c.lengths_at-field.result (omega arith) c.lengths_at-field.ensures)
