use Rattle.hpack_codec.proofs.FieldStarts.{field_starts}
use Rattle.hpack_codec.proofs.field_starts.field_start.Goals as goal

pub returns : goal.returns
returns c = field_starts c.args.lengths.now.items c.len.result c.args.i c.oldest_bytes.result c.lengths_at.result c.len.ensures.len c.requires.within c.lengths_at.ensures c.oldest_bytes.ensures
