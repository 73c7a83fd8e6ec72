use Rattle.hpack_codec.proofs.FieldLemmas.{split_pushed}
use Rattle.hpack_codec.proofs.representation.push_split.Goals as goal

pub returns : goal.returns
returns c = split_pushed c.args.bytes.now c.args.middle c.room.result c.args.fields.now c.push.new.self c.requires c.if-bytes-room.false c.room.ensures c.push.ensures
