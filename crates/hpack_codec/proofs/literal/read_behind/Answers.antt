use Rattle.hpack_codec.specs.FieldRepresentation.{name_in}
use Rattle.hpack_codec.proofs.LiteralLemmas.{long_name}
use Rattle.hpack_codec.proofs.literal.read_behind.Goals as goal

pub returns-in-Over-default-clause-literal : goal.returns-in-Over-default-clause-literal
returns-in-Over-default-clause-literal c =
    long_name (name_in c.args.table.now c.args.index c.args.rest.now) c.args.rest.now c.args.len c.args.room c.put_name.result.1 c.put_name.new.out.items c.read_long.new.out.items c.put_name.result.0 c.read_long.result
    c.in-Over-default.is-0 c.put_name.ensures.put c.read_long.ensures.literal
