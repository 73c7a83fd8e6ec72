use Rattle.std.proofs.Common.{◌∙◌}
use Rattle.hpack_codec.proofs.FieldStarts.{name_put, within_lengths}
use Rattle.hpack_codec.proofs.dynamic_table.DynamicTable.put_name.Goals as goal

pub field_start-start-requires-clause-within : goal.field_start-start-requires-clause-within
field_start-start-requires-clause-within c = within_lengths c.self.inside.lengths.items c.self.inside.bytes.items c.self.inside.max_size c.args.i c.args.self.now c.self.view_is c.requires.within

pub returns-clause-name : goal.returns-clause-name
returns-clause-name c =
    c.append_range.ensures.items
    ∙ name_put c.self.inside.lengths.items c.self.inside.bytes.items c.self.inside.max_size c.args.i c.field_start-start.result.0 c.field_start-start.result.1 c.args.self.now c.args.out.now.items c.self.view_is c.requires.within c.field_start-start.ensures
