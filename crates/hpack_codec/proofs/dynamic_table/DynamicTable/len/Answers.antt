use Rattle.std.proofs.Common.{◌∙◌, length, ap, sym}
use Rattle.hpack_codec.specs.DynamicTable.{HeaderTable}
use Rattle.hpack_codec.proofs.FieldStarts.{newest_len}
use Rattle.hpack_codec.proofs.dynamic_table.DynamicTable.len.Goals as goal

pub returns : goal.returns
returns c = c.len.ensures.len ∙ (sym (newest_len c.self.inside.lengths.items c.self.inside.bytes.items) ∙ ap (λ (t : HeaderTable). length t.fields) c.self.view_is)
