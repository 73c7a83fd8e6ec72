use Rattle.std.proofs.Common.{◌∙◌}
use Rattle.field_index.proofs.MapLemmas.{keys_put}
use Rattle.field_index.proofs.indexed_fields.put_keys.Goals as goal

pub returns : goal.returns
returns c =
    keys_put c.args.map.now c.insert.new.self c.insert-2.new.self c.as_bytes.result c.as_bytes-2.result c.args.field
    c.in_ok-insert.ensures.updates c.in_ok-insert-2.ensures.updates (c.as_bytes.ensures.value ∙ c.as_str.ensures.value)
    (c.as_bytes-2.ensures.value ∙ c.as_str-2.ensures.value)
