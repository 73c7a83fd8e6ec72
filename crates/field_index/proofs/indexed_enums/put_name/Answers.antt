use Rattle.std.proofs.Common.{◌∙◌}
use Rattle.field_index.proofs.MapLemmas.{name_put}
use Rattle.field_index.proofs.indexed_enums.put_name.Goals as goal

pub returns : goal.returns
returns c =
    name_put c.args.map.now c.insert.new.self c.as_bytes.result c.args.value c.in_ok-insert.ensures.updates
    (c.as_bytes.ensures.value ∙ c.as_str.ensures.value)
