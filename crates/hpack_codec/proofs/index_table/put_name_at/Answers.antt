use Rattle.std.proofs.Common.{◌≡◌, ◌++◌, ◌∙◌, ap}
use Rattle.hpack_codec.specs.StaticTable.{HeaderField}
use Rattle.hpack_codec.proofs.IndexRows.{some_and}
use Rattle.hpack_codec.proofs.index_table.put_name_at.Goals as goal

pub returns-in-Some-Static-clause-put : goal.returns-in-Some-Static-clause-put
returns-in-Some-Static-clause-put c =
    let row = rw c.in-Some-Static.field-0-is at c.in-Some-Static.ensures in
    some_and (λ (f : HeaderField). c.append_within.new.out.items ≡ c.args.out.now.items ++ f.0) _ _ row.0
    (c.append_within.ensures.items ∙ ap (λ (f : HeaderField). c.args.out.now.items ++ f.0) c.static_field.ensures.field)

pub returns-in-Some-Dynamic-clause-put : goal.returns-in-Some-Dynamic-clause-put
returns-in-Some-Dynamic-clause-put c =
    let row = rw c.in-Some-Dynamic.field-0-is at c.in-Some-Dynamic.ensures in
    some_and (λ (f : HeaderField). c.put_name.new.out.items ≡ c.args.out.now.items ++ f.0) _ _ row.0 c.put_name.ensures.name
