use Rattle.std.proofs.Common.{◌≡◌, ◌++◌, ◌∙◌, List, ℕ, ap, length, append_assoc}
use Rattle.hpack_codec.specs.StaticTable.{HeaderField}
use Rattle.hpack_codec.proofs.IndexRows.{some_and}
use Rattle.hpack_codec.proofs.index_table.put_field_at.Goals as goal

pub returns-in-Some-Static-clause-put : goal.returns-in-Some-Static-clause-put
returns-in-Some-Static-clause-put c =
    let row = rw c.in-Some-Static.field-0-is at c.in-Some-Static.ensures in
    some_and (λ (f : HeaderField). (c.append_within-in-Some-Static.new.out.items ≡ c.args.out.now.items ++ (f.0 ++ f.1)) × (length c.static_field.result.0.now ≡ length f.0)) _ _ row.0 (
      c.append_within-in-Some-Static.ensures.items
          ∙ (ap (λ (xs : List ℕ). xs ++ c.static_field.result.1.now) c.append_within.ensures.items
          ∙ (append_assoc c.args.out.now.items c.static_field.result.0.now c.static_field.result.1.now
          ∙ ap (λ (f : HeaderField). c.args.out.now.items ++ (f.0 ++ f.1)) c.static_field.ensures.field)),
      ap (λ (f : HeaderField). length f.0) c.static_field.ensures.field,
    )

pub returns-in-Some-Dynamic-clause-put : goal.returns-in-Some-Dynamic-clause-put
returns-in-Some-Dynamic-clause-put c =
    let row = rw c.in-Some-Dynamic.field-0-is at c.in-Some-Dynamic.ensures in
    some_and (λ (f : HeaderField). (c.put_field.new.out.items ≡ c.args.out.now.items ++ (f.0 ++ f.1)) × (c.put_field.result ≡ length f.0)) _ _ row.0
    (c.put_field.ensures.field, c.put_field.ensures.name)
