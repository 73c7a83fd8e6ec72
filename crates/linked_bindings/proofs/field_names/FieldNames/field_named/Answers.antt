use Rattle.std.proofs.Common.{◌≡◌, List, Some, None, ap, sym, ◌∙◌, option_and_then, slice_get}
use Rattle.std.specs.Option.{option_copied}
use Rattle.descriptor_pool.specs.NameIndex.{index_at}
use Rattle.linked_api.specs.FieldPaths.{field_named}
use Rattle.message_types.specs.Types.{fields_of}
use Rattle.message_types.specs.declared.fields.Field.{Field}
use Rattle.message_types.specs.declared.messages.Types.{Types}
use Rattle.linked_bindings.proofs.NameLookup.{found_by_index, not_found}
use Rattle.linked_bindings.proofs.field_names.FieldNames.field_named.Goals as goal

pub returns-in-Some : goal.returns-in-Some
returns-in-Some c =
    let got = sym c.index_of_type.ensures ∙ ap option_copied c.in-Some.is in
    let index : slice_get c.self.inside.indexes.items c.args.id.0 ≡ Some c.in-Some.index.now =
    ap (λ xs. slice_get xs c.args.id.0) (sym c.as_slice.ensures.value) ∙ got in
    c.field_at.ensures
    ∙ ap (option_and_then (slice_get c.fields.result.now)) c.place_named.ensures
    ∙ ap (λ (fs : List Field). option_and_then (slice_get fs) (index_at c.in-Some.index.now c.args.name.now))
    c.fields.ensures
    ∙ found_by_index c.self.inside.types.now c.args.id c.self.inside.indexes.items c.in-Some.index.now c.args.name.now
    c.self.invariant index
    ∙ ap (λ (t : Types). field_named (fields_of t c.args.id) c.args.name.now) c.self.view_is

pub returns-in-None : goal.returns-in-None
returns-in-None c =
    let got = sym c.index_of_type.ensures ∙ ap option_copied c.in-None.is in
    let none : slice_get c.self.inside.indexes.items c.args.id.0 ≡ None =
    ap (λ xs. slice_get xs c.args.id.0) (sym c.as_slice.ensures.value) ∙ got in
    sym (not_found c.self.inside.types.now c.args.id c.self.inside.indexes.items c.args.name.now c.self.invariant none)
    ∙ ap (λ (t : Types). field_named (fields_of t c.args.id) c.args.name.now) c.self.view_is
