use Rattle.std.proofs.Common.{◌≡◌, ◌∙◌, Bool, true, false, [], map, take, not, refl, ap, subst, SFits, w32, rules}
use Rattle.std.proofs.lemmas.Result.{err_from_is_err_and}
use Rattle.std.specs.List.{list_any}
use Rattle.std.specs.BTreeSet.{Updates, contains}
use Rattle.std.specs.Ordering.{int_cmp, int_eq}
use Rattle.std.proofs.lemmas.Int.{to_z-of_z}
use Rattle.set_faults.specs.LinkFaults.{IsFirst}
use Rattle.set_faults.specs.MessageFaults.{field_faults, fields_faults}
use Rattle.set_faults.proofs.FieldLemmas.{fields_here, fields_past, number_of, numbers_next}
use Rattle.set_faults.proofs.field_faults.check_fields.Goals as goal

not_not : (b : Bool) → not (not b) ≡ b
not_not true = refl
not_not false = refl

pub returns-in_err-check_field : goal.returns-in_err-check_field
returns-in_err-check_field c =
    let types = c.args.types.now in
    let path = c.args.path.now in
    let m = c.args.message.now in
    let fs = c.as_slice-field-items.result.now in
    let i = c.loop-field.field-index in
    let x = c.field-item.result in
    let held = c.loop-field.invariant in
    let fits : SFits w32 x.number = search rules in
    let same = to_z-of_z w32 x.number fits in
    let came : not c.in_ok-came_before.field-0 ≡ list_any (int_eq x.number) (map number_of (take i fs)) =
    ap not (c.in_ok-came_before.ensures.added ∙ ap (λ z. not (contains int_cmp c.loop-field.before z)) same) ∙ not_not _ ∙ held.numbers x.number in
    let all = c.as_slice-field-items.ensures ∙ ap (λ z. z.fields) c.message.view_is in
    let p = err_from_is_err_and c.from_residual-in_err-check_field.result c.from_residual-in_err-check_field.ensures.1 in
    let e = c.in_err-check_field.field-0.0 in
    let own = subst (λ b. IsFirst e (field_faults types path m b x)) came c.in_err-check_field.ensures in
    rw (p.1, p.2)
    (subst (λ z. IsFirst e (fields_faults types path m [] z)) all
    (subst (IsFirst e) held.rest (fields_here types path m fs i x c.loop-field-test.true c.field-item.is e own)))

pub loop-field-preserved : goal.loop-field-preserved
loop-field-preserved c =
    let types = c.args.types.now in
    let path = c.args.path.now in
    let m = c.args.message.now in
    let fs = c.as_slice-field-items.result.now in
    let i = c.loop-field.field-index in
    let x = c.field-item.result in
    let held = c.loop-field.invariant in
    let lt = c.loop-field-test.true in
    let is = c.field-item.is in
    let fits : SFits w32 x.number = search rules in
    let same = to_z-of_z w32 x.number fits in
    let came : not c.in_ok-came_before.field-0 ≡ list_any (int_eq x.number) (map number_of (take i fs)) =
    ap not (c.in_ok-came_before.ensures.added ∙ ap (λ z. not (contains int_cmp c.loop-field.before z)) same) ∙ not_not _ ∙ held.numbers x.number in
    let own = subst (λ b. field_faults types path m b x ≡ []) came c.in_ok-check_field.ensures in
    let updates = subst (λ z. Updates int_cmp c.loop-field.before c.insert.new.self z true) same c.in_ok-came_before.ensures.updates in
    record {
      rest = fields_past types path m fs i x lt is own ∙ held.rest;
      numbers = numbers_next types path m fs i x lt is c.loop-field.before c.insert.new.self updates held.numbers;
    }
