use Rattle.std.proofs.Common.{◌≡◌, ℤ, [], map, take, drop}
use Rattle.std.specs.BTreeSet.{contains}
use Rattle.std.specs.List.{list_any}
use Rattle.std.specs.Ordering.{int_cmp, int_eq}
use Rattle.descriptors.specs.declared.file_set.FieldInfo.{FieldInfo}
use Rattle.set_faults.specs.MessageFaults.{fields_faults}
use Rattle.set_faults.proofs.field_faults.check_fields.Given as goal

abbrev pub invariant-loop-field : goal.invariant-loop-field
invariant-loop-field l = record {
  rest : fields_faults l.types l.path l.message (map (λ (f : FieldInfo). f.number) (take l.field-index l.field-items)) (drop l.field-index l.field-items) ≡ fields_faults l.types l.path l.message [] l.field-items;
  numbers : (n : ℤ) → contains int_cmp l.before n ≡ list_any (int_eq n) (map (λ (f : FieldInfo). f.number) (take l.field-index l.field-items));
}
