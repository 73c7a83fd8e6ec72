-- Fields without faults are lawful.
use Rattle.std.proofs.Common.{◌≡◌, ◌++◌, ◌&&◌, ◌||◌, ℕ, ℤ, Bool, true, false, cond, List, [], ◌∷◌, length, Option, Some, None, IsSome, is_none, not, refl, sym, ap, ◌∙◌, codes}
use Rattle.std.proofs.lemmas.Bool.{and_parts, not-true, or_parts}
use Rattle.std.specs.List.{AllByRecursion, list_any}
use Rattle.std.specs.Ordering.{int_eq}
use Rattle.std.specs.Str.{bytes_eq}
use Rattle.descriptors.specs.declared.file_set.FieldInfo.{FieldInfo}
use Rattle.descriptor_pool.specs.DeclaredNames.{DeclaredEnum, DeclaredMessage}
use Rattle.descriptor_pool.specs.DeclaredTypes.{SetTypes, message_named}
use Rattle.descriptor_pool.specs.FieldTypes.{has_type, value_field}
use Rattle.set_faults.specs.LawfulSets.{IsLawfulEnumType, IsLawfulField, IsLawfulType}
use Rattle.set_faults.specs.LinkFaults.{fault_if}
use Rattle.set_faults.specs.MessageFaults.{enum_faults, enum_of, enum_type_faults, field_faults, field_name, fields_faults, has_lawful_entry, is_field_number, is_lawful_enum, is_lawful_field, is_lawful_label, is_oneof_index, is_type_number, type_faults}
use Rattle.set_faults.specs.declared.fault.LinkFault.TheVariants.{At}
use Rattle.set_faults.specs.declared.fault.LinkKind.TheVariants.{BadEnum, BadField, Float, Group, StructType, UnknownType}
use Rattle.set_faults.proofs.Theorems.{none_parts, test_fails, test_holds}

is_some_if : {T : Type 0} (t : Bool) (o : Option T) → (t && is_none o) ≡ false → t ≡ true → IsSome o
is_some_if true (Some i) h e = refl
is_some_if true None h e = absurd (cc h)
is_some_if false o h e = absurd (cc e)

module _ (types : SetTypes) (name path : List ℕ) where
  enum_lawful : (type_name : List ℕ) (o : Option DeclaredEnum) → enum_of types type_name ≡ o → enum_faults name path type_name o ≡ [] → IsLawfulEnumType types type_name
  enum_lawful type_name None e h = absurd (cc h)
  enum_lawful type_name (Some d) e h =
      let null = bytes_eq d.name (codes "google.protobuf.NullValue") in
      let parts = none_parts (fault_if null (At StructType name path)) (fault_if (not (is_lawful_enum d.values)) (At BadEnum d.name [])) h in
      record {
        enum = d;
        enum_is = e;
        null = test_fails null (At StructType name path) parts.0;
        lawful = test_holds (is_lawful_enum d.values) (At BadEnum d.name []) parts.1;
      }

  -- a type without faults is lawful
  type_lawful : (v : FieldInfo) → type_faults types name path v ≡ [] → IsLawfulType types v
  type_lawful v h =
      let group = none_parts (fault_if (has_type 10 v) (At Group name [])) _ h in
      let floats = none_parts (fault_if (has_type 1 v || has_type 2 v) (At Float name path)) _ group.1 in
      let message = none_parts (fault_if (has_type 11 v && is_none (message_named types v.type_name)) (At UnknownType name v.type_name)) (enum_type_faults types name path v) floats.1 in
      let apart = or_parts (has_type 1 v) (has_type 2 v) (test_fails (has_type 1 v || has_type 2 v) (At Float name path) floats.0) in
      record {
        group = test_fails (has_type 10 v) (At Group name []) group.0;
        double = apart.0;
        float = apart.1;
        message = is_some_if (has_type 11 v) (message_named types v.type_name) (test_fails (has_type 11 v && is_none (message_named types v.type_name)) (At UnknownType name v.type_name) message.0);
        enum = λ e. enum_lawful v.type_name (enum_of types v.type_name) refl
            (sym (ap (λ b. cond b (enum_faults name path v.type_name (enum_of types v.type_name)) []) e) ∙ message.1);
      }

module _ (types : SetTypes) (path : List ℕ) (m : DeclaredMessage) where
  -- a field without faults is lawful, and its number did not come before
  pub field_lawful : (came : Bool) (f : FieldInfo) → field_faults types path m came f ≡ [] → IsLawfulField types m f × (came ≡ false)
  field_lawful came f h =
      let parts = none_parts (fault_if (not (is_lawful_field types m came f)) (At BadField (field_name m f) [])) (type_faults types (field_name m f) path (value_field types f)) h in
      let all = test_holds (is_lawful_field types m came f) (At BadField (field_name m f) []) parts.0 in
      let number = and_parts (is_field_number f.number) _ all in
      let new = and_parts (not came) _ number.1 in
      let kind = and_parts (is_type_number f.type_number) _ new.1 in
      let label = and_parts (is_lawful_label f) _ kind.1 in
      let member = and_parts (is_oneof_index (length m.oneofs) f.oneof_index) (has_lawful_entry types f) label.1 in (
        record {
          number = number.0;
          type_number = kind.0;
          label = label.0;
          oneof_index = member.0;
          entry = member.1;
          value = type_lawful types (field_name m f) path (value_field types f) parts.1;
        },
        not-true came new.0,
      )

  -- fields without faults are lawful
  pub fields_lawful : (before : List ℤ) (fs : List FieldInfo) → fields_faults types path m before fs ≡ [] → AllByRecursion (IsLawfulField types m) fs
  fields_lawful before [] h = tt
  fields_lawful before (f ∷ fs) h =
      let parts = none_parts (field_faults types path m (list_any (int_eq f.number) before) f) (fields_faults types path m (before ++ f.number ∷ []) fs) h in
      ((field_lawful (list_any (int_eq f.number) before) f parts.0).0, fields_lawful (before ++ f.number ∷ []) fs parts.1)
