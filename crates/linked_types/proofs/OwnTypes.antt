-- The type of a field: what is known of the field that has it.
use Rattle.std.proofs.Common.{◌≡◌, ℕ, Bool, true, false, cond, Option, Some, None, option_and_then, refl, ap, ◌∙◌, slice_get}
use Rattle.std.specs.Option.{option_map_or}
use Rattle.descriptors.specs.declared.file_set.FieldInfo.{FieldInfo}
use Rattle.descriptor_pool.specs.DeclaredNames.{DeclaredMessage}
use Rattle.descriptor_pool.specs.DeclaredTypes.{SetTypes, message_named}
use Rattle.descriptor_pool.specs.FieldTypes.{entry_if, entry_value, field_enum, field_message, has_type, is_repeated, map_entry, message_of_field}
use Rattle.linked_types.specs.LinkedTypes.{enum_kind, linked_kind, message_kind, scalar_kind, value_of}

module _ (types : SetTypes) (f : FieldInfo) (plain : has_type 11 f ≡ false) where
  either_way : {X : Type 0} (b : Bool) (x : X) → cond b x x ≡ x
  either_way true x = refl
  either_way false x = refl

  -- a field that is no message is no map
  pub no_entry : map_entry types f ≡ None
  no_entry =
      ap (λ b. cond (is_repeated f) (option_and_then entry_if
      (option_and_then (slice_get types.messages) (cond b (message_named types f.type_name) None))) None) plain
      ∙ either_way (is_repeated f) None

  -- the type of a field that is no message is its own
  pub own_value : value_of types f ≡ Some f
  own_value = ap (λ o. option_map_or entry_value o (Some f)) no_entry

chosen : {X : Type 0} (b : Bool) (o : Option X) (x : X) → cond b o None ≡ Some x → b ≡ true
chosen true o x h = refl
chosen false o x h = absurd (cc h)

-- a field that is a map is repeated
pub entry_repeated : (types : SetTypes) (f : FieldInfo) (e : DeclaredMessage) → map_entry types f ≡ Some e
    → is_repeated f ≡ true
entry_repeated types f e h = chosen (is_repeated f) (option_and_then entry_if (message_of_field types f)) e h

-- what one value of a field is that is no message
pub kind_plain : (types : SetTypes) (message enum : ℕ → Option ℕ) (v : FieldInfo) → has_type 11 v ≡ false
    → linked_kind types message enum v ≡ cond (has_type 14 v) (enum_kind enum (field_enum types v))
    (scalar_kind v.type_number)
kind_plain types message enum v a =
    ap (λ z. cond z (message_kind message (field_message types v))
    (cond (has_type 14 v) (enum_kind enum (field_enum types v)) (scalar_kind v.type_number))) a

-- and no enum
pub kind_other : (types : SetTypes) (message enum : ℕ → Option ℕ) (v : FieldInfo) → has_type 11 v ≡ false
    → has_type 14 v ≡ false
    → linked_kind types message enum v ≡ scalar_kind v.type_number
kind_other types message enum v a b =
    kind_plain types message enum v a ∙ ap (λ z. cond z (enum_kind enum (field_enum types v))
    (scalar_kind v.type_number)) b
