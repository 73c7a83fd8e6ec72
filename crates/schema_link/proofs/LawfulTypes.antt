-- Messages that are lawful are linkable.
use Rattle.std.proofs.Common.{◌≡◌, ◌||◌, ◌==◌, ℕ, ℤ, pos, negsuc, true, false, List, [], ◌∷◌, length, map, nat_le, Option, Some, None, IsSome, codes, option_and_then, slice_get, unwrap_or, refl, sym, ap, subst, ◌∙◌}
use Rattle.std.proofs.lemmas.Bool.{and_parts, eqb-true, leb-true, or_from, or_parts}
use Rattle.std.proofs.lemmas.Bool.Decides.{Decides-int_eq}
use Rattle.std.specs.List.{AllByRecursion, list_any}
use Rattle.std.specs.Option.{option_map_or}
use Rattle.std.specs.Ordering.{int_eq}
use Rattle.std.specs.Str.{bytes_eq}
use Rattle.base.proofs.EachLemmas.{each_weaker}
use Rattle.base.proofs.FirstLemmas.{first_of_two}
use Rattle.descriptors.specs.declared.file_set.FieldInfo.{FieldInfo}
use Rattle.descriptor_pool.specs.DeclaredNames.{DeclaredMessage}
use Rattle.descriptor_pool.specs.DeclaredTypes.{SetTypes, enum_named, message_named}
use Rattle.descriptor_pool.specs.FieldTypes.{entry_value, map_entry, value_field}
use Rattle.descriptor_pool.specs.JsonFieldNames.{json_of}
use Rattle.descriptor_pool.specs.ReachableTypes.{Joined}
use Rattle.linked_types.specs.LinkableTypes.{AreLinkable, HasSoundEnum, IsFieldNumber, IsLinkableEntry, IsLinkableField, IsLinkableItem, IsLinkableMessage, IsLinkableType, IsTypeNumber, share_name}
use Rattle.linked_types.specs.LinkedTypes.{linked_enum}
use Rattle.schema.specs.Apart.{AreApart}
use Rattle.set_faults.specs.LawfulSets.{IsLawfulEnumType, IsLawfulField, IsLawfulItem, IsLawfulMessage, IsLawfulType, shares_key}
use Rattle.set_faults.specs.MessageFaults.{has_lawful_entry, is_entry_field, is_entry_key, is_entry_value, is_field_number, is_lawful_entry, is_type_number}
use Rattle.schema_link.proofs.EntryKeys.{field_numbered_is, key_fits}
use Rattle.schema_link.proofs.LawfulEnums.{apart, enum_sound}

-- a number that passes the test is one that a field can have
field_number : (z : ℤ) → is_field_number z ≡ true → IsFieldNumber z
field_number (pos n) h = let parts = and_parts (nat_le 1 n) (nat_le n 536870911) h in record {
  number = n;
  is = refl;
  low = leb-true 1 n parts.0;
  high = leb-true n 536870911 parts.1;
}
field_number (negsuc n) h = absurd (cc h)

-- a number that passes the test is that of a type
type_number : (z : ℤ) → is_type_number z ≡ true → IsTypeNumber z
type_number (pos n) h = let parts = and_parts (nat_le 1 n) (nat_le n 18) h in record {
  number = n;
  is = refl;
  low = leb-true 1 n parts.0;
  high = leb-true n 18 parts.1;
}
type_number (negsuc n) h = absurd (cc h)

-- what is there is something
pub there : {A : Type 0} (o : Option A) → IsSome o → (x : A) × (o ≡ Some x)
there None h = absurd (cc h)
there (Some x) h = (x, refl)

-- an entry's key has a number that is not its value's
key_number : (k : FieldInfo) → is_entry_key k ≡ true → int_eq k.number (pos 2) ≡ false
key_number k h =
    let field = (and_parts (is_entry_field (codes "key") 1 k) _ h).0 in
    let number = (and_parts (int_eq k.number (pos 1)) _ (and_parts (bytes_eq k.name (codes "key")) _ field).1).0 in
    subst (λ z. int_eq z (pos 2) ≡ false) (sym ((Decides-int_eq k.number (pos 1)).0 number)) refl

-- an entry's value has its number
value_number : (v : FieldInfo) → is_entry_value v ≡ true → int_eq v.number (pos 2) ≡ true
value_number v h =
    let field = (and_parts (is_entry_field (codes "value") 2 v) (is_type_number v.type_number) h).0 in
    (and_parts (int_eq v.number (pos 2)) _ (and_parts (bytes_eq v.name (codes "value")) _ field).1).0

-- a lawful entry has a value, of the type of a field
entry_has_value : (e : DeclaredMessage) → is_lawful_entry e ≡ true
    → (v : FieldInfo) × (entry_value e ≡ Some v) × IsTypeNumber v.type_number
entry_has_value e h =
    let two = and_parts (length e.fields == 2) _ h in
    let both = and_parts (list_any is_entry_key e.fields) (list_any is_entry_value e.fields) two.1 in
    let found = first_of_two (λ (f : FieldInfo). int_eq f.number
    (pos 2)) is_entry_value value_number is_entry_key key_number e.fields
    (eqb-true (length e.fields) 2 two.0) both.1 both.0 in (
      found.0,
      field_numbered_is (pos 2) e.fields ∙ found.2,
      type_number (found.0).type_number (and_parts (is_entry_field (codes "value") 2 found.0)
          (is_type_number (found.0).type_number) found.1).1,
    )

-- a lawful entry is linkable
entry_linkable : (e : DeclaredMessage) → is_lawful_entry e ≡ true → IsLinkableEntry e
entry_linkable e h =
    let key = key_fits e h in
    let value = entry_has_value e h in
    record { scalar = key.0; key_is = key.1; kind = key.2; value = value.0; value_is = value.1 }

module _ (types : SetTypes) where
  enum_found : (type_name : List ℕ) → IsLawfulEnumType types type_name → HasSoundEnum types (enum_named types type_name)
  enum_found type_name h = pick (enum_named types type_name) refl h.enum_is
    where
      pick : (o : Option ℕ) → enum_named types type_name ≡ o → option_and_then (slice_get types.enums) o ≡ Some h.enum
          → HasSoundEnum types o
      pick None e k = absurd (cc k)
      pick (Some i) e k = record {
        index = i;
        index_is = refl;
        sound = record { enum = h.enum; enum_is = k; sound = enum_sound (linked_enum h.enum) h.lawful };
      }

  -- a lawful type with the number of a type is linkable
  type_linkable : (v : FieldInfo) → IsTypeNumber v.type_number → IsLawfulType types v → IsLinkableType types v
  type_linkable v number h = record {
    type_number = number;
    group = h.group;
    double = h.double;
    float = h.float;
    message = λ e. there (message_named types v.type_name) (h.message e);
    enum = λ e. enum_found v.type_name (h.enum e);
  }

  -- the number of the type of one value
  value_type : (f : FieldInfo) → is_type_number f.type_number ≡ true → has_lawful_entry types f ≡ true
      → IsTypeNumber (value_field types f).type_number
  value_type f number entry = pick (map_entry types f) entry
    where
      pick : (o : Option DeclaredMessage) → option_map_or is_lawful_entry o true ≡ true
          → IsTypeNumber (unwrap_or (option_and_then entry_value o) f).type_number
      pick None h = type_number f.type_number number
      pick (Some e) h =
          let value = entry_has_value e h in
          subst (λ (o : Option FieldInfo). IsTypeNumber (unwrap_or o f).type_number) (sym value.1) value.2

  -- a lawful field is linkable
  field_linkable : (m : DeclaredMessage) (f : FieldInfo) → IsLawfulField types m f → IsLinkableField types f
  field_linkable m f h = record {
    number = field_number f.number h.number;
    entry = λ e is. entry_linkable e (sym (ap (λ o. option_map_or is_lawful_entry o true) is) ∙ h.entry);
    value = type_linkable (value_field types f) (value_type f h.type_number h.entry) h.value;
  }

  -- fields that share no key share no name
  name_apart : (f g : FieldInfo) → shares_key f g ≡ false → share_name f g ≡ false
  name_apart f g h =
      let first = or_parts (list_any (bytes_eq f.name) (g.name ∷ json_of g ∷ [])) _ h in
      let name = or_parts (bytes_eq f.name g.name) (bytes_eq f.name (json_of g) || false) first.0 in
      let name_json = or_parts (bytes_eq f.name (json_of g)) false name.1 in
      let second = or_parts (list_any (bytes_eq (json_of f)) (g.name ∷ json_of g ∷ [])) false first.1 in
      let json = or_parts (bytes_eq (json_of f) g.name) (bytes_eq (json_of f) (json_of g) || false) second.0 in
      let json_json = or_parts (bytes_eq (json_of f) (json_of g)) false json.1 in
      or_from (bytes_eq f.name g.name || bytes_eq f.name (json_of g) || bytes_eq (json_of f) g.name)
      (bytes_eq (json_of f) (json_of g))
      (or_from (bytes_eq f.name g.name || bytes_eq f.name (json_of g)) (bytes_eq (json_of f) g.name)
      (or_from (bytes_eq f.name g.name) (bytes_eq f.name (json_of g)) name.0 name_json.0)
      json.0)
      json_json.0

  names_apart : (fs : List FieldInfo) → AreApart shares_key fs → AreApart share_name fs
  names_apart [] h = tt
  names_apart (f ∷ fs) h = (
    each_weaker (λ g. shares_key f g ≡ false) (λ g. share_name f g ≡ false)
        (name_apart f) fs h.0,
    names_apart fs h.1,
  )

  -- a lawful message is linkable
  message_linkable : (m : DeclaredMessage) → IsLawfulMessage types m → IsLinkableMessage types m
  message_linkable m h = record {
    syntax = subst (λ s. bytes_eq s (codes "proto3") ≡ true) (sym h.syntax) refl;
    fields = each_weaker (IsLawfulField types m) (IsLinkableField types) (field_linkable m) m.fields h.fields;
    numbers = apart int_eq (map (λ (f : FieldInfo). f.number) m.fields) h.numbers;
    names = names_apart m.fields (apart shares_key m.fields h.keys);
    known = h.published;
  }

  -- lawful messages are linkable
  pub lawful_linkable : (js : List Joined) → AllByRecursion (IsLawfulItem types) js → AreLinkable types js
  lawful_linkable js h =
      each_weaker (IsLawfulItem types) (IsLinkableItem types)
      (λ (j : Joined) item m is. message_linkable m (item m is)) js h
