-- Lawful messages have no faults.
use Rattle.std.proofs.Common.{◌≡◌, ◌++◌, ◌&&◌, ◌||◌, ℕ, ℤ, Bool, true, false, List, [], ◌∷◌, length, map, Option, Some, None, IsSome, is_none, not, refl, sym, ap, ◌∙◌, codes, slice_get}
use Rattle.std.proofs.lemmas.Bool.{or_from, or_parts}
use Rattle.std.proofs.lemmas.Bool.Decides.{Decides-int_eq}
use Rattle.std.proofs.lemmas.List.Folds.{list_any-append}
use Rattle.std.proofs.lemmas.Slice.Eq.{bytes_eq-Decides}
use Rattle.std.specs.Bool.{Decides}
use Rattle.std.specs.List.{AllByRecursion, IsDistinct, list_any}
use Rattle.std.specs.Option.{option_map_or}
use Rattle.std.specs.Ordering.{int_eq}
use Rattle.std.specs.Str.{bytes_eq}
use Rattle.base.proofs.EachLemmas.{each_always, each_both, each_image, each_weaker}
use Rattle.descriptors.specs.declared.file_set.FieldInfo.{FieldInfo}
use Rattle.descriptor_pool.specs.DeclaredNames.{DeclaredMessage}
use Rattle.descriptor_pool.specs.DeclaredTypes.{SetTypes, message_named}
use Rattle.descriptor_pool.specs.FieldTypes.{has_type, value_field}
use Rattle.descriptor_pool.specs.JsonFieldNames.{json_of}
use Rattle.descriptor_pool.specs.ReachableTypes.{Joined}
use Rattle.descriptor_pool.specs.WellKnownTypes.{are_published}
use Rattle.set_faults.specs.KeySteps.{keys_of}
use Rattle.set_faults.specs.LawfulSets.{IsLawfulEnumType, IsLawfulField, IsLawfulItem, IsLawfulMessage, IsLawfulType, shares_key}
use Rattle.set_faults.specs.LinkFaults.{fault_if}
use Rattle.set_faults.specs.MessageFaults.{enum_faults, enum_of, field_faults, field_name, fields_faults, has_extensions, has_lawful_entry, head_faults, is_field_number, is_lawful_enum, is_lawful_field, is_lawful_label, is_oneof_index, is_proto2, is_struct, is_type_number, joined_faults, json_faults, message_faults, reached_faults, type_faults}
use Rattle.set_faults.specs.declared.fault.LinkFault.{LinkFault}
use Rattle.set_faults.specs.declared.fault.LinkFault.TheVariants.{At}
use Rattle.set_faults.specs.declared.fault.LinkKind.TheVariants.{AnyType, BadEnum, BadField, Edition, Extension, Float, Group, KnownShape, Proto2, SameJsonName, StructType, UnknownType}
use Rattle.set_faults.proofs.NoFaultLemmas.{if_only, no_fault, no_fault_not, none_both, none_of_each}

no_unknown : {T : Type 0} (t : Bool) (o : Option T) (f : LinkFault) → (t ≡ true → IsSome o)
    → fault_if (t && is_none o) f ≡ []
no_unknown false o f h = refl
no_unknown true (Some x) f h = refl
no_unknown true None f h = absurd (cc (h refl))

module _ (types : SetTypes) (name path : List ℕ) where
  no_enum_faults : (type_name : List ℕ) → IsLawfulEnumType types type_name
      → enum_faults name path type_name (enum_of types type_name) ≡ []
  no_enum_faults type_name l =
      let null = bytes_eq l.enum.name (codes "google.protobuf.NullValue") in
      ap (enum_faults name path type_name) l.enum_is
      ∙ none_both (no_fault null (At StructType name path) l.null)
      (no_fault_not (is_lawful_enum l.enum.values) (At BadEnum l.enum.name []) l.lawful)

  no_type_faults : (v : FieldInfo) → IsLawfulType types v → type_faults types name path v ≡ []
  no_type_faults v l =
      let double = has_type 1 v in
      let float = has_type 2 v in
      let floats = no_fault (double || float) (At Float name path) (or_from double float l.double l.float) in
      let found = message_named types v.type_name in
      let unknown = no_unknown (has_type 11 v) found (At UnknownType name v.type_name) l.message in
      let enums = enum_faults name path v.type_name (enum_of types v.type_name) in
      let enum = if_only (has_type 14 v) enums (λ e. no_enum_faults v.type_name (l.enum e)) in
      none_both (no_fault (has_type 10 v) (At Group name []) l.group) (none_both floats (none_both unknown enum))

six : (a b c d e f : Bool) → a ≡ true → b ≡ false → c ≡ true → d ≡ true → e ≡ true → f ≡ true
    → (a && (not b && (c && (d && (e && f))))) ≡ true
six a b c d e f h i j k l m = simp (h, i, j, k, l, m)

module _ {K : Type 0} (same : K → K → Bool) (tied : (a b : K) → Decides (same a b) (a ≡ b)) where
  -- what is none of a list and not an item is none of the longer list
  none_longer : (k q : K) (ks : List K) → list_any (same k) ks ≡ false → same k q ≡ false
      → list_any (same k) (ks ++ q ∷ []) ≡ false
  none_longer k q ks h g =
      list_any-append (same k) ks (q ∷ [])
      ∙ or_from (list_any (same k) ks) (same k q || false) h (or_from (same k q) false g refl)

  -- a test of two that fails does so in either order
  swapped : (a b : K) → same a b ≡ false → same b a ≡ false
  swapped a b h = pick (same b a) refl
    where
      pick : (t : Bool) → same b a ≡ t → t ≡ false
      pick false e = refl
      pick true e = absurd (cc (sym ((tied a b).1 (sym ((tied b a).0 e))) ∙ h))

module _ (types : SetTypes) (path : List ℕ) (m : DeclaredMessage) where
  no_field_faults : (came : Bool) (f : FieldInfo) → came ≡ false → IsLawfulField types m f
      → field_faults types path m came f ≡ []
  no_field_faults came f new l =
      let index = is_oneof_index (length m.oneofs) f.oneof_index in
      let lawful = six (is_field_number f.number) came (is_type_number f.type_number) (is_lawful_label f) index
      (has_lawful_entry types f) l.number new l.type_number l.label l.oneof_index l.entry in
      let bad = no_fault_not (is_lawful_field types m came f) (At BadField (field_name m f) []) lawful in
      none_both bad (no_type_faults types (field_name m f) path (value_field types f) l.value)

  abbrev numbers : List FieldInfo → List ℤ
  numbers fs = map (λ (f : FieldInfo). f.number) fs

  -- a number is none of those before
  abbrev IsNew : List ℤ → FieldInfo → Type 0
  IsNew before f = list_any (int_eq f.number) before ≡ false

  -- and is not this one
  abbrev IsNewer : List ℤ → ℤ → FieldInfo → Type 0
  IsNewer before z f = IsNew before f × (int_eq z f.number ≡ false)

  still_new : (before : List ℤ) (z : ℤ) (g : FieldInfo) → IsNewer before z g → IsNew (before ++ z ∷ []) g
  still_new before z g h =
      none_longer int_eq Decides-int_eq g.number z before h.0 (swapped int_eq Decides-int_eq z g.number h.1)

  no_fields_faults : (before : List ℤ) (fs : List FieldInfo) → AllByRecursion (IsLawfulField types m) fs
      → IsDistinct int_eq (numbers fs) → AllByRecursion (IsNew before) fs → fields_faults types path m before fs ≡ []
  unfolding IsDistinct
  no_fields_faults before [] a d n = refl
  no_fields_faults before (f ∷ fs) a d n =
      let later = before ++ f.number ∷ [] in
      let apart = each_image (λ (g : FieldInfo). g.number) (λ y. int_eq f.number y ≡ false) fs d.0 in
      let both = each_both (IsNew before) (λ g. int_eq f.number g.number ≡ false) fs n.1 apart in
      let new = each_weaker (IsNewer before f.number) (IsNew later) (still_new before f.number) fs both in
      let own = no_field_faults (list_any (int_eq f.number) before) f n.0 a.0 in
      none_both own (no_fields_faults later fs a.1 d.1 new)

-- a text is one of these
abbrev is_in : List (List ℕ) → List ℕ → Bool
is_in ks k = list_any (bytes_eq k) ks

-- the keys of a field are none of those before
abbrev AreNew : List (List ℕ) → FieldInfo → Type 0
AreNew before f = (is_in before f.name ≡ false) × (is_in before (json_of f) ≡ false)

-- and none of those of another field
abbrev AreNewer : List (List ℕ) → FieldInfo → FieldInfo → Type 0
AreNewer before f g = AreNew before g × (shares_key f g ≡ false)

-- a key is none of those of a field that has others
none_of_keys : (q : List ℕ) (f : FieldInfo) → bytes_eq f.name q ≡ false → bytes_eq (json_of f) q ≡ false
    → is_in (keys_of f) q ≡ false
none_of_keys q f a b =
    or_from (bytes_eq q f.name) (is_in (json_of f ∷ []) q) (swapped bytes_eq bytes_eq-Decides f.name q a)
    (or_from (bytes_eq q (json_of f)) false (swapped bytes_eq bytes_eq-Decides (json_of f) q b) refl)

-- a key is neither the name nor the JSON name of a field that does not have it
neither : (k : List ℕ) (g : FieldInfo) → is_in (keys_of g) k ≡ false
    → (bytes_eq k g.name ≡ false) × (bytes_eq k (json_of g) ≡ false)
neither k g h =
    let parts = or_parts (bytes_eq k g.name) (is_in (json_of g ∷ []) k) h in
    (parts.0, (or_parts (bytes_eq k (json_of g)) false parts.1).0)

still_new_keys : (before : List (List ℕ)) (f g : FieldInfo) → AreNewer before f g → AreNew (before ++ keys_of f) g
still_new_keys before f g h =
    let parts = or_parts (is_in (keys_of g) f.name) (is_in (keys_of g) (json_of f) || false) h.1 in
    let name = neither f.name g parts.0 in
    let json = neither (json_of f) g (or_parts (is_in (keys_of g) (json_of f)) false parts.1).0 in
    let longer = λ (q : List ℕ) (a : is_in before q ≡ false) (b : is_in (keys_of f) q ≡ false).
    list_any-append (bytes_eq q) before (keys_of f) ∙ or_from (is_in before q) (is_in (keys_of f) q) a b in (
      longer g.name h.0.0 (none_of_keys g.name f name.0 json.0),
      longer (json_of g) h.0.1 (none_of_keys (json_of g) f name.1 json.1),
    )

module _ (m : DeclaredMessage) where
  no_json_faults : (before : List (List ℕ)) (fs : List FieldInfo) → IsDistinct shares_key fs
      → AllByRecursion (AreNew before) fs → json_faults m before fs ≡ []
  unfolding IsDistinct
  no_json_faults before [] d n = refl
  no_json_faults before (f ∷ fs) d n =
      let later = before ++ keys_of f in
      let both = each_both (AreNew before) (λ g. shares_key f g ≡ false) fs n.1 d.0 in
      let new = each_weaker (AreNewer before f) (AreNew later) (still_new_keys before f) fs both in
      let name = no_fault (is_in before f.name) (At SameJsonName m.name f.name) n.0.0 in
      let json = no_fault (is_in before (json_of f)) (At SameJsonName m.name (json_of f)) n.0.1 in
      none_both name (none_both json (no_json_faults later fs d.1 new))

module _ (types : SetTypes) (path : List ℕ) (m : DeclaredMessage) (l : IsLawfulMessage types m) where
  no_head_faults : head_faults types path m ≡ []
  no_head_faults =
      let proto3 = λ (s : List ℕ). bytes_eq s (codes "proto3") in
      let any = bytes_eq m.name (codes "google.protobuf.Any") in
      let known = ap (λ s. is_proto2 s || proto3 s) l.syntax in
      let edition = no_fault_not (is_proto2 m.syntax || proto3 m.syntax) (At Edition m.name []) known in
      let extension = no_fault (has_extensions types m) (At Extension m.name []) l.extensions in
      let shape = no_fault_not (are_published m.name m.fields) (At KnownShape m.name []) l.published in
      none_both (no_fault (is_proto2 m.syntax) (At Proto2 m.name []) (ap is_proto2 l.syntax))
      (none_both edition
      (none_both (no_fault any (At AnyType m.name path) l.any)
      (none_both (no_fault (is_struct m.name) (At StructType m.name path) l.struct) (none_both extension shape))))

  no_message_faults : message_faults types path m ≡ []
  no_message_faults =
      let first = each_always (λ (f : FieldInfo). list_any (int_eq f.number) [] ≡ false) (λ f. refl) m.fields in
      let fields = no_fields_faults types path m [] m.fields l.fields l.numbers first in
      let keys = no_json_faults m [] m.fields l.keys (each_always (AreNew []) (λ f. (refl, refl)) m.fields) in
      none_both no_head_faults (none_both fields keys)

no_joined_faults : (types : SetTypes) (j : Joined) → IsLawfulItem types j → joined_faults types j ≡ []
no_joined_faults types j l = pick (slice_get types.messages j.message) refl
  where
    pick : (o : Option DeclaredMessage) → slice_get types.messages j.message ≡ o → joined_faults types j ≡ []
    pick None e = ap (λ o. option_map_or (message_faults types j.path) o []) e
    pick (Some m) e =
        ap (λ o. option_map_or (message_faults types j.path) o []) e ∙ no_message_faults types j.path m (l m e)

-- lawful messages have no faults
pub no_reached_faults : (types : SetTypes) (js : List Joined) → AllByRecursion (IsLawfulItem types) js
    → reached_faults types js ≡ []
no_reached_faults types js a =
    none_of_each (joined_faults types) js
    (each_weaker (IsLawfulItem types) (λ j. joined_faults types j ≡ []) (no_joined_faults types) js a)
