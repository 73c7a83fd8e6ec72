-- Linked fields are sound.
use Rattle.std.proofs.Common.{◌≡◌, ◌&&◌, ◌||◌, ℕ, Bool, true, false, cond, List, Option, Some, None, is_some, not, option_and_then, option_map, refl, sym, ap, subst, ◌∙◌, arith}
use Rattle.std.proofs.lemmas.Bool.{and_parts, not-true, or_parts}
use Rattle.std.proofs.lemmas.Option.{same_Some, slice_get_within}
use Rattle.std.specs.Option.{option_map_or}
use Rattle.descriptors.specs.declared.file_set.FieldInfo.{FieldInfo}
use Rattle.descriptor_pool.specs.DeclaredNames.{DeclaredMessage}
use Rattle.descriptor_pool.specs.DeclaredTypes.{SetTypes}
use Rattle.descriptor_pool.specs.FieldTypes.{entry_value, field_enum, field_message, has_type, is_repeated, map_entry}
use Rattle.schema.specs.Soundness.{FitsPacked, FitsShape, IsKeyKind, IsKindIn, IsPackable, IsSoundField}
use Rattle.message_types.specs.declared.fields.Field.{Field}
use Rattle.message_types.specs.declared.fields.Kind.{Kind}
use Rattle.message_types.specs.declared.fields.Kind.TheVariants.{One as OneOf, Message as MessageOf}
use Rattle.message_types.specs.declared.fields.Presence.TheVariants.{Implicit, Explicit}
use Rattle.message_types.specs.declared.fields.Scalar.{Scalar}
use Rattle.message_types.specs.declared.fields.Scalar.TheVariants.{Enumeration}
use Rattle.message_types.specs.declared.fields.Shape.TheVariants.{Single, Member, Many, Map}
use Rattle.message_types.specs.declared.messages.Types.{Types}
use Rattle.linked_types.specs.FoundNames.{FindsName}
use Rattle.linked_types.specs.LinkableTypes.{IsLinkableField, IsLinkableType}
use Rattle.linked_types.specs.LinkedTypes.{enum_kind, is_proto3, key_scalar, linked_kind, message_kind, natural, plain_shape, presence_of, real_oneof, scalar_kind, scalar_of}
use Rattle.linked_types.proofs.EachSomeLemmas.{option_map_some}
use Rattle.linked_types.proofs.LinkedParts.{IsOfField}
use Rattle.linked_types.proofs.NamedTypes.{value_field_is}
use Rattle.linked_types.proofs.OwnTypes.{entry_repeated, kind_plain, no_entry, own_value}
use Rattle.linked_types.proofs.ScalarTypes.{packable_type, scalar_in}

-- ---- kinds

abbrev is_message_kind : Option Kind → Bool
is_message_kind (Some (MessageOf id)) = true
is_message_kind _ = false

module _ (types : SetTypes) (message enum : ℕ → Option ℕ) where
  -- only a field of a message type is a message
  message_only : (v : FieldInfo) → is_message_kind (linked_kind types message enum v) ≡ true → has_type 11 v ≡ true
  message_only v h = pick (has_type 11 v) (has_type 14 v) (option_and_then enum (field_enum types v))
      (scalar_of v.type_number) h
    where
      pick : (b c : Bool) (e : Option ℕ) (s : Option Scalar)
          → is_message_kind (cond b (message_kind message (field_message types v))
          (cond c (option_map (λ i. OneOf (Enumeration (record { 0 = i }))) e) (option_map (λ z. OneOf z) s)))
          ≡ true
          → b ≡ true
      pick true c e s g = refl
      pick false true None s g = absurd (cc g)
      pick false true (Some i) s g = absurd (cc g)
      pick false false e None g = absurd (cc g)
      pick false false e (Some z) g = absurd (cc g)

  -- the kind of a field that finds its name is of the linked types
  kind_in : (t : Types) (v : FieldInfo) (kind : Kind) → linked_kind types message enum v ≡ Some kind
      → FindsName t v kind → IsKindIn t kind
  kind_in t v kind h finds = pick (has_type 11 v) (has_type 14 v) refl refl
    where
      pick : (b c : Bool) → has_type 11 v ≡ b → has_type 14 v ≡ c → IsKindIn t kind
      pick true c e g =
          let named = finds.message e in
          subst (IsKindIn t) (sym named.kind_is) (slice_get_within t.messages named.id.0 named.finds.message named.finds.message_is)
      pick false true e g =
          let named = finds.enum g in
          subst (IsKindIn t) (sym named.kind_is) (slice_get_within t.enums named.id.0 named.finds.enum named.finds.enum_is)
      pick false false e g =
          option_map_some (λ s. OneOf s) (scalar_of v.type_number) kind
          (sym (kind_plain types message enum v e ∙ ap
          (λ z. cond z (enum_kind enum (field_enum types v)) (scalar_kind v.type_number)) g) ∙ h)
          (λ s a b. subst (IsKindIn t) b (scalar_in t v.type_number s a))

-- ---- shape and presence

-- what the shape of a field that is no map asks of its presence
plain_fits : (repeated proto3 message : Bool) (oneof : Option ℕ) (optional : Bool) (kind : Kind)
    → (is_message_kind (Some kind) ≡ true → message ≡ true)
    → FitsShape (cond repeated Many (option_map_or (λ k. Member k) oneof Single)) kind
    (cond (not repeated && (not proto3 || (message || (is_some oneof || optional)))) Explicit Implicit)
plain_fits true proto3 message oneof optional kind m = refl
plain_fits false false message None optional (MessageOf id) m = λ e. absurd (cc e)
plain_fits false false message None optional (OneOf s) m = tt
plain_fits false false message (Some k) optional kind m = λ e. absurd (cc e)
plain_fits false true true None optional (MessageOf id) m = λ e. absurd (cc e)
plain_fits false true true None optional (OneOf s) m = tt
plain_fits false true true (Some k) optional kind m = λ e. absurd (cc e)
plain_fits false true false None optional (MessageOf id) m = absurd (cc (m refl))
plain_fits false true false None optional (OneOf s) m = tt
plain_fits false true false (Some k) optional kind m = λ e. absurd (cc e)

-- a field that is repeated has implicit presence
implicit : (syntax : List ℕ) (fs : List FieldInfo) (f : FieldInfo) → is_repeated f ≡ true
    → presence_of syntax fs f ≡ Implicit
implicit syntax fs f h =
    ap (λ b. cond (not b && (not (is_proto3 syntax) ||
    (has_type 11 f || (is_some (real_oneof fs f.oneof_index) || f.proto3_optional)))) Explicit Implicit) h

module _ (types : SetTypes) (message enum : ℕ → Option ℕ) (syntax : List ℕ) (fs : List FieldInfo) (f : FieldInfo)
    (g : Field)
    (k : IsLinkableField types f) (parts : IsOfField types message enum syntax fs f g) where
  shape_fits : FitsShape g.shape g.kind g.presence
  shape_fits = subst (λ p. FitsShape g.shape g.kind p) (sym parts.presence)
      (pick (map_entry types f) refl parts.shape parts.value_is)
    where
      pick : (o : Option DeclaredMessage) → map_entry types f ≡ o
          → option_map_or (λ e. option_map (λ s. Map s) (key_scalar e)) o (Some (plain_shape fs f)) ≡ Some g.shape
          → option_map_or entry_value o (Some f) ≡ Some parts.value → FitsShape g.shape g.kind (presence_of syntax fs f)
      pick None h shape value =
          let own : f ≡ parts.value = same_Some f parts.value value in
          subst (λ z. FitsShape z g.kind (presence_of syntax fs f)) (same_Some (plain_shape fs f) g.shape shape)
          (plain_fits (is_repeated f) (is_proto3 syntax) (has_type 11 f)
          (real_oneof fs f.oneof_index) f.proto3_optional g.kind
          (λ e. subst (λ v. has_type 11 v ≡ true) (sym own)
          (message_only types message enum parts.value (ap is_message_kind parts.kind ∙ e))))
      pick (Some e) h shape value =
          option_map_some (λ s. Map s) (key_scalar e) g.shape shape
          (λ s a b.
          let entry = k.entry e h in
          let same : entry.scalar ≡ s = same_Some entry.scalar s (sym entry.key_is ∙ a) in
          subst (λ z. FitsShape z g.kind (presence_of syntax fs f)) b
          (implicit syntax fs f (entry_repeated types f e h), subst IsKeyKind same entry.kind))

  packed_fits : FitsPacked g
  packed_fits h =
      let is = sym parts.packed ∙ h in
      let repeated = and_parts (is_repeated f) _ is in
      let typeless = not-true (has_type 9 f || (has_type 11 f || (has_type 12 f || has_type 10 f)))
      (and_parts (not (has_type 9 f || (has_type 11 f || (has_type 12 f || has_type 10 f)))) _ repeated.1).0 in
      let text = or_parts (has_type 9 f) (has_type 11 f || (has_type 12 f || has_type 10 f)) typeless in
      let other = or_parts (has_type 11 f) (has_type 12 f || has_type 10 f) text.1 in
      let bytes = or_parts (has_type 12 f) (has_type 10 f) other.1 in
      let own : parts.value ≡ f = same_Some parts.value f (sym parts.value_is ∙ own_value types f other.0) in
      let shape : g.shape ≡ Many =
      same_Some g.shape Many (sym parts.shape
      ∙ ap (λ o. option_map_or (λ e. option_map (λ s. Map s) (key_scalar e)) o (Some (plain_shape fs f)))
      (no_entry types f other.0)
      ∙ ap (λ b. Some (cond b Many (option_map_or (λ n. Member n) (real_oneof fs f.oneof_index) Single))) repeated.0) in
      let t : IsLinkableType types f = subst (IsLinkableType types)
      (value_field_is types f parts.value parts.value_is ∙ own) k.value in
      let kind : cond (has_type 14 f) (enum_kind enum (field_enum types f)) (scalar_kind f.type_number) ≡ Some g.kind =
      sym (kind_plain types message enum f other.0)
      ∙ subst (λ v. linked_kind types message enum v ≡ Some g.kind) own parts.kind in
      (shape, pick (has_type 14 f) kind t text.0 bytes.0)
    where
      pick : (c : Bool) → cond c (enum_kind enum (field_enum types f)) (scalar_kind f.type_number) ≡ Some g.kind
          → IsLinkableType types f
          → has_type 9 f ≡ false → has_type 12 f ≡ false → IsPackable g.kind
      pick true e t n s = option_map_some _ (option_and_then enum (field_enum types f)) g.kind e
          (λ i a b. subst IsPackable b refl)
      pick false e t n s =
          option_map_some (λ z. OneOf z) (scalar_of f.type_number) g.kind e
          (λ z a b. subst IsPackable b (packable_type f.type_number z t.type_number a n s))

  -- a linked field is sound, where its kind finds the name of its type
  pub field_sound : (t : Types) → FindsName t parts.value g.kind → IsSoundField t g
  field_sound t finds =
      let same : g.number ≡ k.number.number = same_Some g.number k.number.number
      (sym parts.number ∙ ap natural k.number.is) in
      let low = k.number.low in
      let high = k.number.high in
      record {
        low = omega arith;
        high = omega arith;
        kind = kind_in types message enum t parts.value g.kind parts.kind finds;
        shape = shape_fits;
        packed = packed_fits;
      }
