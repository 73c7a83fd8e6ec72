-- The fields of linked well-known types (timestamp.proto, duration.proto, field_mask.proto, wrappers.proto).
use Rattle.std.proofs.Common.{◌≡◌, ◌&&◌, ◌||◌, ◌==◌, ℕ, pos, Bool, true, false, cond, List, [], ◌∷◌, length, Option, Some, None, is_some, not, option_map, refl, sym, ap, subst, ◌∙◌, codes}
use Rattle.std.proofs.lemmas.Bool.{and_parts, both_ways, eq-eqb, eqb-true, not-true}
use Rattle.std.proofs.lemmas.Bool.Decides.{Decides-int_eq}
use Rattle.std.proofs.lemmas.Option.{same_Some}
use Rattle.std.proofs.lemmas.Slice.Eq.{bytes_eq-Decides}
use Rattle.std.proofs.lemmas.Slice.Zip.{AllZip-long}
use Rattle.std.specs.List.{AllZip, find, list_any}
use Rattle.std.specs.Option.{option_map_or}
use Rattle.std.specs.Ordering.{int_eq}
use Rattle.std.specs.Str.{bytes_eq}
use Rattle.descriptors.specs.declared.file_set.FieldInfo.{FieldInfo}
use Rattle.descriptor_pool.specs.DeclaredTypes.{SetTypes}
use Rattle.descriptor_pool.specs.FieldTypes.{has_type, is_repeated}
use Rattle.descriptor_pool.specs.WellKnownTypes.{are_published, are_published_of, are_seconds_and_nanos, has_repetition, is_published, is_value, known_of, wrapped_type}
use Rattle.schema.specs.Soundness.{HasKnownFields, HasSecondsAndNanos, IsKnownField, IsWrapped}
use Rattle.message_types.specs.Types.{field_in}
use Rattle.message_types.specs.declared.fields.Field.{Field}
use Rattle.message_types.specs.declared.fields.Kind.TheVariants.{One as OneOf}
use Rattle.message_types.specs.declared.fields.Presence.TheVariants.{Implicit, Explicit}
use Rattle.message_types.specs.declared.fields.Scalar.{Scalar}
use Rattle.message_types.specs.declared.fields.Scalar.TheVariants.{Int32, Int64, Uint32, Uint64, Bool as BoolOf, Text as TextOf, Bytes as BytesOf}
use Rattle.message_types.specs.declared.fields.Shape.TheVariants.{Single, Member, Many, Map}
use Rattle.message_types.specs.declared.messages.Known.{Known}
use Rattle.message_types.specs.declared.messages.Known.TheVariants.{Plain, Timestamp, Duration, FieldMask, Wrapper}
use Rattle.linked_types.specs.LinkedTypes.{is_proto3, key_scalar, linked_field, linked_kind, natural, plain_shape, real_oneof, scalar_of}
use Rattle.base.proofs.FirstLemmas.{first_of_one, first_of_two}
use Rattle.linked_types.proofs.LinkedParts.{field_parts}
use Rattle.linked_types.proofs.NamedTypes.{natural_is}
use Rattle.linked_types.proofs.OwnTypes.{kind_other, no_entry, own_value}

-- a field that is published
record IsPublished (name : List ℕ) (number type_number : ℕ) (repeated : Bool) (f : FieldInfo) : Type 0 where
  pub name_is : f.name ≡ name
  pub number_is : f.number ≡ pos number
  pub type_is : f.type_number ≡ pos type_number
  pub repeated_is : is_repeated f ≡ repeated
  pub oneof_is : f.oneof_index ≡ None
  pub optional_is : f.proto3_optional ≡ false

repetition : (repeated : Bool) (f : FieldInfo) → has_repetition repeated f ≡ true → is_repeated f ≡ repeated
repetition true f h = h
repetition false f h = not-true (is_repeated f) h

nothing : {X : Type 0} (o : Option X) → is_some o ≡ false → o ≡ None
nothing None h = refl
nothing (Some x) h = absurd (cc h)

-- a field that passes the test is published
published : (name : List ℕ) (number type_number : ℕ) (repeated : Bool) (f : FieldInfo)
    → is_published name number type_number repeated f ≡ true → IsPublished name number type_number repeated f
published name number type_number repeated f h =
    let named = and_parts (bytes_eq f.name name) _ h in
    let numbered = and_parts (int_eq f.number (pos number)) _ named.1 in
    let typed = and_parts (has_type type_number f) _ numbered.1 in
    let repeats = and_parts (has_repetition repeated f) _ typed.1 in
    let alone = and_parts (not (is_some f.oneof_index)) (not f.proto3_optional) repeats.1 in
    record {
      name_is = (bytes_eq-Decides f.name name).0 named.0;
      number_is = (Decides-int_eq f.number (pos number)).0 numbered.0;
      type_is = (Decides-int_eq f.type_number (pos type_number)).0 typed.0;
      repeated_is = repetition repeated f repeats.0;
      oneof_is = nothing f.oneof_index (not-true (is_some f.oneof_index) alone.0);
      optional_is = not-true f.proto3_optional alone.1;
    }

not_explicit : (b : Bool) → cond (not b && false) Explicit Implicit ≡ Implicit
not_explicit true = refl
not_explicit false = refl

-- a number is of no message and no enum
abbrev IsPlainType : ℕ → Type 0
IsPlainType n = (int_eq (pos n) (pos 11) ≡ false) × (int_eq (pos n) (pos 14) ≡ false)

other_test : (a n : ℕ) → (a == n) ≡ false → (b : Bool) → int_eq (pos a) (pos n) ≡ b → b ≡ false
other_test a n e false h = refl
other_test a n e true h =
    absurd (both_ways (a == n) e (eq-eqb a n (same_Some a n (ap natural ((Decides-int_eq (pos a) (pos n)).0 h)))))

-- numbers are equal as integers where they are equal
same_test : (a n : ℕ) → int_eq (pos a) (pos n) ≡ (a == n)
same_test a n = pick (a == n) refl
  where
    pick : (b : Bool) → (a == n) ≡ b → int_eq (pos a) (pos n) ≡ b
    pick true e = (Decides-int_eq (pos a) (pos n)).1 (ap (λ k. pos k) (eqb-true a n e))
    pick false e = other_test a n e (int_eq (pos a) (pos n)) refl

-- the scalar of a type number that has a wrapper
record IsWrapper (n : ℕ) : Type 0 where
  pub scalar : Scalar
  pub is : scalar_of (pos n) ≡ Some scalar
  pub wrapped : IsWrapped scalar
  pub plain : IsPlainType n

abbrev HasWrapper : Option ℕ → Type 0
HasWrapper None = Unit {0}
HasWrapper (Some n) = IsWrapper n

either : (b : Bool) (n : ℕ) (o : Option ℕ) → IsWrapper n → HasWrapper o → HasWrapper (cond b (Some n) o)
either true n o p q = p
either false n o p q = q

-- a wrapper's type number is that of a scalar that has one
wrapped : (name : List ℕ) → HasWrapper (wrapped_type name)
wrapped name =
    either (bytes_eq name (codes "google.protobuf.BoolValue")) 8 _
    (record { scalar = BoolOf; is = refl; wrapped = tt; plain = (refl, refl) })
    (either (bytes_eq name (codes "google.protobuf.Int32Value")) 5 _
    (record { scalar = Int32; is = refl; wrapped = tt; plain = (refl, refl) })
    (either (bytes_eq name (codes "google.protobuf.Int64Value")) 3 _
    (record { scalar = Int64; is = refl; wrapped = tt; plain = (refl, refl) })
    (either (bytes_eq name (codes "google.protobuf.UInt32Value")) 13 _
    (record { scalar = Uint32; is = refl; wrapped = tt; plain = (refl, refl) })
    (either (bytes_eq name (codes "google.protobuf.UInt64Value")) 4 _
    (record { scalar = Uint64; is = refl; wrapped = tt; plain = (refl, refl) })
    (either (bytes_eq name (codes "google.protobuf.StringValue")) 9 _
    (record { scalar = TextOf; is = refl; wrapped = tt; plain = (refl, refl) })
    (either (bytes_eq name (codes "google.protobuf.BytesValue")) 12 None
    (record { scalar = BytesOf; is = refl; wrapped = tt; plain = (refl, refl) }) tt))))))

module _ (types : SetTypes) (message enum : ℕ → Option ℕ) (syntax : List ℕ) (proto3 : is_proto3 syntax ≡ true)
    (fs : List FieldInfo) where
  -- a field is linked of a declaration of the message
  abbrev IsLinkOf : FieldInfo → Field → Type 0
  IsLinkOf f g = linked_field types message enum syntax fs f ≡ Some g

  -- what is linked of a published field has its name and form
  form : (name : List ℕ) (number type_number : ℕ) (repeated : Bool) (s : Scalar) (f : FieldInfo) (g : Field)
      → IsPublished name number type_number repeated f → IsPlainType type_number
      → scalar_of (pos type_number) ≡ Some s → IsLinkOf f g
      → IsKnownField (Some g) name s (cond repeated Many Single)
  form name number type_number repeated s f g p plain scalar linked =
      let parts = field_parts types message enum syntax fs f g linked in
      let no_message : has_type 11 f ≡ false = ap (λ z. int_eq z (pos 11)) p.type_is ∙ plain.0 in
      let no_enum : has_type 14 f ≡ false = ap (λ z. int_eq z (pos 14)) p.type_is ∙ plain.1 in
      let own : parts.value ≡ f = same_Some parts.value f (sym parts.value_is ∙ own_value types f no_message) in
      let kind : g.kind ≡ OneOf s =
      same_Some g.kind (OneOf s) (sym parts.kind ∙ ap (linked_kind types message enum) own
      ∙ kind_other types message enum f no_message no_enum
      ∙ ap (λ z. option_map (λ x. OneOf x) (scalar_of z)) p.type_is ∙ ap (option_map (λ x. OneOf x)) scalar) in
      let shape : g.shape ≡ cond repeated Many Single =
      same_Some g.shape (cond repeated Many Single) (sym parts.shape
      ∙ ap (λ o. option_map_or (λ e. option_map (λ x. Map x) (key_scalar e)) o (Some (plain_shape fs f)))
      (no_entry types f no_message)
      ∙ ap (λ b. Some (cond b Many (option_map_or (λ k. Member k) (real_oneof fs f.oneof_index) Single))) p.repeated_is
      ∙ ap (λ o. Some (cond repeated Many (option_map_or (λ k. Member k) (real_oneof fs o) Single))) p.oneof_is) in
      let presence : g.presence ≡ Implicit =
      parts.presence
      ∙ ap (λ b. cond (not (is_repeated f) && (not b ||
      (has_type 11 f || (is_some (real_oneof fs f.oneof_index) || f.proto3_optional)))) Explicit Implicit) proto3
      ∙ ap (λ b. cond (not (is_repeated f) && (b ||
      (is_some (real_oneof fs f.oneof_index) || f.proto3_optional))) Explicit Implicit) no_message
      ∙ ap (λ o. cond (not (is_repeated f) && (is_some
      (real_oneof fs o) || f.proto3_optional)) Explicit Implicit) p.oneof_is
      ∙ ap (λ b. cond (not (is_repeated f) && b) Explicit Implicit) p.optional_is
      ∙ not_explicit (is_repeated f) in
      (parts.name ∙ p.name_is, (kind, shape, presence))

  -- the first field of a number is linked as the first field of that number
  first_linked : (n : ℕ) (ds : List FieldInfo) (gs : List Field) → AllZip IsLinkOf ds gs → (f : FieldInfo)
      → find (λ d. int_eq d.number (pos n)) ds ≡ Some f
      → (g : Field) × (field_in gs n ≡ Some g) × IsLinkOf f g
  first_linked n [] gs a f h = absurd (cc h)
  first_linked n (d ∷ ds) [] a f h = absurd a
  first_linked n (d ∷ ds) (g ∷ gs) a f h =
      let number = natural_is d.number g.number (field_parts types message enum syntax fs d g a.0).number in
      let test : int_eq d.number (pos n) ≡ (g.number == n) = ap (λ z. int_eq z (pos n)) number ∙ same_test g.number n in
      pick (g.number == n) refl (sym (ap (λ b. cond b (Some d) (find (λ x. int_eq x.number (pos n)) ds)) test) ∙ h)
      (first_linked n ds gs a.1 f)
    where
      pick : (b : Bool) → (g.number == n) ≡ b → cond b (Some d) (find (λ x. int_eq x.number (pos n)) ds) ≡ Some f
          → (find (λ x. int_eq x.number (pos n)) ds ≡ Some f → (z : Field) × (field_in gs n ≡ Some z) × IsLinkOf f z)
          → (z : Field) × (cond b (Some g) (field_in gs n) ≡ Some z) × IsLinkOf f z
      pick true e k rest = (g, refl, subst (λ z. IsLinkOf z g) (same_Some d f k) a.0)
      pick false e k rest = rest k

  -- a field that is published has its number
  numbered : (name : List ℕ) (number type_number : ℕ) (repeated : Bool) (n : ℕ) (b : Bool)
      → int_eq (pos number) (pos n) ≡ b → (f : FieldInfo)
      → is_published name number type_number repeated f ≡ true → int_eq f.number (pos n) ≡ b
  numbered name number type_number repeated n b h f e = ap (λ z. int_eq z (pos n))
      (published name number type_number repeated f e).number_is ∙ h

  module _ (gs : List Field) (linked : AllZip IsLinkOf fs gs) where
    long : length gs ≡ length fs
    long = AllZip-long IsLinkOf fs gs linked

    -- the field that is first of its number has the form
    first_form : (name : List ℕ) (number type_number : ℕ) (repeated : Bool) (s : Scalar) → IsPlainType type_number
        → scalar_of (pos type_number) ≡ Some s
        → (f : FieldInfo) → is_published name number type_number repeated f ≡ true
        → find (λ (d : FieldInfo). int_eq d.number (pos number)) fs ≡ Some f
        → IsKnownField (field_in gs number) name s (cond repeated Many Single)
    first_form name number type_number repeated s plain scalar f e h =
        let first = first_linked number fs gs linked f h in
        subst (λ o. IsKnownField o name s (cond repeated Many Single)) (sym first.1)
        (form name number type_number repeated s f first.0
        (published name number type_number repeated f e) plain scalar first.2)

    -- the one field is the first of its number
    only : (name : List ℕ) (type_number : ℕ) (repeated : Bool) (s : Scalar) → IsPlainType type_number
        → scalar_of (pos type_number) ≡ Some s → length fs ≡ 1
        → list_any (is_published name 1 type_number repeated) fs ≡ true
        → IsKnownField (field_in gs 1) name s (cond repeated Many Single)
    only name type_number repeated s plain scalar one h =
        let found = first_of_one (λ (f : FieldInfo). int_eq f.number (pos 1))
        (is_published name 1 type_number repeated) (numbered name 1 type_number repeated 1 true refl) fs one h in
        first_form name 1 type_number repeated s plain scalar found.0 found.1 found.2

    -- the fields of a time or a duration
    times : are_seconds_and_nanos fs ≡ true → HasSecondsAndNanos gs
    times h =
        let two = and_parts (length fs == 2) _ h in
        let len = eqb-true (length fs) 2 two.0 in
        let seconds = is_published (codes "seconds") 1 3 false in
        let nanos = is_published (codes "nanos") 2 5 false in
        let both = and_parts (list_any seconds fs) (list_any nanos fs) two.1 in
        let first = first_of_two (λ (f : FieldInfo). int_eq f.number (pos 1)) seconds
        (numbered (codes "seconds") 1 3 false 1 true refl) nanos
        (numbered (codes "nanos") 2 5 false 1 false refl) fs len both.0 both.1 in
        let second = first_of_two (λ (f : FieldInfo). int_eq f.number (pos 2)) nanos
        (numbered (codes "nanos") 2 5 false 2 true refl) seconds
        (numbered (codes "seconds") 1 3 false 2 false refl) fs len both.1 both.0 in (
          long ∙ len,
          first_form (codes "seconds") 1 3 false Int64 (refl, refl) refl first.0 first.1 first.2,
          first_form (codes "nanos") 2 5 false Int32 (refl, refl) refl second.0 second.1 second.2,
        )

    wrapper : (o : Option ℕ) → HasWrapper o → is_value o fs ≡ true → HasKnownFields Wrapper gs
    wrapper None w h = absurd (cc h)
    wrapper (Some n) w h =
        let one = and_parts (length fs == 1) (list_any (is_published (codes "value") 1 n false) fs) h in
        let len = eqb-true (length fs) 1 one.0 in
        (long ∙ len, (w.scalar, w.wrapped, only (codes "value") n false w.scalar w.plain w.is len one.1))

    -- what is linked of the fields with which a well-known type is published
    pub known_fields : (name : List ℕ) → are_published name fs ≡ true → HasKnownFields (known_of name) gs
    known_fields name h = pick (known_of name) h
      where
        pick : (known : Known) → are_published_of known name fs ≡ true → HasKnownFields known gs
        pick Plain e = tt
        pick Timestamp e = times e
        pick Duration e = times e
        pick FieldMask e =
            let one = and_parts (length fs == 1) (list_any (is_published (codes "paths") 1 9 true) fs) e in
            let len = eqb-true (length fs) 1 one.0 in
            (long ∙ len, only (codes "paths") 9 true TextOf (refl, refl) refl len one.1)
        pick Wrapper e = wrapper (wrapped_type name) (wrapped name) e
