-- Messages that are linkable are linked: no look-up fails.
use Rattle.std.proofs.Common.{◌≡◌, ◌<◌, ℕ, zero, suc, Bool, true, false, cond, List, [], ◌∷◌, length, Option, Some, None, IsSome, is_some, option_and_then, option_map, refl, sym, ap, subst, ◌∙◌, arith, slice_get}
use Rattle.std.proofs.lemmas.Bool.{or_from}
use Rattle.std.specs.List.{AllByRecursion}
use Rattle.std.specs.Option.{option_map_or}
use Rattle.descriptors.specs.declared.file_set.FieldInfo.{FieldInfo}
use Rattle.base.proofs.EachLemmas.{each_both, each_image, each_weaker}
use Rattle.descriptor_pool.specs.DeclaredNames.{DeclaredMessage}
use Rattle.descriptor_pool.specs.DeclaredTypes.{SetTypes, enum_named, message_named}
use Rattle.descriptor_pool.specs.FieldTypes.{entry_value, field_enum, field_message, has_type, map_entry, value_field}
use Rattle.descriptor_pool.specs.ReachableTypes.{Joined, fields_at, messages_of, reachable, reached_enums}
use Rattle.descriptor_pool.specs.ReachedClosure.{HaveEnums, HaveMessages, IsAmong, IsReachClosed}
use Rattle.descriptor_pool.specs.SetMethods.{BoundMethod}
use Rattle.message_types.specs.declared.fields.Shape.TheVariants.{Map}
use Rattle.linked_types.specs.EachSome.{each_some}
use Rattle.linked_types.specs.LinkableTypes.{AreLinkable, IsLinkableField, IsLinkableItem, IsLinkableType}
use Rattle.linked_types.specs.LinkedTypes.{enum_kind, index_from, key_scalar, linked_enum_at, linked_enums, linked_field, linked_item, linked_kind, linked_messages, linked_shape, linked_types, message_kind, natural, plain_shape, scalar_kind, scalar_of, value_of}
use Rattle.linked_types.proofs.EachSomeLemmas.{all_some}
use Rattle.linked_types.proofs.IndexLemmas.{index_some}
use Rattle.linked_types.proofs.LinkedParts.{enum_place, message_place}
use Rattle.linked_types.proofs.NamedTypes.{value_field_is}
use Rattle.linked_types.proofs.ScalarTypes.{scalar_some}

-- ---- values that are there

-- the image of a value that is there is there
image_some : {A B : Type 0} (f : A → B) (o : Option A) → IsSome o → IsSome (option_map f o)
image_some f None h = absurd (cc h)
image_some f (Some x) h = refl

-- what follows a value that is there is there
then_some : {A B : Type 0} (f : A → Option B) (o : Option A) → IsSome o → ((x : A) → o ≡ Some x → IsSome (f x))
    → IsSome (option_and_then f o)
then_some f None h k = absurd (cc h)
then_some f (Some x) h k = k x refl

known_some : {A : Type 0} (o : Option A) (x : A) → o ≡ Some x → IsSome o
known_some o x h = ap is_some h

-- at an index below the length there is an item
some_at : {X : Type 0} (xs : List X) (i : ℕ) → i < length xs → IsSome (slice_get xs i)
some_at [] i h = absurd (omega arith)
some_at (x ∷ xs) zero h = refl
some_at (x ∷ xs) (suc i) h = some_at xs i (omega arith)

-- ---- fields

module _ (types : SetTypes) (messages enums : List ℕ) where
  abbrev message : ℕ → Option ℕ
  message = index_from 0 messages

  abbrev enum : ℕ → Option ℕ
  enum = index_from 0 enums

  -- what a field names is among what is linked
  record IsNamedIn (f : FieldInfo) : Type 0 where
    pub message : (i : ℕ) → field_message types (value_field types f) ≡ Some i → IsAmong messages i
    pub enum : (i : ℕ) → field_enum types (value_field types f) ≡ Some i → IsAmong enums i

  -- the kind of a linkable type
  kind_some : (v : FieldInfo) → IsLinkableType types v → ((i : ℕ) → field_message types v ≡ Some i → IsAmong messages i)
      → ((i : ℕ) → field_enum types v ≡ Some i → IsAmong enums i) → IsSome (linked_kind types message enum v)
  kind_some v k among named = pick (has_type 11 v) (has_type 14 v) refl refl
    where
      pick : (b c : Bool) → has_type 11 v ≡ b → has_type 14 v ≡ c
          → IsSome (cond b (message_kind message (field_message types v))
          (cond c (enum_kind enum (field_enum types v)) (scalar_kind v.type_number)))
      pick true c e g =
          let found = k.message e in
          let is : field_message types v ≡ Some found.0 = ap (λ b. cond b (message_named types v.type_name) None) e
          ∙ found.1 in
          image_some _ (option_and_then message (field_message types v))
          (then_some message (field_message types v) (known_some (field_message types v) found.0 is)
          (λ i h. index_some 0 messages i (among i h)))
      pick false true e g =
          let found = k.enum g in
          let is : field_enum types v ≡ Some found.index = ap (λ b. cond b (enum_named types v.type_name) None) g
          ∙ found.index_is in
          image_some _ (option_and_then enum (field_enum types v))
          (then_some enum (field_enum types v) (known_some (field_enum types v) found.index is)
          (λ i h. index_some 0 enums i (named i h)))
      pick false false e g =
          image_some _ (scalar_of v.type_number)
          (scalar_some v.type_number k.type_number
          (or_from _ _ k.double (or_from _ _ k.float (or_from _ _ k.group (or_from _ _ e (or_from _ _ g refl))))))

  -- the field that has the type
  value_some : (f : FieldInfo) → IsLinkableField types f → IsSome (value_of types f)
  value_some f k = pick (map_entry types f) refl
    where
      pick : (o : Option DeclaredMessage) → map_entry types f ≡ o → IsSome (option_map_or entry_value o (Some f))
      pick None h = refl
      pick (Some e) h = known_some (entry_value e) (k.entry e h).value (k.entry e h).value_is

  -- the shape
  shape_some : (fs : List FieldInfo) (f : FieldInfo) → IsLinkableField types f → IsSome (linked_shape types fs f)
  shape_some fs f k = pick (map_entry types f) refl
    where
      pick : (o : Option DeclaredMessage) → map_entry types f ≡ o
          → IsSome (option_map_or (λ e. option_map (λ s. Map s) (key_scalar e)) o (Some (plain_shape fs f)))
      pick None h = refl
      pick (Some e) h = image_some _ (key_scalar e)
          (known_some (key_scalar e) (k.entry e h).scalar (k.entry e h).key_is)

  -- a linkable field is linked
  field_some : (syntax : List ℕ) (fs : List FieldInfo) (f : FieldInfo) → IsLinkableField types f → IsNamedIn f
      → IsSome (linked_field types message enum syntax fs f)
  field_some syntax fs f k named =
      then_some _ (natural f.number) (known_some (natural f.number) k.number.number (ap natural k.number.is))
      (λ n a. then_some _ (option_and_then (linked_kind types message enum) (value_of types f))
      (then_some (linked_kind types message enum) (value_of types f) (value_some f k)
      (λ v e. let is = value_field_is types f v e in
      kind_some v (subst (IsLinkableType types) is k.value)
      (λ i h. named.message i (subst (λ z. field_message types z ≡ Some i) (sym is) h))
      (λ i h. named.enum i (subst (λ z. field_enum types z ≡ Some i) (sym is) h))))
      (λ kind b. image_some _ (linked_shape types fs f) (shape_some fs f k)))

  -- the message of an item is linked, and what its fields name is among what is linked
  abbrev IsReady : Joined → Type 0
  IsReady j = IsLinkableItem types j × (j.message < length types.messages)
      × HaveMessages types (IsAmong messages) (fields_at types j.message)
      × HaveEnums types (IsAmong enums) (fields_at types j.message)

  item_some : (j : Joined) → IsReady j → IsSome (linked_item types message enum j)
  item_some j k =
      then_some _ (slice_get types.messages j.message) (some_at types.messages j.message k.1)
      (λ m e.
      let own : fields_at types j.message ≡ m.fields = ap
      (λ o. option_map_or (λ (n : DeclaredMessage). n.fields) o []) e in
      let named = subst (HaveMessages types (IsAmong messages)) own k.2 in
      let valued = subst (HaveEnums types (IsAmong enums)) own k.3 in
      let Named : FieldInfo → Type 0 = λ f. (i : ℕ) → field_message types (value_field types f) ≡ Some i
      → IsAmong messages i in
      let Valued : FieldInfo → Type 0 = λ f. (i : ℕ) → field_enum types (value_field types f) ≡ Some i
      → IsAmong enums i in
      image_some _ (each_some (linked_field types message enum m.syntax m.fields) m.fields)
      (all_some (linked_field types message enum m.syntax m.fields) m.fields
      (each_weaker (λ f. IsLinkableField types f × (Named f × Valued f))
      (λ f. IsSome (linked_field types message enum m.syntax m.fields f))
      (λ f l. field_some m.syntax m.fields f l.0 (record { message = l.1.0; enum = l.1.1 })) m.fields
      (each_both (IsLinkableField types) (λ f. Named f × Valued f) m.fields (k.0 m e).fields
      (each_both Named Valued m.fields named valued)))))

-- ---- types

-- what is reached of linkable messages is linked
pub types_some : (types : SetTypes) (ms : List BoundMethod) → IsReachClosed types ms
    → AreLinkable types (reachable types ms)
    → IsSome (linked_types types (reachable types ms))
types_some types ms closed linkable =
    let js = reachable types ms in
    let is = reached_enums types js in
    let Below : Joined → Type 0 = λ j. j.message < length types.messages in
    let Named : Joined → Type 0 = λ j. HaveMessages types (IsAmong (messages_of js)) (fields_at types j.message) in
    let Valued : Joined → Type 0 = λ j. HaveEnums types (IsAmong is) (fields_at types j.message) in
    let below : AllByRecursion Below js = each_image (λ (j : Joined). j.message)
    (λ i. i < length types.messages) js closed.messages_below in
    let ready = each_both (IsLinkableItem types) (λ j. Below j × (Named j × Valued j)) js linkable
    (each_both Below (λ j. Named j × Valued j) js below (each_both Named Valued js closed.messages closed.enums)) in
    let messages : IsSome (linked_messages types (message_place js) (enum_place types js) js) =
    all_some (linked_item types (message_place js) (enum_place types js)) js
    (each_weaker (λ j. IsLinkableItem types j × (Below j × (Named j × Valued j)))
    (λ j. IsSome (linked_item types (message_place js) (enum_place types js) j))
    (λ j r. item_some types (messages_of js) is j (r.0, r.1.0, r.1.1.0, r.1.1.1)) js ready) in
    let enums : IsSome (linked_enums types is) =
    all_some (linked_enum_at types) is
    (each_weaker (λ i. i < length types.enums) (λ i. IsSome (linked_enum_at types i))
    (λ i h. image_some _ (slice_get types.enums i) (some_at types.enums i h)) is closed.enums_below) in
    then_some _ (linked_messages types (message_place js) (enum_place types js) js) messages
    (λ m e. image_some _ (linked_enums types is) enums)
