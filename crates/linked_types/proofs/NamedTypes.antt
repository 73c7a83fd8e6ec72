-- Ids find names.
use Rattle.std.proofs.Common.{◌≡◌, ◌+◌, ℕ, ℤ, zero, suc, pos, negsuc, Bool, true, false, cond, List, [], ◌∷◌, map, Option, Some, None, option_and_then, option_map, refl, sym, ap, subst, ◌∙◌, arith, slice_get, unwrap_or}
use Rattle.std.proofs.lemmas.Option.{option_and_then_some, same_Some, slice_get-map}
use Rattle.std.proofs.lemmas.Slice.Eq.{bytes_eq-Decides}
use Rattle.std.proofs.lemmas.Slice.Zip.{AllZip-long}
use Rattle.std.specs.List.{AllZip}
use Rattle.std.specs.Option.{option_map_or}
use Rattle.std.specs.Ordering.{int_eq}
use Rattle.std.specs.Str.{bytes_eq}
use Rattle.std.proofs.lemmas.Bool.Decides.{Decides-int_eq}
use Rattle.descriptors.specs.declared.file_set.FieldInfo.{FieldInfo}
use Rattle.descriptor_pool.specs.DeclaredNames.{DeclaredEnum, DeclaredMessage}
use Rattle.descriptor_pool.specs.DeclaredTypes.{SetTypes, bare, enum_named, first_from, message_named, type_named}
use Rattle.descriptor_pool.specs.FieldTypes.{entry_value, field_enum, field_message, has_type, map_entry, value_field}
use Rattle.descriptor_pool.specs.ReachableTypes.{Joined, messages_of, reached_enums}
use Rattle.message_types.specs.declared.enums.EnumType.{EnumType}
use Rattle.message_types.specs.declared.fields.Field.{Field}
use Rattle.message_types.specs.declared.fields.Kind.{Kind}
use Rattle.message_types.specs.declared.messages.TypeId.{TypeId}
use Rattle.message_types.specs.declared.messages.Types.{Types}
use Rattle.linked_types.specs.FoundNames.{FindsEnum, FindsMessage, FindsName, HasEnumAt, HasFieldAt, HasMessageAt, IdsFindNames, IsEnumNamed, IsMessageNamed}
use Rattle.linked_types.specs.LinkedTypes.{enum_kind, linked_enum, linked_field, linked_kind, linked_types, message_id, message_kind, natural, scalar_kind, value_of}
use Rattle.linked_types.proofs.EachSomeLemmas.{option_map_some, zip_at}
use Rattle.linked_types.proofs.IndexLemmas.{index_stands}
use Rattle.linked_types.proofs.LinkedParts.{AreTypesOf, enum_place, field_parts, item_parts, message_place, types_parts}

-- a number that is a natural one
pub natural_is : (z : ℤ) (n : ℕ) → natural z ≡ Some n → z ≡ pos n
natural_is (pos k) n h = ap (λ z. pos z) (same_Some k n h)
natural_is (negsuc k) n h = absurd (cc h)

-- ---- names of the set

first_found : (k : ℕ) (names : List (List ℕ)) (q : List ℕ) (i : ℕ) → first_from k names q ≡ Some i
    → (d : ℕ) × (i ≡ k + d) × (slice_get names d ≡ Some q)
first_found k [] q i h = absurd (cc h)
first_found k (n ∷ ns) q i h = pick (bytes_eq q n) refl h (first_found (k + 1) ns q i)
  where
    pick : (b : Bool) → bytes_eq q n ≡ b → cond b (Some k) (first_from (k + 1) ns q) ≡ Some i
        → (first_from (k + 1) ns q ≡ Some i → (d : ℕ) × (i ≡ (k + 1) + d) × (slice_get ns d ≡ Some q))
        → (d : ℕ) × (i ≡ k + d) × (slice_get (n ∷ ns) d ≡ Some q)
    pick true e g next =
        let same : k ≡ i = same_Some k i g in
        (zero, omega arith, ap (λ z. Some z) (sym ((bytes_eq-Decides q n).0 e)))
    pick false e g next =
        let rest = next g in
        let at = rest.1 in
        (suc rest.0, omega arith, rest.2)

-- a type name names the full name at its index
type_name_at : (names : List (List ℕ)) (type_name : List ℕ) (i : ℕ) (q : List ℕ) → type_named names type_name ≡ Some i
    → slice_get names i ≡ Some q
    → bare type_name ≡ Some q
type_name_at names type_name i q h g =
    option_and_then_some (first_from 0 names) (bare type_name) i h
    (λ p e f.
    let found = first_found 0 names p i f in
    let at = found.1 in
    let place : found.0 ≡ i = omega arith in
    let there : slice_get names i ≡ Some p = subst (λ z. slice_get names z ≡ Some p) place found.2 in
    e ∙ sym there ∙ g)

module _ (types : SetTypes) where
  -- the type name of a message of the set
  pub message_name_at : (type_name : List ℕ) (i : ℕ) (m : DeclaredMessage) → message_named types type_name ≡ Some i
      → slice_get types.messages i ≡ Some m
      → bare type_name ≡ Some m.name
  message_name_at type_name i m h g =
      type_name_at (map (λ (z : DeclaredMessage). z.name) types.messages) type_name i m.name h
      (slice_get-map (λ (z : DeclaredMessage). z.name) types.messages i
      ∙ ap (option_map (λ (z : DeclaredMessage). z.name)) g)

  -- and of an enum
  pub enum_name_at : (type_name : List ℕ) (i : ℕ) (e : DeclaredEnum) → enum_named types type_name ≡ Some i
      → slice_get types.enums i ≡ Some e
      → bare type_name ≡ Some e.name
  enum_name_at type_name i e h g =
      type_name_at (map (λ (z : DeclaredEnum). z.name) types.enums) type_name i e.name h
      (slice_get-map (λ (z : DeclaredEnum). z.name) types.enums i ∙ ap (option_map (λ (z : DeclaredEnum). z.name)) g)

  -- the field that has the type of one value is the one that the definitions of the set give
  pub value_field_is : (f v : FieldInfo) → value_of types f ≡ Some v → value_field types f ≡ v
  value_field_is f v h = pick (map_entry types f) h
    where
      pick : (o : Option DeclaredMessage) → option_map_or entry_value o (Some f) ≡ Some v
          → unwrap_or (option_and_then entry_value o) f ≡ v
      pick None e = same_Some f v e
      pick (Some d) e = ap (λ o. unwrap_or o f) e

-- ---- names of what is linked

module _ (types : SetTypes) (js : List Joined) (t : Types) (parts : AreTypesOf types js t) where
  -- the message type at the place of a message of the set has the name that a type name of it names
  finds_message : (type_name : List ℕ) (i n : ℕ) → message_named types type_name ≡ Some i → message_place js i ≡ Some n
      → FindsMessage t type_name (record { 0 = n })
  finds_message type_name i n h g =
      option_map_some (λ (z : Joined). z.message) (slice_get js n) i
      (sym (slice_get-map (λ (z : Joined). z.message) js n) ∙ index_stands (messages_of js) i n g)
      (λ j at is.
      let found = zip_at _ js t.messages parts.messages n j at in
      let item = item_parts types (message_place js) (enum_place types js) j found.0 found.2 in
      let own : slice_get types.messages i ≡ Some item.declared = subst
      (λ z. slice_get types.messages z ≡ Some item.declared) is item.declared_is in
      record {
        message = found.0;
        message_is = found.1;
        named = message_name_at types type_name i item.declared h own ∙ ap (λ z. Some z) (sym item.name);
      })

  -- and so has the enum type
  finds_enum : (type_name : List ℕ) (i n : ℕ) → enum_named types type_name ≡ Some i → enum_place types js i ≡ Some n
      → FindsEnum t type_name (record { 0 = n })
  finds_enum type_name i n h g =
      let found = zip_at _ (reached_enums types js) t.enums parts.enums n i
      (index_stands (reached_enums types js) i n g) in
      option_map_some linked_enum (slice_get types.enums i) found.0 found.2
      (λ e at is. record {
        enum = found.0;
        enum_is = found.1;
        named = enum_name_at types type_name i e h at ∙ ap (λ (z : EnumType). Some z.name) is;
      })

  kind_message : (type_name : List ℕ) (o : Option ℕ) (kind : Kind) → message_named types type_name ≡ o
      → message_kind (message_place js) o ≡ Some kind
      → IsMessageNamed t type_name kind
  kind_message type_name o kind h g =
      option_map_some _ (option_and_then (message_place js) o) kind g
      (λ n e is. option_and_then_some (message_place js) o n e
      (λ i a b. record { id = record { 0 = n }; kind_is = sym is; finds = finds_message type_name i n (h ∙ a) b }))

  kind_enum : (type_name : List ℕ) (o : Option ℕ) (kind : Kind) → enum_named types type_name ≡ o
      → enum_kind (enum_place types js) o ≡ Some kind
      → IsEnumNamed t type_name kind
  kind_enum type_name o kind h g =
      option_map_some _ (option_and_then (enum_place types js) o) kind g
      (λ n e is. option_and_then_some (enum_place types js) o n e
      (λ i a b. record { id = record { 0 = n }; kind_is = sym is; finds = finds_enum type_name i n (h ∙ a) b }))

  not_both : (v : FieldInfo) → has_type 14 v ≡ true → has_type 11 v ≡ false
  not_both v h = let is = (Decides-int_eq v.type_number (pos 14)).0 h in ap (λ z. int_eq z (pos 11)) is

  -- the kind of a field finds the name of its type
  pub finds_name : (v : FieldInfo) (kind : Kind) → linked_kind types (message_place js)
      (enum_place types js) v ≡ Some kind → FindsName t v kind
  finds_name v kind h = record {
    message = λ e.
        let is : message_kind (message_place js) (message_named types v.type_name) ≡ Some kind =
        sym (ap (λ b. cond b (message_kind (message_place js) (cond b (message_named types v.type_name) None))
        (cond (has_type 14 v) (enum_kind (enum_place types js) (field_enum types v)) (scalar_kind v.type_number))) e)
        ∙ h in
        kind_message v.type_name (message_named types v.type_name) kind refl is;
    enum = λ e.
        let is : enum_kind (enum_place types js) (enum_named types v.type_name) ≡ Some kind =
        sym (ap (λ b. cond b (message_kind (message_place js) (field_message types v))
        (cond (has_type 14 v) (enum_kind (enum_place types js) (field_enum types v)) (scalar_kind v.type_number)))
        (not_both v e)
        ∙ ap (λ b. cond b (enum_kind (enum_place types js) (cond b (enum_named types v.type_name) None))
        (scalar_kind v.type_number)) e) ∙ h in
        kind_enum v.type_name (enum_named types v.type_name) kind refl is;
  }

  -- each field is linked in its place
  has_field : (m : DeclaredMessage) (f : FieldInfo) (fields : List Field) (i : ℕ) (g : Field)
      → slice_get fields i ≡ Some g
      → linked_field types (message_place js) (enum_place types js) m.syntax m.fields f ≡ Some g
      → HasFieldAt types t f fields i
  has_field m f fields i g at h =
      let field = field_parts types (message_place js) (enum_place types js) m.syntax m.fields f g h in
      record {
        field = g;
        field_is = at;
        name = field.name;
        number = natural_is f.number g.number field.number;
        type_name = subst (λ v. FindsName t v g.kind) (sym (value_field_is types f field.value field.value_is))
            (finds_name field.value g.kind field.kind);
      }

  -- each message is linked in its place
  has_message : (k : ℕ) (j : Joined) (m : DeclaredMessage) → slice_get js k ≡ Some j
      → slice_get types.messages j.message ≡ Some m → HasMessageAt types t m k
  has_message k j m h g =
      let found = zip_at _ js t.messages parts.messages k j h in
      let item = item_parts types (message_place js) (enum_place types js) j found.0 found.2 in
      let same : item.declared ≡ m = same_Some item.declared m (sym item.declared_is ∙ g) in
      let R : DeclaredMessage → FieldInfo → Field → Type 0 = λ d f z. linked_field types (message_place js)
      (enum_place types js) d.syntax d.fields f ≡ Some z in
      let fields : AllZip (R m) m.fields found.0.fields = subst
      (λ d. AllZip (R d) d.fields found.0.fields) same item.fields in
      record {
        message = found.0;
        message_is = found.1;
        name = item.name ∙ ap (λ (d : DeclaredMessage). d.name) same;
        count = AllZip-long (R m) m.fields found.0.fields fields;
        fields = λ i f e.
            let there = zip_at (R m) m.fields found.0.fields fields i f e in
            has_field m f found.0.fields i there.0 there.1 there.2;
      }

  -- each enum is linked in its place
  has_enum : (k i : ℕ) (e : DeclaredEnum) → slice_get (reached_enums types js) k ≡ Some i
      → slice_get types.enums i ≡ Some e → HasEnumAt t e k
  has_enum k i e h g =
      let found = zip_at _ (reached_enums types js) t.enums parts.enums k i h in
      let same : linked_enum e ≡ found.0 = same_Some (linked_enum e) found.0
      (sym (ap (option_map linked_enum) g) ∙ found.2) in
      record {
        enum = found.0;
        enum_is = found.1;
        name = ap (λ (z : EnumType). z.name) (sym same);
        values = ap (λ (z : EnumType). z.values) (sym same);
      }

  -- a type name that has an id finds its name
  pub id_finds : (type_name : List ℕ) (id : TypeId) → message_id types js type_name ≡ Some id
      → FindsMessage t type_name id
  id_finds type_name id h =
      option_map_some _ (option_and_then (message_place js) (message_named types type_name)) id h
      (λ n e is. option_and_then_some (message_place js) (message_named types type_name) n e
      (λ i a b. subst (FindsMessage t type_name) is (finds_message type_name i n a b)))

  all_find : IdsFindNames types js t
  all_find = record {
    messages = has_message;
    message_count = AllZip-long _ js t.messages parts.messages;
    enums = has_enum;
    enum_count = AllZip-long _ (reached_enums types js) t.enums parts.enums;
    ids = id_finds;
  }

-- what is linked finds the names that are declared
pub names_found : (types : SetTypes) (js : List Joined) (t : Types) → linked_types types js ≡ Some t
    → IdsFindNames types js t
names_found types js t h = all_find types js t (types_parts types js t h)
