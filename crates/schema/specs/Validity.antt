-- Which values a message type has (the encoding guide and descriptor.proto's types): each number is a
-- field's, each slot fits its field, no default is stored where absence says the same, no list or map is
-- empty, a oneof has one member at most, and the depth is within a limit.
use Rattle.std.specs.Prelude.{◌≡◌, ◌≢◌, ◌≤ℤ◌, ◌<ℤ◌, ◌^◌, ◌-◌, ◌==◌, pos, negsuc, ℕ, ℤ, zero, suc, Bool, true, false, List, [], length, nat_eq, Option, Some, None, if◌then◌else◌}
use Rattle.std.specs.List.{AllByRecursion, filter_map}
use Rattle.std.specs.Ordering.{int_eq}
use Rattle.std.specs.Str.{IsUtf8}
use Rattle.schema.specs.Apart.{AreApart}
use Rattle.schema.specs.Layers.{ItemLayer, SlotLayer}
use Rattle.schema.specs.Pairs.{entries_of, KeysRise}
use Rattle.message_types.specs.Types.{field_in, fields_of}
use Rattle.schema.specs.Value.{RiseFrom, slots_of}
use Rattle.schema.specs.declared.key.Key.{Key}
use Rattle.schema.specs.declared.key.Key.TheVariants.{Number as NumberKey, Truth as TruthKey, Text as TextKey}
use Rattle.message_types.specs.declared.fields.Field.{Field}
use Rattle.message_types.specs.declared.fields.Kind.{Kind}
use Rattle.message_types.specs.declared.fields.Kind.TheVariants.{One as OneOf, Message as MessageOf}
use Rattle.message_types.specs.declared.fields.Presence.{Presence}
use Rattle.message_types.specs.declared.fields.Presence.TheVariants.{Implicit, Explicit}
use Rattle.message_types.specs.declared.fields.Scalar.{Scalar}
use Rattle.message_types.specs.declared.fields.Scalar.TheVariants.{Int32, Int64, Uint32, Uint64, Sint32, Sint64, Fixed32, Fixed64, Sfixed32, Sfixed64, Bool as BoolOf, Text as TextOf, Bytes as BytesOf, Enumeration}
use Rattle.message_types.specs.declared.fields.Shape.{Shape}
use Rattle.message_types.specs.declared.fields.Shape.TheVariants.{Single, Member, Many as ManyOf, Map as MapOf}
use Rattle.message_types.specs.declared.messages.TypeId.{TypeId}
use Rattle.message_types.specs.declared.messages.Types.{Types}
use Rattle.schema.specs.declared.value.Item.TheOpen.{Number, Truth, Text, Bytes, Message, One, Many, Pairs}
use Rattle.schema.specs.declared.value.Item.{out-Item, Item}
use Rattle.schema.specs.declared.value.Slot.{out-Slot, Slot}
use Rattle.schema.specs.declared.value.Value.{Value}

-- a number is from `low` up to, and not, `high`
abbrev pub IsWithin : ℤ → ℤ → ℤ → Type 0
IsWithin low high z = (low ≤ℤ z) × (z <ℤ high)

-- a signed number of 32 bits
abbrev pub IsInt32 : ℤ → Type 0
IsInt32 = IsWithin (negsuc (2 ^ 31 - 1)) (pos (2 ^ 31))

-- a signed number of 64 bits
abbrev pub IsInt64 : ℤ → Type 0
IsInt64 = IsWithin (negsuc (2 ^ 63 - 1)) (pos (2 ^ 63))

-- an item is a value of the scalar kind, in its range
abbrev pub IsScalarItem : Scalar → ItemLayer → Type 0
IsScalarItem Int32 (Number z) = IsInt32 z
IsScalarItem Sint32 (Number z) = IsInt32 z
IsScalarItem Sfixed32 (Number z) = IsInt32 z
IsScalarItem (Enumeration id) (Number z) = IsInt32 z
IsScalarItem Int64 (Number z) = IsInt64 z
IsScalarItem Sint64 (Number z) = IsInt64 z
IsScalarItem Sfixed64 (Number z) = IsInt64 z
IsScalarItem Uint32 (Number z) = IsWithin (pos 0) (pos (2 ^ 32)) z
IsScalarItem Fixed32 (Number z) = IsWithin (pos 0) (pos (2 ^ 32)) z
IsScalarItem Uint64 (Number z) = IsWithin (pos 0) (pos (2 ^ 64)) z
IsScalarItem Fixed64 (Number z) = IsWithin (pos 0) (pos (2 ^ 64)) z
IsScalarItem BoolOf (Truth b) = Unit {0}
IsScalarItem TextOf (Text t) = IsUtf8 t
IsScalarItem BytesOf (Bytes b) = Unit {0}
IsScalarItem _ _ = ⊥

-- a key as an item
abbrev pub key_item : Key → ItemLayer
key_item (NumberKey z) = Number z
key_item (TruthKey b) = Truth b
key_item (TextKey t) = Text t

-- an item is its kind's default
abbrev pub is_default : ItemLayer → Bool
is_default (Number z) = int_eq z (pos 0)
is_default (Truth b) = if b then false else true
is_default (Text t) = length t == 0
is_default (Bytes b) = length b == 0
is_default (Message v) = false

-- an item may be stored: it is not the default of a field that does not tell it from absence
abbrev pub IsStored : Presence → ItemLayer → Type 0
IsStored Implicit i = is_default i ≡ false
IsStored Explicit i = Unit {0}

-- what is valid one level further in: a message of a type, and an entry of a map with keys and values of these kinds
pub record Inner : Type 1 where
  pub message : TypeId → Value → Type 0
  pub entry : Scalar → Kind → Key × Item → Type 0

-- an item is a value of the kind
abbrev pub IsItem : Inner → Kind → ItemLayer → Type 0
IsItem inner (OneOf s) i = IsScalarItem s i
IsItem inner (MessageOf id) (Message v) = inner.message id v
IsItem inner (MessageOf id) _ = ⊥

-- entries are those of a map with keys and values of these kinds
abbrev pub IsMapOf : Inner → Scalar → Kind → List (Key × Item) → Type 0
IsMapOf inner s kind es = (es ≢ []) × KeysRise es × AllByRecursion (inner.entry s kind) es

-- a slot fits a field with this shape
abbrev pub IsSlot : Inner → Field → Shape → SlotLayer → Type 0
IsSlot inner f Single (One i) = IsItem inner f.kind (out-Item i) × IsStored f.presence (out-Item i)
IsSlot inner f (Member k) (One i) = IsItem inner f.kind (out-Item i) × IsStored f.presence (out-Item i)
IsSlot inner f ManyOf (Many is) = (is ≢ []) × AllByRecursion (λ i. IsItem inner f.kind (out-Item i)) is
IsSlot inner f (MapOf s) (Pairs ps) = IsMapOf inner s f.kind (entries_of ps)
IsSlot inner f _ _ = ⊥

-- a slot fits the field that its number has
abbrev pub IsFieldSlot : Inner → Option Field → Slot → Type 0
IsFieldSlot inner None s = ⊥
IsFieldSlot inner (Some f) s = IsSlot inner f f.shape (out-Slot s)

-- the oneof of which a field is a member
abbrev pub oneof_of : Option Field → Option ℕ
oneof_of None = None
oneof_of (Some f) = index f.shape
  where
    index : Shape → Option ℕ
    index (Member k) = Some k
    index _ = None

-- the oneofs of which the fields of a list of slots are members
abbrev pub oneofs_in : List Field → List (ℕ × Slot) → List ℕ
oneofs_in fields es = filter_map (λ (e : ℕ × Slot). oneof_of (field_in fields e.0)) es

-- no field of a list of slots is a member of this oneof
abbrev pub IsFreeOneof : List Field → ℕ → List (ℕ × Slot) → Type 0
IsFreeOneof fields k es = AllByRecursion (λ j. nat_eq k j ≡ false) (oneofs_in fields es)

-- each slot of a list fits its field
abbrev pub AreFieldSlots : Inner → List Field → List (ℕ × Slot) → Type 0
AreFieldSlots inner fields es = AllByRecursion (λ (e : ℕ × Slot). IsFieldSlot inner (field_in fields e.0) e.1) es

-- a message of the type, where `inner` says what its parts may be
pub record IsMessage (inner : Inner) (types : Types) (id : TypeId) (v : Value) : Type 0 where
  pub rising : RiseFrom 0 (slots_of v)
  pub slots : AreFieldSlots inner (fields_of types id) (slots_of v)
  pub oneofs : AreApart nat_eq (oneofs_in (fields_of types id) (slots_of v))

-- what is valid in so many levels: a message is one, and an entry of a map is one
unfoldable pub valid_within : ℕ → Types → Inner
valid_within zero types = record { message = λ id v. ⊥; entry = λ s kind e. ⊥ }
valid_within (suc k) types = record {
  message = λ id v. IsMessage (valid_within k types) types id v;
  entry = λ s kind e. IsScalarItem s (key_item e.0) × IsItem (valid_within k types) kind (out-Item e.1);
}

-- a valid value of the type, of at most 100 levels
abbrev pub IsValid : Types → TypeId → Value → Type 0
IsValid types id v = (valid_within 100 types).message id v
