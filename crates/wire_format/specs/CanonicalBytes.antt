-- The canonical bytes of a value: fields by rising number, shortest varints, lists packed as declared, map
-- entries by rising key, each with key and value (the encoding guide).
use Rattle.std.specs.Prelude.{◌+◌, ◌*◌, ◌++◌, ℕ, ℤ, pos, negsuc, zero, suc, Bool, List, [], ◌∷◌, Option, Some, None, if◌then◌else◌}
use Rattle.std.specs.List.{flat_map}
use Rattle.std.specs.Int.{w32, w64, cast_unsigned, to_le_bytes}
use Rattle.schema.specs.Layers.{ItemLayer, SlotLayer}
use Rattle.schema.specs.Pairs.{entries_of}
use Rattle.message_types.specs.Types.{field_in, fields_of}
use Rattle.schema.specs.Value.{slots_of}
use Rattle.schema.specs.declared.value.Item.TheOpen.{Number, Truth, Text, Bytes, Message, One, Many, Pairs as Entries}
use Rattle.schema.specs.declared.value.Item.{out-Item, Item}
use Rattle.schema.specs.declared.key.Key.{Key}
use Rattle.schema.specs.declared.key.Key.TheVariants.{Number as NumberKey, Truth as TruthKey, Text as TextKey}
use Rattle.schema.specs.declared.value.Slot.{out-Slot, Slot}
use Rattle.schema.specs.declared.value.Value.{Value}
use Rattle.message_types.specs.declared.fields.Field.{Field}
use Rattle.message_types.specs.declared.fields.Kind.{Kind}
use Rattle.message_types.specs.declared.fields.Kind.TheVariants.{One as OneOf, Message as MessageOf}
use Rattle.message_types.specs.declared.fields.Scalar.{Scalar}
use Rattle.message_types.specs.declared.fields.Scalar.TheVariants.{Sint32, Sint64, Fixed32, Fixed64, Sfixed32, Sfixed64}
use Rattle.message_types.specs.declared.fields.Shape.{Shape}
use Rattle.message_types.specs.declared.fields.Shape.TheVariants.{Map as MapOf}
use Rattle.message_types.specs.declared.messages.TypeId.{TypeId}
use Rattle.message_types.specs.declared.messages.Types.{Types}
use Rattle.wire_records.specs.RecordBytes.{tag, delimited}
use Rattle.wire_records.specs.Varint.{varint}
use Rattle.wire_format.specs.Scalars.{scalar_wire}

-- signed numbers by zigzag (the encoding guide, "Signed Integers")
abbrev pub zigzag : ℤ → ℕ
zigzag (pos n) = 2 * n
zigzag (negsuc n) = 2 * n + 1

-- the bytes of a number of a scalar kind; a negative int32, int64 or enum has 64 bits
abbrev pub number_bytes : Scalar → ℤ → List ℕ
number_bytes Sint32 z = varint (zigzag z)
number_bytes Sint64 z = varint (zigzag z)
number_bytes Fixed32 z = to_le_bytes w32 (cast_unsigned w32 z)
number_bytes Sfixed32 z = to_le_bytes w32 (cast_unsigned w32 z)
number_bytes Fixed64 z = to_le_bytes w64 (cast_unsigned w64 z)
number_bytes Sfixed64 z = to_le_bytes w64 (cast_unsigned w64 z)
number_bytes _ z = varint (cast_unsigned w64 z)

-- the wire type of a kind
abbrev pub wire_of : Kind → ℕ
wire_of (OneOf s) = scalar_wire s
wire_of (MessageOf id) = 2

-- a truth value
abbrev pub truth_bytes : Bool → List ℕ
truth_bytes t = (if t then 1 else 0) ∷ []

-- the bytes of an item behind a tag, where `sub` gives those of a message
abbrev pub item_bytes : (TypeId → Value → List ℕ) → Kind → ItemLayer → List ℕ
item_bytes sub (OneOf s) (Number z) = number_bytes s z
item_bytes sub (OneOf s) (Truth t) = truth_bytes t
item_bytes sub (OneOf s) (Text t) = delimited t
item_bytes sub (OneOf s) (Bytes b) = delimited b
item_bytes sub (MessageOf id) (Message v) = delimited (sub id v)
item_bytes sub _ _ = []

-- an item behind its tag
abbrev pub record_bytes : (TypeId → Value → List ℕ) → ℕ → Kind → Item → List ℕ
record_bytes sub number kind i = tag number (wire_of kind) ++ item_bytes sub kind (out-Item i)

-- a key behind a tag
abbrev pub key_bytes : Scalar → Key → List ℕ
key_bytes s (NumberKey z) = number_bytes s z
key_bytes s (TruthKey t) = truth_bytes t
key_bytes s (TextKey t) = delimited t

-- an entry of a map: its key and its value, always both
abbrev pub entry_bytes : (TypeId → Value → List ℕ) → Scalar → Kind → Key × Item → List ℕ
entry_bytes sub s kind e = tag 1 (scalar_wire s) ++ (key_bytes s e.0 ++ record_bytes sub 2 kind e.1)

-- an entry behind the tag of its field and its length
abbrev pub entry_record : (TypeId → Value → List ℕ) → ℕ → Scalar → Kind → Key × Item → List ℕ
entry_record sub number s kind e = tag number 2 ++ delimited (entry_bytes sub s kind e)

-- items one after another, without tags
abbrev pub items_bytes : (TypeId → Value → List ℕ) → Kind → List Item → List ℕ
items_bytes sub kind is = flat_map (λ i. item_bytes sub kind (out-Item i)) is

-- items one after another, each with its tag
abbrev pub records_bytes : (TypeId → Value → List ℕ) → ℕ → Kind → List Item → List ℕ
records_bytes sub number kind is = flat_map (record_bytes sub number kind) is

-- a list, packed as its field declares
abbrev pub list_bytes : (TypeId → Value → List ℕ) → Field → List Item → List ℕ
list_bytes sub f is = if f.packed then tag f.number 2 ++ delimited (items_bytes sub f.kind is) else records_bytes sub f.number f.kind is

-- the entries of a map, each with its tag
abbrev pub entries_bytes : (TypeId → Value → List ℕ) → ℕ → Scalar → Kind → List (Key × Item) → List ℕ
entries_bytes sub number s kind es = flat_map (entry_record sub number s kind) es

-- the bytes of a field with this shape
abbrev pub slot_bytes : (TypeId → Value → List ℕ) → Field → Shape → SlotLayer → List ℕ
slot_bytes sub f (MapOf s) (Entries p) = entries_bytes sub f.number s f.kind (entries_of p)
slot_bytes sub f _ (One i) = record_bytes sub f.number f.kind i
slot_bytes sub f _ (Many is) = list_bytes sub f is
slot_bytes sub f _ _ = []

-- the bytes of a slot as the field that its number has
abbrev pub field_bytes : (TypeId → Value → List ℕ) → Option Field → Slot → List ℕ
field_bytes sub None s = []
field_bytes sub (Some f) s = slot_bytes sub f f.shape (out-Slot s)

-- the bytes of slots, as these fields
abbrev pub slots_bytes : (TypeId → Value → List ℕ) → List Field → List (ℕ × Slot) → List ℕ
slots_bytes sub fields es = flat_map (λ (e : ℕ × Slot). field_bytes sub (field_in fields e.0) e.1) es

-- the canonical bytes of a value, of so many levels
unfoldable pub canonical_within : ℕ → Types → TypeId → Value → List ℕ
canonical_within zero types id v = []
canonical_within (suc k) types id v = slots_bytes (canonical_within k types) (fields_of types id) (slots_of v)

-- the canonical bytes of a value, whose depth is 100 at most
unfoldable pub canonical_bytes : Types → TypeId → Value → List ℕ
canonical_bytes types id v = canonical_within 100 types id v
