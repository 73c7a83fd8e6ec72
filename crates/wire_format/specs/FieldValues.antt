-- The value that bytes are as a message: for each field the slot that its records say (the encoding guide,
-- "Last One Wins", "Oneofs", "Packed Repeated Fields", "Maps").
use Rattle.std.specs.Prelude.{◌==◌, ◌&&◌, ℕ, pos, zero, suc, false, Bool, List, [], ◌∷◌, Option, Some, None, map, is_some, if◌then◌else◌, option_and_then, unwrap_or}
use Rattle.std.specs.List.{flat_map, filter_map, list_any}
use Rattle.std.specs.Ordering.{is_eq, is_lt}
use Rattle.schema.specs.Layers.{ItemLayer}
use Rattle.schema.specs.Pairs.{key_cmp}
use Rattle.message_types.specs.Types.{field_in, fields_of}
use Rattle.schema.specs.Validity.{is_default}
use Rattle.schema.specs.Value.{with_slot}
use Rattle.schema.specs.declared.key.Key.{Key}
use Rattle.schema.specs.declared.key.Key.TheVariants.{Number as NumberKey, Truth as TruthKey, Text as TextKey}
use Rattle.message_types.specs.declared.fields.Field.{Field}
use Rattle.message_types.specs.declared.fields.Kind.{Kind}
use Rattle.message_types.specs.declared.fields.Kind.TheVariants.{One as OneOf, Message as MessageOf}
use Rattle.message_types.specs.declared.fields.Presence.{Presence}
use Rattle.message_types.specs.declared.fields.Presence.TheVariants.{Implicit, Explicit}
use Rattle.message_types.specs.declared.fields.Scalar.{Scalar}
use Rattle.message_types.specs.declared.fields.Shape.{Shape}
use Rattle.message_types.specs.declared.fields.Shape.TheVariants.{Member, Many as ManyOf, Map as MapOf}
use Rattle.message_types.specs.declared.messages.Types.{Types}
use Rattle.schema.specs.declared.value.Item.TheOpen.{Number, Truth, Text, Message, One, Many, Pairs as Entries}
use Rattle.schema.specs.declared.value.Item.{roll-Item, Item}
use Rattle.schema.specs.declared.value.Slot.{roll-Slot, Slot}
use Rattle.schema.specs.declared.value.Value.{Value}
use Rattle.wire_format.specs.Scalars.{scalar_of, elements, default_of}
use Rattle.schema.specs.Soundness.{is_packable}
use Rattle.std.specs.Option.{option_to_list}
use Rattle.wire_records.specs.WireRecord.{Record, Payload, sized, records}

-- the last of a list
abbrev pub last_of : {A : Type 0} → List A → Option A
last_of [] = None
last_of (x ∷ []) = Some x
last_of (x ∷ y ∷ xs) = last_of (y ∷ xs)

-- the test passes for the first of a list
abbrev pub first_passes : {A : Type 0} → (A → Bool) → List A → Bool
first_passes p [] = false
first_passes p (x ∷ xs) = p x

-- what stands behind the last for which the test passes
abbrev pub since : {A : Type 0} → (A → Bool) → List A → List A
since p [] = []
since p (x ∷ xs) = if list_any p (x ∷ xs) then since p xs else x ∷ xs

-- the payloads of a field number, in order
abbrev pub payloads : ℕ → List Record → List Payload
payloads n [] = []
payloads n (r ∷ rs) = if r.number == n then r.payload ∷ payloads n rs else payloads n rs

-- the bytes of a length-delimited payload
abbrev pub sized_of : Payload → Option (List ℕ)
sized_of (sized bs) = Some bs
sized_of _ = None

-- a payload counts for a singular field of this kind
abbrev pub counts : Types → Kind → Payload → Bool
counts types (OneOf s) p = is_some (scalar_of types s p)
counts types (MessageOf id) p = is_some (sized_of p)

-- a shape is that of a member of this oneof
abbrev pub in_oneof : ℕ → Shape → Bool
in_oneof k (Member j) = j == k
in_oneof k _ = false

-- a payload counts for a field, and that is a member of this oneof
abbrev pub counts_in : Types → ℕ → Option Field → Payload → Bool
counts_in types k None p = false
counts_in types k (Some f) p = in_oneof k f.shape && counts types f.kind p

-- a record sets another member of the oneof than number `n`
abbrev pub sets_other : Types → List Field → ℕ → ℕ → Record → Bool
sets_other types fields k n r = if r.number == n then false else counts_in types k (field_in fields r.number) r.payload

-- the records that count for a field: of a member of a oneof those behind the last that sets another member
abbrev pub counted : Types → List Field → ℕ → Shape → List Record → List Record
counted types fields n (Member k) rs = since (sets_other types fields k n) rs
counted types fields n _ rs = rs

-- a singular slot
abbrev pub one : ItemLayer → Slot
one i = roll-Slot (One (roll-Item i))

-- the slot of an item: none for the default of a field with implicit presence
abbrev pub stored : Presence → ItemLayer → Option Slot
stored Implicit i = if is_default i then None else Some (one i)
stored Explicit i = Some (one i)

-- the slot of a list: none for the empty one
abbrev pub many : List ItemLayer → Option Slot
many [] = None
many (i ∷ is) = Some (roll-Slot (Many (map roll-Item (i ∷ is))))

-- what bytes mean one level further in: as a message with these fields, and as an entry of a map, if it counts
pub record Inner : Type 0 where
  pub message : List Field → List ℕ → Value
  pub entry : Scalar → Kind → List ℕ → Option (Key × Item)

-- a message is what its payloads, joined, mean
abbrev pub message_item : Inner → List Field → List (List ℕ) → Option ItemLayer
message_item inner fields [] = None
message_item inner fields (p ∷ ps) = Some (Message (inner.message fields (flat_map (λ q. q) (p ∷ ps))))

-- the item of a singular field by its payloads: of a scalar the last
abbrev pub singular : Inner → Types → Kind → List Payload → Option ItemLayer
singular inner types (OneOf s) ps = last_of (filter_map (scalar_of types s) ps)
singular inner types (MessageOf id) ps = message_item inner (fields_of types id) (filter_map sized_of ps)

-- the items of one scalar payload of a list, packed or not
abbrev pub scalar_items : Types → Scalar → Payload → List ItemLayer
scalar_items types s (sized bs) = if is_packable s then elements types s 0 bs else option_to_list (scalar_of types s (sized bs))
scalar_items types s p = option_to_list (scalar_of types s p)

-- the items of one payload of a list
abbrev pub items_of : Inner → Types → Kind → Payload → List ItemLayer
items_of inner types (MessageOf id) (sized bs) = Message (inner.message (fields_of types id) bs) ∷ []
items_of inner types (MessageOf id) _ = []
items_of inner types (OneOf s) p = scalar_items types s p

-- an item as a key
abbrev pub key_of : ItemLayer → Key
key_of (Number z) = NumberKey z
key_of (Truth b) = TruthKey b
key_of (Text t) = TextKey t
key_of _ = NumberKey (pos 0)

-- the default of a kind; of a message the empty one
abbrev pub default_item : Types → Kind → ItemLayer
default_item types (OneOf s) = default_of types s
default_item types (MessageOf id) = Message (record { fields = [] })

-- an entry of a map by its records: key 1 and value 2, a missing part its default
abbrev pub entry_by : Inner → Types → Scalar → Kind → List Record → Option (Key × Item)
entry_by inner types s kind rs =
    Some (key_of (unwrap_or (singular inner types (OneOf s) (payloads 1 rs)) (default_of types s)), roll-Item (unwrap_or (singular inner types kind (payloads 2 rs)) (default_item types kind)))

-- an entry where its key belongs, unless the key has one
abbrev pub if_new : Key × Item → List (Key × Item) → List (Key × Item)
if_new e [] = e ∷ []
if_new e (d ∷ ds) = if is_lt (key_cmp d.0 e.0) then d ∷ if_new e ds else (if is_eq (key_cmp d.0 e.0) then d ∷ ds else e ∷ d ∷ ds)

-- for each key the last entry with it, by rising key
abbrev pub last_entries : List (Key × Item) → List (Key × Item)
last_entries [] = []
last_entries (e ∷ es) = if_new e (last_entries es)

-- the slot of entries: none for no entries
abbrev pub entries_slot : List (Key × Item) → Option Slot
entries_slot [] = None
entries_slot (e ∷ es) = Some (roll-Slot (Entries (record { entries = e ∷ es })))

-- the slot of a map
abbrev pub pairs : List (Key × Item) → Option Slot
pairs es = entries_slot (last_entries es)

-- the slot of a field by the payloads that count for it
abbrev pub slot_by : Inner → Types → Presence → Shape → Kind → List Payload → Option Slot
slot_by inner types presence ManyOf kind ps = many (flat_map (items_of inner types kind) ps)
slot_by inner types presence (MapOf s) kind ps = pairs (filter_map (inner.entry s kind) (filter_map sized_of ps))
slot_by inner types presence _ kind ps = option_and_then (stored presence) (singular inner types kind ps)

-- the slot of a field number by the records of a message
abbrev pub slot_of : Inner → Types → List Field → List Record → ℕ → Option Slot
slot_of inner types fields rs n = option_and_then (λ f. slot_by inner types f.presence f.shape f.kind (payloads n (counted types fields n f.shape rs))) (field_in fields n)

-- the list with a slot, where there is one
abbrev pub with_some : List (ℕ × Slot) → ℕ → Option Slot → List (ℕ × Slot)
with_some es n None = es
with_some es n (Some s) = with_slot es n s

-- the slots of the fields, by rising number
abbrev pub gather : (ℕ → Option Slot) → List Field → List (ℕ × Slot)
gather slot [] = []
gather slot (f ∷ fs) = with_some (gather slot fs) f.number (slot f.number)

-- what bytes mean in so many levels; records of unknown numbers and of unfitting wire types count for nothing
unfoldable pub meaning_within : ℕ → Types → Inner
meaning_within zero types = record { message = λ fields bytes. record { fields = [] }; entry = λ s kind bytes. Some (key_of (default_of types s), roll-Item (default_item types kind)) }
meaning_within (suc k) types = record {
  message = λ fields bytes. record { fields = gather (slot_of (meaning_within k types) types fields (records k 0 bytes)) fields };
  entry = λ s kind bytes. entry_by (meaning_within k types) types s kind (records k 0 bytes);
}
