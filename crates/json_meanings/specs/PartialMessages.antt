-- What has come of a JSON object: the members of a message, or the entries of a map (the ProtoJSON guide).
use Rattle.std.specs.Prelude.{◌==◌, ◌||◌, ◌++◌, ℕ, zero, suc, Bool, true, false, List, [], ◌∷◌, Option, Some, None, Result, Ok, Err, if◌then◌else◌, is_some}
use Rattle.std.specs.Str.{bytes_eq}
use Rattle.message_types.specs.declared.fields.Field.{Field}
use Rattle.message_types.specs.declared.fields.Kind.{Kind}
use Rattle.message_types.specs.declared.fields.Kind.TheVariants.{Message as MessageOf}
use Rattle.message_types.specs.declared.fields.Presence.{Presence}
use Rattle.message_types.specs.declared.fields.Presence.TheVariants.{Implicit, Explicit}
use Rattle.message_types.specs.declared.fields.Scalar.{Scalar}
use Rattle.message_types.specs.declared.fields.Shape.{Shape}
use Rattle.message_types.specs.declared.fields.Shape.TheVariants.{Member}
use Rattle.message_types.specs.declared.messages.Types.{Types}
use Rattle.schema.specs.Layers.{ItemLayer}
use Rattle.schema.specs.Pairs.{item_at}
use Rattle.schema.specs.Validity.{is_default}
use Rattle.schema.specs.Value.{with_slot}
use Rattle.schema.specs.declared.key.Key.{Key}
use Rattle.schema.specs.declared.key.Key.TheVariants.{Number as NumberKey, Truth as TruthKey, Text as TextKey}
use Rattle.schema.specs.declared.value.Item.TheOpen.{Number, Truth, Text, One, Many, Pairs as Entries}
use Rattle.schema.specs.declared.value.Item.{roll-Item, Item}
use Rattle.schema.specs.declared.value.Slot.{roll-Slot, Slot}
use Rattle.schema.specs.declared.value.Value.{Value}
use Rattle.json_meanings.specs.JsonScalars.{text_as}
use Rattle.json_meanings.specs.declared.fault.FieldKind.{FieldKind}
use Rattle.json_meanings.specs.declared.fault.FieldKind.TheVariants.{UnknownKey, KeyTwice, TooDeep}

-- what has come of a message: the numbers of the fields that its keys named, the oneofs of which a member has a value,
-- and its slots
pub record PartialMessage : Type 0 where
  pub seen : List ℕ
  pub oneofs : List ℕ
  pub slots : List (ℕ × Slot)

-- a message of which nothing has come
abbrev pub empty_message : PartialMessage
empty_message = record { seen = []; oneofs = []; slots = [] }

-- the message, if nothing more comes
abbrev pub value_of : PartialMessage → Value
value_of m = record { fields = m.slots }

-- the number is one of the list
abbrev pub has_number : ℕ → List ℕ → Bool
has_number n [] = false
has_number n (m ∷ ms) = n == m || has_number n ms

-- what the reading of a value needs of its field
pub record FieldForm : Type 0 where
  pub number : ℕ
  pub kind : Kind
  pub shape : Shape
  pub presence : Presence

-- the form of a field
abbrev pub form_of : Field → FieldForm
form_of f = record { number = f.number; kind = f.kind; shape = f.shape; presence = f.presence }

-- the field that a key names, by its JSON name or by its name
abbrev pub field_named : List ℕ → List Field → Option Field
field_named t [] = None
field_named t (f ∷ fs) = if bytes_eq t f.json || bytes_eq t f.name then Some f else field_named t fs

-- a field that a key names, if no key named it before
abbrev pub unless_seen : PartialMessage → Option Field → Result FieldForm FieldKind
unless_seen m None = Err UnknownKey
unless_seen m (Some f) = if has_number f.number m.seen then Err KeyTwice else Ok (form_of f)

-- the field of a message's next key
abbrev pub key_of : List Field → PartialMessage → List ℕ → Result FieldForm FieldKind
key_of fields m t = unless_seen m (field_named t fields)

-- another member of the oneof of a field with this shape has a value
abbrev pub is_taken : PartialMessage → Shape → Bool
is_taken m (Member k) = has_number k m.oneofs
is_taken m _ = false

-- the oneofs that have a member, with that of a field with this shape
abbrev pub oneofs_with : Shape → List ℕ → List ℕ
oneofs_with (Member k) ks = ks ++ k ∷ []
oneofs_with _ ks = ks

-- a message with one field more, which has a slot or is unset
abbrev pub put_field : PartialMessage → FieldForm → Option Slot → PartialMessage
put_field m f None = record { seen = m.seen ++ f.number ∷ []; oneofs = m.oneofs; slots = m.slots }
put_field m f (Some s) = record {
  seen = m.seen ++ f.number ∷ [];
  oneofs = oneofs_with f.shape m.oneofs;
  slots = with_slot m.slots f.number s;
}

-- the slot of a single value: none where it is the default of a field that does not tell it from absence
abbrev pub stored : Presence → ItemLayer → Option Slot
stored Implicit i = if is_default i then None else Some (roll-Slot (One (roll-Item i)))
stored Explicit i = Some (roll-Slot (One (roll-Item i)))

-- a slot, unless there is nothing in it
abbrev pub unless_empty : {A : Type 0} → List A → Slot → Option Slot
unless_empty [] s = None
unless_empty (x ∷ xs) s = Some s

-- the slot of a list: none where it is empty
abbrev pub listed : List Item → Option Slot
listed is = unless_empty is (roll-Slot (Many is))

-- the slot of a map: none where it is empty
abbrev pub mapped : List (Key × Item) → Option Slot
mapped es = unless_empty es (roll-Slot (Entries (record { entries = es })))

-- an item as the key of a map; keys are of no other kinds
abbrev pub as_key : ItemLayer → Key
as_key (Number z) = NumberKey z
as_key (Truth b) = TruthKey b
as_key (Text t) = TextKey t
as_key _ = TextKey []

-- an entry with a value of this kind may stand where so many levels are left: it takes one, and a message in it one
-- more
abbrev pub has_room : ℕ → Kind → Bool
has_room zero kind = false
has_room (suc zero) (MessageOf id) = false
has_room (suc k) kind = true

-- the key of an entry, if it is one, has room and did not come before
abbrev pub unless_there : ℕ → Kind → List (Key × Item) → Result ItemLayer FieldKind → Result Key FieldKind
unless_there k kind es (Err e) = Err e
unless_there k kind es (Ok i) =
    if has_room k kind then (if is_some (item_at es (as_key i)) then Err KeyTwice else Ok (as_key i)) else Err TooDeep

-- the key of a map's next entry
abbrev pub entry_key : Types → ℕ → Scalar → Kind → List (Key × Item) → List ℕ → Result Key FieldKind
entry_key types k s kind es t = unless_there k kind es (text_as types s t)
