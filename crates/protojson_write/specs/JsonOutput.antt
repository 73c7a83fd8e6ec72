-- The text of a value (the ProtoJSON guide): fields by rising number under their JSON names, entries of maps by rising
-- key, and no white space.
use Rattle.std.specs.Prelude.{◌++◌, ℕ, zero, suc, List, [], ◌∷◌, Option, Some, None, if◌then◌else◌, codes, unwrap_or}
use Rattle.std.specs.List.{flat_map}
use Rattle.json_events.specs.StringOutput.{json_string}
use Rattle.known_types.specs.KnownTexts.{known_text}
use Rattle.message_types.specs.Types.{field_in, fields_of}
use Rattle.message_types.specs.declared.fields.Field.{Field}
use Rattle.message_types.specs.declared.fields.Kind.{Kind}
use Rattle.message_types.specs.declared.fields.Kind.TheVariants.{One as OneOf, Message as MessageOf}
use Rattle.message_types.specs.declared.fields.Presence.{Presence}
use Rattle.message_types.specs.declared.fields.Presence.TheVariants.{Implicit}
use Rattle.message_types.specs.declared.fields.Shape.{Shape}
use Rattle.message_types.specs.declared.fields.Shape.TheVariants.{Many as ManyOf, Map as MapOf}
use Rattle.message_types.specs.declared.messages.Known.{Known}
use Rattle.message_types.specs.declared.messages.Known.TheVariants.{Plain, Wrapper}
use Rattle.message_types.specs.declared.messages.TypeId.{TypeId}
use Rattle.message_types.specs.declared.messages.Types.{Types}
use Rattle.schema.specs.Layers.{ItemLayer, SlotLayer}
use Rattle.schema.specs.Pairs.{entries_of}
use Rattle.schema.specs.Value.{slot_at, slots_of}
use Rattle.schema.specs.declared.key.Key.{Key}
use Rattle.schema.specs.declared.value.Item.TheOpen.{Message, One, Many, Pairs as Entries}
use Rattle.schema.specs.declared.value.Item.{out-Item, Item}
use Rattle.schema.specs.declared.value.Slot.{out-Slot, Slot}
use Rattle.schema.specs.declared.value.Value.{Value}
use Rattle.protojson_write.specs.KnownParts.{KnownTexts, field_parts, have_texts, parts_within}
use Rattle.json_meanings.specs.SpotTables.{known_of}
use Rattle.protojson_write.specs.ScalarOutput.{default_of, key_text, quoted, scalar_text}

-- the texts of those behind the first of a list, each behind a comma
abbrev pub followers : {A : Type 0} → (A → List ℕ) → List A → List ℕ
followers f xs = flat_map (λ x. 44 ∷ f x) xs

-- the texts of a list, with commas between them
abbrev pub separated : {A : Type 0} → (A → List ℕ) → List A → List ℕ
separated f [] = []
separated f (x ∷ xs) = f x ++ followers f xs

-- an array of such elements
abbrev pub array_text : List ℕ → List ℕ
array_text elements = 91 ∷ (elements ++ 93 ∷ [])

-- an object of such members
abbrev pub object_text : List ℕ → List ℕ
object_text members = 123 ∷ (members ++ 125 ∷ [])

-- an item, where `sub` gives the text of a message
abbrev pub item_text : (TypeId → Value → List ℕ) → Types → Kind → ItemLayer → List ℕ
item_text sub types (OneOf s) i = scalar_text types s i
item_text sub types (MessageOf id) (Message v) = sub id v
item_text sub types (MessageOf id) _ = []

-- an entry of a map: its key, and its value
abbrev pub entry_text : (TypeId → Value → List ℕ) → Types → Kind → Key × Item → List ℕ
entry_text sub types kind e = key_text e.0 ++ 58 ∷ item_text sub types kind (out-Item e.1)

-- a slot of a field with this kind
abbrev pub slot_text : (TypeId → Value → List ℕ) → Types → Kind → SlotLayer → List ℕ
slot_text sub types kind (One i) = item_text sub types kind (out-Item i)
slot_text sub types kind (Many is) = array_text (separated (λ i. item_text sub types kind (out-Item i)) is)
slot_text sub types kind (Entries p) = object_text (separated (entry_text sub types kind) (entries_of p))

-- a member of an object: the JSON name of a field, and its slot
abbrev pub member_text : (TypeId → Value → List ℕ) → Types → Option Field → Slot → List ℕ
member_text sub types None s = []
member_text sub types (Some f) s = json_string f.json ++ 58 ∷ slot_text sub types f.kind (out-Slot s)

-- the members of an object
abbrev pub members_text : (TypeId → Value → List ℕ) → Types → List Field → List (ℕ × Slot) → List ℕ
members_text sub types fields es = separated (λ (e : ℕ × Slot). member_text sub types (field_in fields e.0) e.1) es

-- a field that is absent where absence is told from the default: null; else the default of its kind
abbrev pub single_default : Types → Presence → Kind → List ℕ
single_default types Implicit (OneOf s) = scalar_text types s (default_of s)
single_default types _ _ = codes "null"

-- a field that is absent
abbrev pub absent_text : Types → Field → Shape → List ℕ
absent_text types f ManyOf = array_text []
absent_text types f (MapOf s) = object_text []
absent_text types f _ = single_default types f.presence f.kind

-- one field alone, with its slot or without
abbrev pub part_text : (TypeId → Value → List ℕ) → Types → Option Field → Option Slot → List ℕ
part_text sub types None s = []
part_text sub types (Some f) (Some s) = slot_text sub types f.kind (out-Slot s)
part_text sub types (Some f) None = absent_text types f f.shape

-- a message that is this well-known type: a wrapper is written as its value, and a timestamp, a duration or a field
-- mask as its text in quotes
abbrev pub message_text : KnownTexts → (TypeId → Value → List ℕ) → Types → TypeId → Known → Value → List ℕ
message_text texts sub types id Plain v = object_text (members_text sub types (fields_of types id) (slots_of v))
message_text texts sub types id Wrapper v = part_text sub types (field_in (fields_of types id) 1) (slot_at v 1)
message_text texts sub types id known v = quoted (unwrap_or (texts known v) [])

-- a message of so many levels
unfoldable pub text_within : KnownTexts → ℕ → Types → TypeId → Value → List ℕ
text_within texts zero types id v = []
text_within texts (suc k) types id v = message_text texts (text_within texts k types) types id (known_of types id) v

-- one field of a message of so many levels, where the type has it
abbrev pub field_text : KnownTexts → ℕ → Types → Option Field → Option Slot → Option (List ℕ)
field_text texts k types None s = None
field_text texts k types (Some f) None = Some (absent_text types f f.shape)
field_text texts k types (Some f) (Some s) =
    if have_texts texts (field_parts (parts_within k types) (Some f) s)
    then Some (part_text (text_within texts k types) types (Some f) (Some s)) else None

-- the text of a value of the type, whose depth is 100 at most, or of the one field that `part` numbers; none where the
-- type has no such field, or where a timestamp, a duration or a field mask in it has none
unfoldable pub json_text : KnownTexts → Types → TypeId → Option ℕ → Value → Option (List ℕ)
json_text texts types id None v =
    if have_texts texts (parts_within 100 types id v) then Some (text_within texts 100 types id v) else None
json_text texts types id (Some n) v = field_text texts 99 types (field_in (fields_of types id) n) (slot_at v n)

-- the text of a value, or of one field
abbrev pub text_of : Types → TypeId → Option ℕ → Value → Option (List ℕ)
text_of types id part v = json_text known_text types id part v
