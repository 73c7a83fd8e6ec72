-- What one token does where a value or a key is wanted (the ProtoJSON guide), by the kind and the shape of the field.
-- At one token of a value the order of faults is NullInside, OneofTwice, WrongShape, TooDeep, and then the value's own;
-- at a key it is UnknownKey, the key's own, TooDeep, KeyTwice.
use Rattle.std.specs.Prelude.{ℕ, zero, suc, List, [], Option, Some, None, Result, Ok, Err, if◌then◌else◌, slice_get}
use Rattle.message_types.specs.Types.{field_in, fields_of}
use Rattle.message_types.specs.declared.fields.Field.{Field}
use Rattle.message_types.specs.declared.fields.Kind.{Kind}
use Rattle.message_types.specs.declared.fields.Kind.TheVariants.{One as OneOf, Message as MessageOf}
use Rattle.message_types.specs.declared.fields.Scalar.{Scalar}
use Rattle.message_types.specs.declared.fields.Scalar.TheVariants.{Bool as BoolOf}
use Rattle.message_types.specs.declared.fields.Shape.{Shape}
use Rattle.message_types.specs.declared.fields.Shape.TheVariants.{Many as ManyOf, Map as MapOf}
use Rattle.message_types.specs.declared.messages.Known.{Known}
use Rattle.message_types.specs.declared.messages.Known.TheVariants.{Plain, Wrapper}
use Rattle.message_types.specs.declared.messages.MessageType.{MessageType}
use Rattle.message_types.specs.declared.messages.TypeId.{TypeId}
use Rattle.message_types.specs.declared.messages.Types.{Types}
use Rattle.schema.specs.Layers.{ItemLayer}
use Rattle.schema.specs.declared.key.Key.{Key}
use Rattle.schema.specs.declared.value.Item.TheOpen.{Message}
use Rattle.schema.specs.declared.value.Item.{Item}
use Rattle.schema.specs.declared.value.Value.{Value}
use Rattle.json_events.specs.JsonTree.{Mark, name, text}
use Rattle.json_events.specs.declared.state.Name.TheVariants as names
use Rattle.json_meanings.specs.JsonScalars.{Schema, scalar_as}
use Rattle.json_meanings.specs.PartialMessages.{FieldForm, PartialMessage, empty_message, entry_key, form_of, is_taken, key_of, put_field, stored, value_of}
use Rattle.json_meanings.specs.ReadingSpots.{Filled, OpenArray, OpenObject, Spot, element, entry, member, of_map, of_message, part, single, unset, whole}
use Rattle.json_meanings.specs.declared.fault.FieldKind.{FieldKind}
use Rattle.json_meanings.specs.declared.fault.FieldKind.TheVariants.{NullInside, OneofTwice, TooDeep, WrongShape}

-- how many levels are left one level further in
abbrev pub below : ℕ → ℕ
below zero = zero
below (suc k) = k

-- a message where so many levels are left: its own token is of a wrong kind, or it is too deep, or it is read
abbrev pub in_levels : {A : Type 0} → ℕ → Result A FieldKind → Result A FieldKind
in_levels (suc k) r = r
in_levels zero (Err WrongShape) = Err WrongShape
in_levels zero r = Err TooDeep

-- a well-known type that is written as a text
abbrev pub known_as : Schema → Known → Mark → Result Value FieldKind
known_as c known (text t) = c.known known t
known_as c known _ = Err WrongShape

-- the message of a wrapper's value
abbrev pub wrapped : Option Field → Result ItemLayer FieldKind → Result Value FieldKind
wrapped f (Err k) = Err k
wrapped None (Ok i) = Err WrongShape
wrapped (Some f) (Ok i) = Ok (value_of (put_field empty_message (form_of f) (stored f.presence i)))

-- a kind that is a scalar's; no wrapper has another
abbrev pub scalar_in : Kind → Scalar
scalar_in (OneOf s) = s
scalar_in (MessageOf id) = BoolOf

-- the kind of a wrapper's value
abbrev pub wrapped_scalar : Option Field → Scalar
wrapped_scalar None = BoolOf
wrapped_scalar (Some f) = scalar_in f.kind

-- a wrapper, which is written as its value
abbrev pub wrapper_as : Schema → Option Field → Mark → Result Value FieldKind
wrapper_as c f m = wrapped f (scalar_as c.types (wrapped_scalar f) m)

-- which well-known type a message type is; a type that is not there is plain
abbrev pub known_in : Option MessageType → Known
known_in None = Plain
known_in (Some m) = m.known

-- which well-known type a message type is, by its id
abbrev pub known_of : Types → TypeId → Known
known_of types id = known_in (slice_get types.messages id.0)

-- a message as an item
abbrev pub as_message : Result Value FieldKind → Result ItemLayer FieldKind
as_message (Ok v) = Ok (Message v)
as_message (Err k) = Err k

-- a token without brackets as a message, where so many levels are left
abbrev pub message_as : Schema → ℕ → Known → List Field → Mark → Result ItemLayer FieldKind
message_as c k Plain fields m = Err WrongShape
message_as c k Wrapper fields m = as_message (in_levels k (wrapper_as c (field_in fields 1) m))
message_as c k known fields m = as_message (in_levels k (known_as c known m))

-- a token without brackets as a value of a kind, where so many levels are left
abbrev pub kind_as : Schema → ℕ → Kind → Mark → Result ItemLayer FieldKind
kind_as c k (OneOf s) m = scalar_as c.types s m
kind_as c k (MessageOf id) m = message_as c k (known_of c.types id) (fields_of c.types id) m

-- one item fills a spot
abbrev pub as_single : Result ItemLayer FieldKind → Result Filled FieldKind
as_single (Ok i) = Ok (single i)
as_single (Err k) = Err k

-- a field's value, if no other member of its oneof has one
abbrev pub unless_taken : {A : Type 0} → PartialMessage → FieldForm → Result A FieldKind → Result A FieldKind
unless_taken p f r = if is_taken p f.shape then Err OneofTwice else r

-- a token without brackets as a field's value, by its shape
abbrev pub shape_as : Schema → ℕ → FieldForm → Shape → Mark → Result Filled FieldKind
shape_as c k f ManyOf m = Err WrongShape
shape_as c k f (MapOf s) m = Err WrongShape
shape_as c k f shape m = as_single (kind_as c k f.kind m)

-- a token without brackets as a field's value: null leaves it unset
abbrev pub field_as : Schema → ℕ → PartialMessage → FieldForm → Mark → Result Filled FieldKind
field_as c k p f (name names.Null) = Ok unset
field_as c k p f m = unless_taken p f (shape_as c k f f.shape m)

-- a token without brackets as an item of an array or as the value of an entry: null is none
abbrev pub inner_as : Schema → ℕ → Kind → Mark → Result Filled FieldKind
inner_as c k kind (name names.Null) = Err NullInside
inner_as c k kind m = as_single (kind_as c k kind m)

-- what a token without brackets comes to at a spot
abbrev pub fills : Schema → Spot → Mark → Result Filled FieldKind
fills c (whole k id) m = as_single (kind_as c k (MessageOf id) m)
fills c (part k f) m = field_as c k empty_message f m
fills c (member k id p f) m = field_as c k p f m
fills c (entry k s kind es key) m = inner_as c (below k) kind m
fills c (element a) m = inner_as c a.levels a.kind m

-- the array of a field, by its shape
abbrev pub array_by : ℕ → FieldForm → Shape → Result OpenArray FieldKind
array_by k f ManyOf = Ok (record { levels = k; kind = f.kind; items = [] })
array_by k f _ = Err WrongShape

-- the array that a bracket opens at a spot
abbrev pub opens_array : Spot → Result OpenArray FieldKind
opens_array (part k f) = array_by k f f.shape
opens_array (member k id p f) = unless_taken p f (array_by k f f.shape)
opens_array _ = Err WrongShape

-- the message that a bracket opens, where so many levels are left
abbrev pub message_by : ℕ → Known → TypeId → Result OpenObject FieldKind
message_by (suc k) Plain id = Ok (of_message k id empty_message)
message_by zero Plain id = Err TooDeep
message_by k _ id = Err WrongShape

-- the object that a bracket opens as a value of a kind
abbrev pub object_by : Schema → ℕ → Kind → Result OpenObject FieldKind
object_by c k (OneOf s) = Err WrongShape
object_by c k (MessageOf id) = message_by k (known_of c.types id) id

-- the object that a bracket opens as a field's value, by its shape
abbrev pub object_in : Schema → ℕ → FieldForm → Shape → Result OpenObject FieldKind
object_in c k f ManyOf = Err WrongShape
object_in c k f (MapOf s) = Ok (of_map k s f.kind [])
object_in c k f _ = object_by c k f.kind

-- the object that a bracket opens at a spot
abbrev pub opens_object : Schema → Spot → Result OpenObject FieldKind
opens_object c (whole k id) = object_by c k (MessageOf id)
opens_object c (part k f) = object_in c k f f.shape
opens_object c (member k id p f) = unless_taken p f (object_in c k f f.shape)
opens_object c (entry k s kind es key) = object_by c (below k) kind
opens_object c (element a) = object_by c a.levels a.kind

-- the spot behind a key of a message
abbrev pub member_at : ℕ → TypeId → PartialMessage → Result FieldForm FieldKind → Result Spot FieldKind
member_at k id p (Ok f) = Ok (member k id p f)
member_at k id p (Err e) = Err e

-- the spot behind a key of a map
abbrev pub entry_at : ℕ → Scalar → Kind → List (Key × Item) → Result Key FieldKind → Result Spot FieldKind
entry_at k s kind es (Ok key) = Ok (entry k s kind es key)
entry_at k s kind es (Err e) = Err e

-- the spot behind a key of an object
abbrev pub names_spot : Schema → OpenObject → List ℕ → Result Spot FieldKind
names_spot c (of_message k id p) t = member_at k id p (key_of (fields_of c.types id) p t)
names_spot c (of_map k s kind es) t = entry_at k s kind es (entry_key c.types k s kind es t)
