-- One item that was written is read again: its payload, its fault, its value.
use Rattle.std.proofs.Common.{◌≡◌, ◌≤◌, ◌==◌, ◌&&◌, ◌||◌, ℕ, ℤ, false, cond, List, [], ◌∷◌, ◌++◌, length, Option, Some, None, Ok, arith, refl, ap, ◌∙◌, length-append, append-nil}
use Rattle.std.specs.Str.{IsUtf8, is_utf8}
use Rattle.std.proofs.lemmas.Str.{is_utf8-from_IsUtf8}
use Rattle.schema.specs.Layers.{ItemLayer}
use Rattle.message_types.specs.Types.{fields_of}
use Rattle.schema.specs.Validity.{IsScalarItem, IsItem, IsStored, valid_within}
use Rattle.schema.specs.declared.key.Key.{Key}
use Rattle.schema.specs.declared.value.Item.TheOpen.{Number, Truth, Text, Bytes, Message}
use Rattle.schema.specs.declared.value.Item.{Item}
use Rattle.schema.specs.declared.value.Value.{Value}
use Rattle.message_types.specs.declared.fields.Field.{Field}
use Rattle.message_types.specs.declared.fields.Kind.{Kind}
use Rattle.message_types.specs.declared.fields.Kind.TheVariants.{One as OneOf, Message as MessageOf}
use Rattle.message_types.specs.declared.fields.Presence.{Presence}
use Rattle.message_types.specs.declared.fields.Presence.TheVariants.{Implicit, Explicit}
use Rattle.message_types.specs.declared.fields.Scalar.{Scalar}
use Rattle.message_types.specs.declared.fields.Scalar.TheVariants.{Sint32, Sint64, Fixed32, Fixed64, Sfixed32, Sfixed64, Bool as BoolOf, Text as TextOf, Bytes as BytesOf}
use Rattle.message_types.specs.declared.fields.Shape.{Shape}
use Rattle.message_types.specs.declared.fields.Shape.TheVariants.{Single, Member, Many as ManyOf, Map as MapOf}
use Rattle.message_types.specs.declared.messages.TypeId.{TypeId}
use Rattle.message_types.specs.declared.messages.Types.{Types}
use Rattle.wire_format.specs.CanonicalBytes.{wire_of, item_bytes, entry_bytes}
use Rattle.wire_records.specs.RecordBytes.{delimited}
use Rattle.wire_format.specs.FieldValues.{meaning_within, singular, stored, one, items_of, scalar_items}
use Rattle.wire_format.specs.PayloadLengths.{HasLength, HasItemLength}
use Rattle.wire_format.specs.Scalars.{scalar_of, scalar_wire}
use Rattle.wire_records.specs.Varint.{varint}
use Rattle.wire_format.specs.WireFaults.{Fault, NotUtf8, is_message, entry_fields, payload_fault, first_fault}
use Rattle.wire_records.specs.WireRecord.{IsPlainWire, Payload, number, eight, sized, group, four, payload_in}
use Rattle.wire_records.specs.WrittenRecords.{piece_of, sized_piece}
use Rattle.wire_format.proofs.round_trip.ScalarLemmas.{number_payload, number_piece, number_back, truth_piece, truth_back}

-- the payload of an item, where `sub` gives the bytes of a message
abbrev pub item_payload : (TypeId → Value → List ℕ) → Kind → ItemLayer → Payload
item_payload sub (OneOf s) (Number z) = number_payload s z
item_payload sub (OneOf s) (Truth t) = number (cond t 1 0)
item_payload sub (OneOf s) (Text t) = sized t
item_payload sub (OneOf s) (Bytes b) = sized b
item_payload sub (MessageOf id) (Message v) = sized (sub id v)
item_payload sub _ _ = group

-- ---- its bytes

scalar_plain : (s : Scalar) → IsPlainWire (scalar_wire s)
scalar_plain Fixed32 = record { low = omega arith; start = refl; end = refl }
scalar_plain Sfixed32 = record { low = omega arith; start = refl; end = refl }
scalar_plain Fixed64 = record { low = omega arith; start = refl; end = refl }
scalar_plain Sfixed64 = record { low = omega arith; start = refl; end = refl }
scalar_plain TextOf = record { low = omega arith; start = refl; end = refl }
scalar_plain BytesOf = record { low = omega arith; start = refl; end = refl }
scalar_plain _ = record { low = omega arith; start = refl; end = refl }

-- LEN is the wire type of no group
pub sized_plain : IsPlainWire 2
sized_plain = record { low = omega arith; start = refl; end = refl }

-- no item is a group
pub kind_plain : (kind : Kind) → IsPlainWire (wire_of kind)
kind_plain (OneOf s) = scalar_plain s
kind_plain (MessageOf id) = sized_plain

module _ (sub : TypeId → Value → List ℕ) where
  scalar_piece : (s : Scalar) (i : ItemLayer) → IsScalarItem s i → HasItemLength sub (OneOf s) i → payload_in (scalar_wire s) (item_bytes sub (OneOf s) i) ≡ Ok (piece_of (item_payload sub (OneOf s) i) (item_bytes sub (OneOf s) i))
  scalar_piece TextOf (Text t) h l = sized_piece t l
  scalar_piece BytesOf (Bytes b) h l = sized_piece b l
  scalar_piece BoolOf (Truth t) h l = truth_piece t
  scalar_piece s (Number z) h l = number_piece s z h
  scalar_piece s i h l = absurd h

  -- a scalar's payload is the scalar
  pub scalar_back : (types : Types) (s : Scalar) (i : ItemLayer) → IsScalarItem s i → scalar_of types s (item_payload sub (OneOf s) i) ≡ Some i
  scalar_back types TextOf (Text t) h = refl
  scalar_back types BytesOf (Bytes b) h = refl
  scalar_back types BoolOf (Truth t) h = truth_back types t
  scalar_back types s (Number z) h = number_back types s z h
  scalar_back types s i h = absurd h

-- ---- payloads that are no bytes

-- a payload stands behind no length
abbrev pub IsPlain : Payload → Type 0
IsPlain (sized bs) = ⊥
IsPlain _ = Unit {0}

number_plain : (s : Scalar) (z : ℤ) → IsPlain (number_payload s z)
number_plain Sint32 z = tt
number_plain Sint64 z = tt
number_plain Fixed32 z = tt
number_plain Sfixed32 z = tt
number_plain Fixed64 z = tt
number_plain Sfixed64 z = tt
number_plain _ z = tt

-- a shape is not that of a map
abbrev pub IsNoMap : Shape → Type 0
IsNoMap (MapOf s) = ⊥
IsNoMap _ = Unit {0}

module _ (inner : List Field → ℕ → List ℕ → Option Fault) (types : Types) (k : ℕ) (place from : ℕ) where
  -- a payload that stands behind no length has no fault
  pub plain_fault : (shape : Shape) (kind : Kind) (p : Payload) → IsPlain p → payload_fault inner types k shape kind place from p ≡ None
  plain_fault (MapOf s) (OneOf t) (sized bs) h = absurd h
  plain_fault (MapOf s) (OneOf t) _ h = refl
  plain_fault (MapOf s) (MessageOf id) (sized bs) h = absurd h
  plain_fault (MapOf s) (MessageOf id) _ h = refl
  plain_fault Single (OneOf t) (sized bs) h = absurd h
  plain_fault Single (OneOf t) _ h = refl
  plain_fault Single (MessageOf id) (sized bs) h = absurd h
  plain_fault Single (MessageOf id) _ h = refl
  plain_fault (Member j) (OneOf t) (sized bs) h = absurd h
  plain_fault (Member j) (OneOf t) _ h = refl
  plain_fault (Member j) (MessageOf id) (sized bs) h = absurd h
  plain_fault (Member j) (MessageOf id) _ h = refl
  plain_fault ManyOf (OneOf t) (sized bs) h = absurd h
  plain_fault ManyOf (OneOf t) _ h = refl
  plain_fault ManyOf (MessageOf id) (sized bs) h = absurd h
  plain_fault ManyOf (MessageOf id) _ h = refl

  text_fault : (t : List ℕ) → IsUtf8 t → cond (is_utf8 t) None (Some (NotUtf8 place)) ≡ None
  text_fault t h = rw (is_utf8-from_IsUtf8 t h) refl

  scalar_good : (sub : TypeId → Value → List ℕ) (shape : Shape) → IsNoMap shape → (s : Scalar) (i : ItemLayer) → IsScalarItem s i → payload_fault inner types k shape (OneOf s) place from (item_payload sub (OneOf s) i) ≡ None
  scalar_good sub (MapOf t) no_map s i h = absurd no_map
  scalar_good sub Single no_map TextOf (Text t) h = text_fault t h
  scalar_good sub (Member j) no_map TextOf (Text t) h = text_fault t h
  scalar_good sub ManyOf no_map TextOf (Text t) h = text_fault t h
  scalar_good sub Single no_map BytesOf (Bytes t) h = refl
  scalar_good sub (Member j) no_map BytesOf (Bytes t) h = refl
  scalar_good sub ManyOf no_map BytesOf (Bytes t) h = refl
  scalar_good sub shape no_map s (Number z) h = plain_fault shape (OneOf s) (number_payload s z) (number_plain s z)
  scalar_good sub shape no_map BoolOf (Truth t) h = plain_fault shape (OneOf BoolOf) (number (cond t 1 0)) tt
  scalar_good sub shape no_map s i h = absurd h

  message_good : (shape : Shape) → IsNoMap shape → (id : TypeId) (bytes : List ℕ) → (k == 0) ≡ false → inner (fields_of types id) from bytes ≡ None → payload_fault inner types k shape (MessageOf id) place from (sized bytes) ≡ None
  message_good (MapOf t) no_map id bytes some h = absurd no_map
  message_good Single no_map id bytes some h = rw some h
  message_good (Member j) no_map id bytes some h = rw some h
  message_good ManyOf no_map id bytes some h = rw some h

-- ---- one level further in

-- these bytes have no fault as a message of the type, and are this value
pub record IsMessageBack (k : ℕ) (types : Types) (id : TypeId) (bytes : List ℕ) (v : Value) : Type 0 where
  pub some : (k == 0) ≡ false
  pub value : (meaning_within k types).message (fields_of types id) bytes ≡ v
  pub good : (place : ℕ) → first_fault k types (fields_of types id) place bytes ≡ None

-- these bytes have no fault as an entry of a map, and are this one
pub record IsEntryBack (k : ℕ) (types : Types) (s : Scalar) (kind : Kind) (bytes : List ℕ) (e : Key × Item) : Type 0 where
  pub room : (k == 0 || (k == 1 && is_message kind)) ≡ false
  pub value : (meaning_within k types).entry s kind bytes ≡ Some e
  pub good : (place : ℕ) → first_fault k types (entry_fields s kind) place bytes ≡ None

-- what is valid in so many levels is read as it was written by `sub`
pub record ReadsBack (k : ℕ) (types : Types) (sub : TypeId → Value → List ℕ) : Type 0 where
  pub message : (id : TypeId) (v : Value) → (valid_within k types).message id v → HasLength (sub id v) → IsMessageBack k types id (sub id v) v
  pub entry : (s : Scalar) (kind : Kind) (e : Key × Item) → (valid_within k types).entry s kind e → HasLength (entry_bytes sub s kind e) → IsEntryBack k types s kind (entry_bytes sub s kind e) e

module _ (k : ℕ) (types : Types) (sub : TypeId → Value → List ℕ) (deeper : ReadsBack k types sub) where
  -- what is written of an item is read as its payload
  pub item_piece : (kind : Kind) (i : ItemLayer) → IsItem (valid_within k types) kind i → HasItemLength sub kind i → payload_in (wire_of kind) (item_bytes sub kind i) ≡ Ok (piece_of (item_payload sub kind i) (item_bytes sub kind i))
  item_piece (OneOf s) i h l = scalar_piece sub s i h l
  item_piece (MessageOf id) (Message v) h l = sized_piece (sub id v) l
  item_piece (MessageOf id) _ h l = absurd h

  -- it has no fault, in a field that is no map
  pub item_good : (shape : Shape) → IsNoMap shape → (kind : Kind) (i : ItemLayer) → IsItem (valid_within k types) kind i → HasItemLength sub kind i
      → (place from : ℕ) → payload_fault (first_fault k types) types k shape kind place from (item_payload sub kind i) ≡ None
  item_good shape no_map (OneOf s) i h l place from = scalar_good (first_fault k types) types k place from sub shape no_map s i h
  item_good shape no_map (MessageOf id) (Message v) h l place from = let b = deeper.message id v h l in message_good (first_fault k types) types k place from shape no_map id (sub id v) b.some (b.good from)
  item_good shape no_map (MessageOf id) _ h l place from = absurd h

  scalar_singular : (s : Scalar) (p : Payload) (i : ItemLayer) → scalar_of types s p ≡ Some i → singular (meaning_within k types) types (OneOf s) (p ∷ []) ≡ Some i
  scalar_singular s p i h = rw h refl

  -- it is the item
  pub item_single : (kind : Kind) (i : ItemLayer) → IsItem (valid_within k types) kind i → HasItemLength sub kind i → singular (meaning_within k types) types kind (item_payload sub kind i ∷ []) ≡ Some i
  item_single (OneOf s) i h l = scalar_singular s (item_payload sub (OneOf s) i) i (scalar_back sub types s i h)
  item_single (MessageOf id) (Message v) h l =
      let b = deeper.message id v h l in
      ap (λ (x : Value). Some (Message x)) (ap ((meaning_within k types).message (fields_of types id)) (append-nil (sub id v)) ∙ b.value)
  item_single (MessageOf id) _ h l = absurd h

  plain_items : (s : Scalar) (p : Payload) (i : ItemLayer) → IsPlain p → scalar_of types s p ≡ Some i → scalar_items types s p ≡ i ∷ []
  plain_items s (sized bs) i h e = absurd h
  plain_items s (number n) i h e = rw e refl
  plain_items s (eight n) i h e = rw e refl
  plain_items s (four n) i h e = rw e refl
  plain_items s group i h e = rw e refl

  scalar_list : (s : Scalar) (i : ItemLayer) → IsScalarItem s i → scalar_items types s (item_payload sub (OneOf s) i) ≡ i ∷ []
  scalar_list TextOf (Text t) h = refl
  scalar_list BytesOf (Bytes b) h = refl
  scalar_list BoolOf (Truth t) h = plain_items BoolOf (number (cond t 1 0)) (Truth t) tt (truth_back types t)
  scalar_list s (Number z) h = plain_items s (number_payload s z) (Number z) (number_plain s z) (number_back types s z h)
  scalar_list s i h = absurd h

  -- or the one item of a list that is not packed
  pub item_list : (kind : Kind) (i : ItemLayer) → IsItem (valid_within k types) kind i → HasItemLength sub kind i → items_of (meaning_within k types) types kind (item_payload sub kind i) ≡ i ∷ []
  item_list (OneOf s) i h l = scalar_list s i h
  item_list (MessageOf id) (Message v) h l = ap (λ (x : Value). Message x ∷ []) (deeper.message id v h l).value
  item_list (MessageOf id) _ h l = absurd h

-- an item that may be stored is
pub stored_back : (presence : Presence) (i : ItemLayer) → IsStored presence i → stored presence i ≡ Some (one i)
stored_back Explicit i h = refl
stored_back Implicit i h = rw h refl

-- ---- lengths

delimited_long : (bs : List ℕ) → length bs ≤ length (delimited bs)
delimited_long bs = omega (arith, length-append (varint (length bs)) bs)

-- what stands in an item of a length that has 64 bits has one
pub item_length : (sub : TypeId → Value → List ℕ) (kind : Kind) (i : ItemLayer) → HasLength (item_bytes sub kind i) → HasItemLength sub kind i
item_length sub (OneOf s) (Text t) h = omega (arith, delimited_long t)
item_length sub (OneOf s) (Bytes b) h = omega (arith, delimited_long b)
item_length sub (MessageOf id) (Message v) h = omega (arith, delimited_long (sub id v))
item_length sub (OneOf s) (Number z) h = tt
item_length sub (OneOf s) (Truth t) h = tt
item_length sub (OneOf s) (Message v) h = tt
item_length sub (MessageOf id) (Number z) h = tt
item_length sub (MessageOf id) (Truth t) h = tt
item_length sub (MessageOf id) (Text t) h = tt
item_length sub (MessageOf id) (Bytes b) h = tt

-- a part is not longer than the whole
pub behind_length : (a b : List ℕ) → HasLength (a ++ b) → HasLength b
behind_length a b h = omega (arith, length-append a b)

-- what stands before others is no longer than both
pub before_length : (a b : List ℕ) → HasLength (a ++ b) → HasLength a
before_length a b h = omega (arith, length-append a b)
