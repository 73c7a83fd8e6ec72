-- The first fault of bytes as a message of a type: of its records, of the payloads of its message fields in every
-- level, replaced later or not, and of its text. The least place counts, which is the first from the left.
use Rattle.std.specs.Prelude.{◌==◌, ◌+◌, ◌-◌, ◌&&◌, ◌||◌, ℕ, zero, suc, true, false, Bool, List, [], ◌∷◌, Option, Some, None, Result, Ok, Err, if◌then◌else◌}
use Rattle.std.specs.Str.{is_utf8}
use Rattle.message_types.specs.Types.{field_in, fields_of}
use Rattle.message_types.specs.declared.fields.Field.{Field}
use Rattle.message_types.specs.declared.fields.Kind.{Kind}
use Rattle.message_types.specs.declared.fields.Kind.TheVariants.{One as OneOf, Message as MessageOf}
use Rattle.message_types.specs.declared.fields.Presence.TheVariants.{Explicit}
use Rattle.message_types.specs.declared.fields.Scalar.{Scalar}
use Rattle.message_types.specs.declared.fields.Scalar.TheVariants.{Text as TextOf}
use Rattle.message_types.specs.declared.fields.Shape.{Shape}
use Rattle.message_types.specs.declared.fields.Shape.TheVariants.{Single, Many, Map as MapOf}
use Rattle.message_types.specs.declared.messages.Types.{Types}
use Rattle.wire_records.specs.RecordFaults.{records_fault}
use Rattle.wire_records.specs.declared.fault.WireFault.{WireFault}
use Rattle.wire_records.specs.declared.fault.WireKind.{WireKind}
use Rattle.wire_records.specs.declared.fault.WireKind.TheVariants.{TooDeep}
use Rattle.wire_records.specs.WireRecord.{Record, Payload, Piece, sized, payload_in}
use Rattle.wire_format.specs.Scalars.{scalar_wire}
use Rattle.schema.specs.Soundness.{is_packable}

-- a fault and the offset where it is
pub data Fault : Type 0 where
  Wire : (place : ℕ) (kind : WireKind) → Fault
  NotUtf8 : (place : ℕ) → Fault

-- what is wrong with a record, as a fault
abbrev pub as_wire : WireFault → Fault
as_wire f = Wire f.place f.kind

-- a part of an entry of a map: a single field that has no name
abbrev pub entry_field : ℕ → Kind → Field
entry_field n kind = record { name = []; json = []; number = n; kind = kind; shape = Single; presence = Explicit; packed = false }

-- an entry of a map is a message with a key and a value
abbrev pub entry_fields : Scalar → Kind → List Field
entry_fields s kind = entry_field 1 (OneOf s) ∷ entry_field 2 kind ∷ []

-- a kind is a message
abbrev pub is_message : Kind → Bool
is_message (MessageOf id) = true
is_message (OneOf s) = false

-- an element's fault, or what goes on behind it
abbrev pub and_element_fault : ℕ → Result Piece WireKind → (ℕ → Option Fault) → Option Fault
and_element_fault place (Err kind) go = Some (Wire place kind)
and_element_fault place (Ok p) go = go (p.to - 1)

-- the first fault of a packed payload behind `skip` bytes
abbrev pub element_fault : Scalar → ℕ → ℕ → List ℕ → Option Fault
element_fault s place skip [] = None
element_fault s place (suc skip) (b ∷ bs) = element_fault s (place + 1) skip bs
element_fault s place zero (b ∷ bs) = and_element_fault place (payload_in (scalar_wire s) (b ∷ bs)) (λ skip. element_fault s (place + 1) skip bs)

-- the fault of a length-delimited payload of a scalar field of this shape
abbrev pub scalar_fault : Shape → Scalar → ℕ → ℕ → List ℕ → Option Fault
scalar_fault shape TextOf place from bs = if is_utf8 bs then None else Some (NotUtf8 place)
scalar_fault Many s place from bs = if is_packable s then element_fault s from 0 bs else None
scalar_fault shape s place from bs = None

-- the fault of a payload of a field, where `inner` gives that of a message and `k` levels are left: with none, no
-- message may stand here; with one, no entry of a map whose values are messages
abbrev pub payload_fault : (List Field → ℕ → List ℕ → Option Fault) → Types → ℕ → Shape → Kind → ℕ → ℕ → Payload → Option Fault
payload_fault inner types k (MapOf s) kind place from (sized bs) = if k == 0 || (k == 1 && is_message kind) then Some (Wire place TooDeep) else inner (entry_fields s kind) from bs
payload_fault inner types k shape (MessageOf id) place from (sized bs) = if k == 0 then Some (Wire place TooDeep) else inner (fields_of types id) from bs
payload_fault inner types k shape (OneOf s) place from (sized bs) = scalar_fault shape s place from bs
payload_fault inner types k shape kind place from p = None

-- the fault of a record of the field that its number has
abbrev pub field_fault : (List Field → ℕ → List ℕ → Option Fault) → Types → ℕ → Option Field → ℕ → Record → Option Fault
field_fault inner types k None place r = None
field_fault inner types k (Some f) place r = payload_fault inner types k f.shape f.kind place (place + r.head) r.payload

-- the first fault of the bytes at a place, as a message with these fields, in k more levels
unfoldable pub first_fault : ℕ → Types → List Field → ℕ → List ℕ → Option Fault
first_fault zero types fields place bytes = None
first_fault (suc k) types fields place bytes = records_fault as_wire (λ at r. field_fault (first_fault k types) types k (field_in fields r.number) at r) k place 0 bytes
