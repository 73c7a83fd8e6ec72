-- Bytes that have no fault as a message with these fields, told by their records: these are whole, text in them is
-- UTF-8, and what is nested is the same, one level further in.
use Rattle.std.specs.Prelude.{◌≡◌, ℕ, zero, suc, true, List, Option, Some, None}
use Rattle.std.specs.List.{AllByRecursion}
use Rattle.std.specs.Str.{is_utf8}
use Rattle.message_types.specs.Types.{field_in, fields_of}
use Rattle.message_types.specs.declared.fields.Field.{Field}
use Rattle.message_types.specs.declared.fields.Kind.{Kind}
use Rattle.message_types.specs.declared.fields.Kind.TheVariants.{One as OneOf, Message as MessageOf}
use Rattle.message_types.specs.declared.fields.Scalar.{Scalar}
use Rattle.message_types.specs.declared.fields.Scalar.TheVariants.{Text as TextOf}
use Rattle.message_types.specs.declared.fields.Shape.{Shape}
use Rattle.message_types.specs.declared.fields.Shape.TheVariants.{Map as MapOf}
use Rattle.message_types.specs.declared.messages.Types.{Types}
use Rattle.wire_format.specs.WireFaults.{entry_fields}
use Rattle.wire_records.specs.WholeRecords.{AreWhole}
use Rattle.wire_records.specs.WireRecord.{Record, Payload, sized, records}

-- a payload is text that is UTF-8, where it is that of a string
abbrev pub IsGoodText : Scalar → Payload → Type 0
IsGoodText TextOf (sized bs) = is_utf8 bs ≡ true
IsGoodText s p = Unit {0}

-- a payload of one item of this kind has no fault, where `inner` says so of a message
abbrev pub IsGoodItem : (List Field → List ℕ → Type 0) → Types → Kind → Payload → Type 0
IsGoodItem inner types (MessageOf id) (sized bs) = inner (fields_of types id) bs
IsGoodItem inner types (MessageOf id) p = Unit {0}
IsGoodItem inner types (OneOf s) p = IsGoodText s p

-- a payload of an entry of a map has none
abbrev pub IsGoodEntry : (List Field → List ℕ → Type 0) → Scalar → Kind → Payload → Type 0
IsGoodEntry inner s kind (sized bs) = inner (entry_fields s kind) bs
IsGoodEntry inner s kind p = Unit {0}

-- a payload of a field of this shape has none
abbrev pub IsGoodPayload : (List Field → List ℕ → Type 0) → Types → Shape → Kind → Payload → Type 0
IsGoodPayload inner types (MapOf s) kind p = IsGoodEntry inner s kind p
IsGoodPayload inner types shape kind p = IsGoodItem inner types kind p

-- a record of the field that its number has
abbrev pub IsGoodRecord : (List Field → List ℕ → Type 0) → Types → Option Field → Record → Type 0
IsGoodRecord inner types None r = Unit {0}
IsGoodRecord inner types (Some f) r = IsGoodPayload inner types f.shape f.kind r.payload

-- the records of a message with these fields
abbrev pub AreGoodRecords : (List Field → List ℕ → Type 0) → Types → List Field → List Record → Type 0
AreGoodRecords inner types fields rs = AllByRecursion (λ r. IsGoodRecord inner types (field_in fields r.number) r) rs

-- bytes have no fault as a message with these fields, in so many levels
unfoldable pub AreGood : ℕ → Types → List Field → List ℕ → Type 0
AreGood zero types fields bytes = ⊥
AreGood (suc k) types fields bytes = AreWhole k 0 bytes × AreGoodRecords (AreGood k types) types fields (records k 0 bytes)
