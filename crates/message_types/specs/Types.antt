-- Looking up what is declared: message types, their fields, and enum types.
use Rattle.std.specs.Prelude.{◌==◌, ℕ, List, [], ◌∷◌, Option, Some, None, if◌then◌else◌, slice_get, option_map, unwrap_or}
use Rattle.message_types.specs.declared.fields.Field.{Field}
use Rattle.message_types.specs.declared.messages.TypeId.{TypeId}
use Rattle.message_types.specs.declared.messages.Types.{Types}

-- the first field with a number
abbrev pub field_in : List Field → ℕ → Option Field
field_in [] n = None
field_in (f ∷ fs) n = if f.number == n then Some f else field_in fs n

-- the fields of a message type; none where there is no such type
abbrev pub fields_of : Types → TypeId → List Field
fields_of types id = unwrap_or (option_map (λ m. m.fields) (slice_get types.messages id.0)) []

-- the field with a number of a message type
abbrev pub field_of : Types → TypeId → ℕ → Option Field
field_of types id n = field_in (fields_of types id) n
