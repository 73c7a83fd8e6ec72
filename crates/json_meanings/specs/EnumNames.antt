-- The names of an enum's values (descriptor.proto, EnumDescriptorProto).
use Rattle.std.specs.Prelude.{ℕ, ℤ, List, [], ◌∷◌, Option, Some, None, if◌then◌else◌, slice_get, option_map, unwrap_or}
use Rattle.std.specs.Str.{bytes_eq}
use Rattle.message_types.specs.declared.enums.EnumId.{EnumId}
use Rattle.message_types.specs.declared.enums.EnumType.{EnumType}
use Rattle.message_types.specs.declared.enums.EnumValue.{EnumValue}
use Rattle.message_types.specs.declared.messages.Types.{Types}

-- the values of an enum, in declared order; none where there is no such enum
abbrev pub values_of : Types → EnumId → List EnumValue
values_of types id = unwrap_or (option_map (λ (e : EnumType). e.values) (slice_get types.enums id.0)) []

-- the number of the first value that has the name
abbrev pub number_named : List EnumValue → List ℕ → Option ℤ
number_named [] name = None
number_named (v ∷ vs) name = if bytes_eq v.name name then Some v.number else number_named vs name
