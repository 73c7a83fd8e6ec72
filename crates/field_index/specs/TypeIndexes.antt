-- The lists of fields and of values that are indexed of types.
use Rattle.std.specs.Prelude.{◌≡◌, List, [], map}
use Rattle.message_types.specs.declared.enums.EnumType.{EnumType}
use Rattle.message_types.specs.declared.enums.EnumValue.{EnumValue}
use Rattle.message_types.specs.declared.fields.Field.{Field}
use Rattle.message_types.specs.declared.messages.MessageType.{MessageType}
use Rattle.message_types.specs.declared.messages.Types.{Types}

-- the fields of each message type and the values of each enum, and none of either
pub record AreIndexes (types : Types) (messages : List (List Field)) (enums : List (List EnumValue))
    (no_fields : List Field) (no_values : List EnumValue) : Type 0 where
  pub by_type : messages ≡ map (λ (m : MessageType). m.fields) types.messages
  pub by_enum : enums ≡ map (λ (e : EnumType). e.values) types.enums
  pub no_field : no_fields ≡ []
  pub no_value : no_values ≡ []
