-- A whole small API that is linked, and others that are not.
use Rattle.std.specs.Prelude.{ℕ, pos, false, List, [], ◌∷◌, codes, map, Some, None}
use Rattle.http_rules.specs.declared.template.Binding.{Binding}
use Rattle.http_rules.specs.declared.template.Body.TheVariants.{Nothing, Part}
use Rattle.http_rules.specs.declared.template.Segment.TheVariants.{Literal, One}
use Rattle.http_rules.specs.declared.template.Template.{Template}
use Rattle.linked_api.specs.LinkedApi.{IsLinked}
use Rattle.linked_api.specs.LinkedExamples.{field_of_kind, type_at}
use Rattle.linked_api.specs.declared.api.Api.{Api}
use Rattle.linked_api.specs.declared.api.MethodInfo.{MethodInfo}
use Rattle.message_types.specs.declared.enums.EnumType.{EnumType}
use Rattle.message_types.specs.declared.fields.Kind.TheVariants.{One as OneOf}
use Rattle.message_types.specs.declared.fields.Presence.TheVariants.{Implicit}
use Rattle.message_types.specs.declared.fields.Scalar.TheVariants.{Text}
use Rattle.message_types.specs.declared.fields.Shape.TheVariants.{Single}
use Rattle.message_types.specs.declared.messages.Known.TheVariants.{Plain}
use Rattle.message_types.specs.declared.messages.MessageType.{MessageType}
use Rattle.message_types.specs.declared.messages.Types.{Types}

-- a message with a name
abbrev pub item : MessageType
item = record {
  name = codes "shop.Item";
  known = Plain;
  fields = field_of_kind (codes "name") 1 (OneOf Text) Single Implicit ∷ [];
}

-- items alone
abbrev pub shop : Types
shop = record { messages = item ∷ []; enums = [] }

-- a method that takes and answers an item
abbrev pub get_item : MethodInfo
get_item = record {
  path = codes "/shop.Shop/GetItem";
  input = type_at 0;
  output = type_at 0;
  client_streams = false;
  server_streams = false;
}

-- `/items/{name}`
abbrev pub item_template : Template
item_template = record {
  segments = Literal (codes "items") ∷ One ∷ [];
  variables = record { path = codes "name" ∷ []; from = 1; to = 2 } ∷ [];
  verb = None;
}

-- GET of it
abbrev pub item_binding : Binding
item_binding = record {
  method = codes "GET";
  template = item_template;
  paths = (1 ∷ []) ∷ [];
  body = Nothing;
  response = None;
  call = 0;
}

-- an API of these bindings
abbrev pub shop_with : List Binding → Api
shop_with bindings = record { types = shop; methods = get_item ∷ []; bindings = bindings }

-- `/{name}/{name}`, with one path for both variables
abbrev pub overlapping_binding : Binding
overlapping_binding = record item_binding {
  template = record {
    segments = One ∷ One ∷ [];
    variables =
        record { path = codes "name" ∷ []; from = 0; to = 1 }
        ∷ record { path = codes "name" ∷ []; from = 1; to = 2 } ∷ [];
    verb = None;
  };
  paths = (1 ∷ []) ∷ (1 ∷ []) ∷ [];
}

-- the binding with an HTTP method of one byte
abbrev pub binding_of_byte : ℕ → Binding
binding_of_byte b = record item_binding { method = b ∷ [] }

-- 65 bindings, each of another HTTP method
abbrev pub many_methods : List Binding
many_methods = map binding_of_byte (codes "ABCDEFGHIJKLMNOPQRSTUVWXYZabcdefghijklmnopqrstuvwxyz0123456789!#$")

-- an enum with the name of the message
abbrev pub item_enum : EnumType
item_enum = record { name = codes "shop.Item"; values = record { name = codes "NONE"; number = pos 0 } ∷ [] }

-- which of them are linked
pub record LinkedExamplesHold : Type 0 where
  pub one : IsLinked (shop_with (item_binding ∷ []))
  pub none : IsLinked (shop_with [])
  -- a method that no binding has
  pub head : IsLinked (shop_with (record item_binding { method = codes "HEAD" } ∷ [])) → ⊥
  -- a call of a method that is not there
  pub call : IsLinked (shop_with (record item_binding { call = 1 } ∷ [])) → ⊥
  -- a number of no field, no path for a variable, and one too many
  pub number : IsLinked (shop_with (record item_binding { paths = (2 ∷ []) ∷ [] } ∷ [])) → ⊥
  pub fewer : IsLinked (shop_with (record item_binding { paths = [] } ∷ [])) → ⊥
  pub more : IsLinked (shop_with (record item_binding { paths = (1 ∷ []) ∷ (1 ∷ []) ∷ [] } ∷ [])) → ⊥
  -- a response that is no field
  pub response : IsLinked (shop_with (record item_binding { response = Some 2 } ∷ [])) → ⊥
  -- one route twice
  pub twice : IsLinked (shop_with (item_binding ∷ item_binding ∷ [])) → ⊥
  -- one name twice
  pub names : IsLinked (record (shop_with []) { types = record { messages = item ∷ item ∷ []; enums = [] } }) → ⊥
  -- two paths of which one begins the other
  pub overlapping : IsLinked (shop_with (overlapping_binding ∷ [])) → ⊥
  -- a body that is no field
  pub body : IsLinked (shop_with (record item_binding { body = Part 2 } ∷ [])) → ⊥
  -- more than 64 HTTP methods
  pub many : IsLinked (shop_with many_methods) → ⊥
  -- an input of a type that is not there
  pub input : IsLinked (record (shop_with []) { methods = record get_item { input = type_at 1 } ∷ [] }) → ⊥
  -- an enum and a message of one name
  pub enum_name : IsLinked (record (shop_with []) { types = record { messages = item ∷ []; enums = item_enum ∷ [] } })
      → ⊥
