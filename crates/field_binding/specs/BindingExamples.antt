-- Worked examples of paths that are bound.
use Rattle.std.specs.Prelude.{◌++◌, ℕ, pos, List, [], ◌∷◌, codes, replicate, None, Result, Ok, Err}
use Rattle.field_binding.specs.Assignments.{Assignments, assignments}
use Rattle.field_binding.specs.PathSettings.{FailsAt, IsPathBinding}
use Rattle.field_binding.specs.declared.fault.BindFault.{BindFault}
use Rattle.field_binding.specs.declared.fault.BindFault.TheVariants.{Path}
use Rattle.field_binding.specs.declared.fault.ValueKind.TheVariants.{OutOfRange, TooDeep}
use Rattle.http_rules.specs.declared.template.Binding.{Binding}
use Rattle.http_rules.specs.declared.template.Segment.{Segment}
use Rattle.http_rules.specs.declared.template.Segment.TheVariants.{Literal, One as OneSegment, Rest}
use Rattle.linked_api.specs.LinkedExamples.{field_of_kind, type_at}
use Rattle.linked_api.specs.SmallApi.{get_item, item, item_binding}
use Rattle.linked_api.specs.declared.api.Api.{Api}
use Rattle.message_types.specs.declared.enums.EnumType.{EnumType}
use Rattle.message_types.specs.declared.fields.Kind.TheVariants.{One as OneOf, Message as MessageOf}
use Rattle.message_types.specs.declared.fields.Presence.TheVariants.{Implicit, Explicit}
use Rattle.message_types.specs.declared.fields.Scalar.TheVariants.{Int32, Text as TextOf, Enumeration}
use Rattle.message_types.specs.declared.fields.Shape.TheVariants.{Single}
use Rattle.message_types.specs.declared.messages.Known.TheVariants.{Plain}
use Rattle.message_types.specs.declared.messages.MessageType.{MessageType}
use Rattle.message_types.specs.declared.messages.Types.{Types}
use Rattle.path_router.specs.declared.captures.Span.{Span}
use Rattle.schema.specs.declared.value.Item.{Item, Number, Text}
use Rattle.schema.specs.declared.value.Slot.{One}

-- the sizes of an order
abbrev pub sizes : EnumType
sizes = record {
  name = codes "shop.Size";
  values = record { name = codes "SMALL"; number = pos 0 } ∷ record { name = codes "LARGE"; number = pos 5 } ∷ [];
}

-- an order: its name, how many of which size, the item, and the order that follows it
abbrev pub order : MessageType
order = record {
  name = codes "shop.Order";
  known = Plain;
  fields =
      field_of_kind (codes "name") 1 (OneOf TextOf) Single Implicit
      ∷ field_of_kind (codes "count") 2 (OneOf Int32) Single Implicit
      ∷ field_of_kind (codes "size") 3 (OneOf (Enumeration (record { 0 = 0 }))) Single Implicit
      ∷ field_of_kind (codes "item") 4 (MessageOf (type_at 1)) Single Explicit
      ∷ field_of_kind (codes "next") 5 (MessageOf (type_at 0)) Single Explicit ∷ [];
}

-- orders and items
abbrev pub order_types : Types
order_types = record { messages = order ∷ item ∷ []; enums = sizes ∷ [] }

-- an API of one binding of a method that takes an order
abbrev pub orders_with : Binding → Api
orders_with binding = record { types = order_types; methods = get_item ∷ []; bindings = binding ∷ [] }

-- `/orders/{name}`, where the segment is `*` or `**`, and the name a path of these numbers
abbrev pub order_binding : Segment → List ℕ → Binding
order_binding segment numbers = record item_binding {
  template = record {
    segments = Literal (codes "orders") ∷ segment ∷ [];
    variables = record { path = codes "name" ∷ []; from = 1; to = 2 } ∷ [];
    verb = None;
  };
  paths = numbers ∷ [];
}

-- `/x/{count}/{size}`
abbrev pub two_binding : Binding
two_binding = record item_binding {
  template = record {
    segments = Literal (codes "x") ∷ OneSegment ∷ OneSegment ∷ [];
    variables =
        record { path = codes "count" ∷ []; from = 1; to = 2 }
        ∷ record { path = codes "size" ∷ []; from = 2; to = 3 } ∷ [];
    verb = None;
  };
  paths = (2 ∷ []) ∷ (3 ∷ []) ∷ [];
}

-- a span
abbrev pub span : ℕ → ℕ → Span
span from to = record { from = from; to = to }

-- the path sets the field at the end of these numbers, and no other
abbrev pub sets : List ℕ → Item → Result Assignments BindFault
sets numbers i = Ok (assignments [] (record { path = numbers; slot = One i } ∷ []))

-- a path under `/orders/`, of which the variable takes all behind that, is bound so
abbrev pub Orders : Segment → List ℕ → ℕ → List ℕ → Result Assignments BindFault → Type 0
Orders segment numbers end text r =
    IsPathBinding (orders_with (order_binding segment numbers)) 0 (codes "/orders/" ++ text) (span 8 end ∷ []) r

-- `/x/2147483648/2147483648`, of which both variables are past their ranges, is bound so
abbrev pub Two : Result Assignments BindFault → Type 0
Two r =
    IsPathBinding (orders_with two_binding) 0 (codes "/x/2147483648/2147483648")
    (span 3 13 ∷ span 14 24 ∷ []) r

-- the numbers of a path that leads through so many orders to a count
abbrev pub through : ℕ → List ℕ
through n = replicate n 5 ++ 2 ∷ []

-- how paths are bound
pub record PathBindingExamplesHold : Type 0 where
  -- a name; a variable of two levels; a number; an enum by name and by number
  pub name : Orders OneSegment (1 ∷ []) 11 (codes "pen") (sets (1 ∷ []) (Text (codes "pen")))
  pub inner : Orders OneSegment (4 ∷ 1 ∷ []) 11 (codes "pen") (sets (4 ∷ 1 ∷ []) (Text (codes "pen")))
  pub number : Orders OneSegment (2 ∷ []) 10 (codes "12") (sets (2 ∷ []) (Number (pos 12)))
  pub enum_name : Orders OneSegment (3 ∷ []) 13 (codes "LARGE") (sets (3 ∷ []) (Number (pos 5)))
  pub enum_number : Orders OneSegment (3 ∷ []) 10 (codes "12") (sets (3 ∷ []) (Number (pos 12)))
  -- an escaped slash is decoded in a variable of one segment, and stays in one of several
  pub one_segment : Orders OneSegment (1 ∷ []) 13 (codes "a%2Fb") (sets (1 ∷ []) (Text (codes "a/b")))
  pub several : Orders Rest (1 ∷ []) 13 (codes "a%2Fb") (sets (1 ∷ []) (Text (codes "a%2Fb")))
  -- what is escaped counts as it is meant
  pub escaped : Orders OneSegment (2 ∷ []) 12 (codes "%312") (sets (2 ∷ []) (Number (pos 12)))
  -- the last number of 32 bits, and the one behind it
  pub largest : Orders OneSegment (2 ∷ []) 18 (codes "2147483647") (sets (2 ∷ []) (Number (pos 2147483647)))
  pub past : Orders OneSegment (2 ∷ []) 18 (codes "2147483648") (Err (Path 1 OutOfRange))
  -- of two faults the first counts
  pub first : Two (Err (Path 1 OutOfRange))
  pub second : FailsAt order_types (type_at 0) two_binding (codes "/x/2147483648/2147483648")
      (span 3 13 ∷ span 14 24 ∷ []) 1 OutOfRange
  pub not_second : Two (Err (Path 2 OutOfRange)) → ⊥
  -- a path of 100 numbers is not too deep; one of 101 is, whatever the text is
  pub shallow : Orders OneSegment (through 99) 10 (codes "12") (sets (through 99) (Number (pos 12)))
  pub deep : (text : List ℕ) (end : ℕ) → Orders OneSegment (through 100) end text (Err (Path 1 TooDeep))
