-- Worked examples of what is printed of a small API, computed by the definitions.
use Rattle.std.specs.Prelude.{◌≡◌, ℕ, List, [], ◌∷◌, codes, Option, Some, None}
use Rattle.http_rules.specs.declared.template.Binding.{Binding}
use Rattle.http_rules.specs.declared.template.Body.{Body}
use Rattle.http_rules.specs.declared.template.Body.TheVariants.{Whole, Part}
use Rattle.linked_api.specs.LinkedExamples.{field_of_kind, type_at}
use Rattle.linked_api.specs.SmallApi.{get_item, item, item_binding}
use Rattle.linked_api.specs.declared.api.Api.{Api}
use Rattle.linked_api.specs.declared.api.MethodInfo.{MethodInfo}
use Rattle.message_types.specs.declared.fields.Kind.TheVariants.{One as OneOf}
use Rattle.message_types.specs.declared.fields.Presence.TheVariants.{Implicit}
use Rattle.message_types.specs.declared.fields.Scalar.TheVariants.{Text}
use Rattle.message_types.specs.declared.fields.Shape.TheVariants.{Single}
use Rattle.message_types.specs.declared.messages.Known.TheVariants.{Plain}
use Rattle.message_types.specs.declared.messages.MessageType.{MessageType}
use Rattle.message_types.specs.declared.messages.Types.{Types}
use Rattle.set_listing.specs.RouteLines.{IsRoutesText, check_text}

-- a message whose field has another name in JSON
abbrev pub receipt : MessageType
receipt = record {
  name = codes "shop.Receipt";
  known = Plain;
  fields =
      record (field_of_kind (codes "total_price") 1 (OneOf Text) Single Implicit) { json = codes "totalPrice" } ∷ [];
}

-- items and receipts
abbrev pub goods : Types
goods = record { messages = item ∷ receipt ∷ []; enums = [] }

-- a method that takes an item and answers a receipt
abbrev pub sell : MethodInfo
sell = record get_item { path = codes "/shop.Shop/Sell"; output = type_at 1 }

-- an API of this method and these bindings
abbrev pub sales : MethodInfo → List Binding → Api
sales method bindings = record { types = goods; methods = method ∷ []; bindings = bindings }

-- POST of `/items/{name}`
abbrev pub posted : Body → Option ℕ → Binding
posted body response = record item_binding { method = codes "POST"; body = body; response = response }

-- what is printed
pub record PrintedExamplesHold : Type 0 where
  pub counted : check_text (sales sell (item_binding ∷ item_binding ∷ [])) ≡ codes "bindings 2\n"
  pub get : IsRoutesText (sales sell (item_binding ∷ [])) (codes "GET /items/{name=*} /shop.Shop/Sell - -\n")
  -- the whole message as body, and fields by their proto names: the body's of the input, the response's of the output
  pub whole : IsRoutesText (sales sell (posted Whole None ∷ [])) (codes "POST /items/{name=*} /shop.Shop/Sell * -\n")
  pub fields : IsRoutesText (sales sell (posted (Part 1) (Some 1) ∷ []))
      (codes "POST /items/{name=*} /shop.Shop/Sell name total_price\n")
  pub in_order : IsRoutesText (sales sell (posted Whole None ∷ item_binding ∷ []))
      (codes "POST /items/{name=*} /shop.Shop/Sell * -\nGET /items/{name=*} /shop.Shop/Sell - -\n")
  pub empty : IsRoutesText (sales sell []) []
