-- Worked examples of settings.
use Rattle.std.specs.Prelude.{ℕ, List, [], ◌∷◌, codes}
use Rattle.field_settings.specs.AppliedSettings.{AreSet, Sets, message_slot}
use Rattle.linked_api.specs.LinkedExamples.{field_of_kind, type_at}
use Rattle.message_types.specs.declared.fields.Kind.TheVariants.{One as OneOf, Message as MessageOf}
use Rattle.message_types.specs.declared.fields.Presence.TheVariants.{Implicit, Explicit}
use Rattle.message_types.specs.declared.fields.Scalar.TheVariants.{Text as TextOf}
use Rattle.message_types.specs.declared.fields.Shape.TheVariants.{Single, Member, Many as ManyOf}
use Rattle.message_types.specs.declared.messages.Known.TheVariants.{Plain}
use Rattle.message_types.specs.declared.messages.MessageType.{MessageType}
use Rattle.message_types.specs.declared.messages.Types.{Types}
use Rattle.schema.specs.declared.value.Item.TheOpen.{Text, One, Many}
use Rattle.schema.specs.declared.value.Item.{roll-Item}
use Rattle.schema.specs.declared.value.Slot.{Slot, roll-Slot}
use Rattle.schema.specs.declared.value.Value.{Value}

-- an order: a note, a label that tells the empty one from absence, an address, a oneof of a card's name and an address,
-- tags, and another oneof
abbrev pub order : MessageType
order = record {
  name = codes "shop.Order";
  known = Plain;
  fields =
      field_of_kind (codes "note") 1 (OneOf TextOf) Single Implicit
      ∷ field_of_kind (codes "label") 2 (OneOf TextOf) Single Explicit
      ∷ field_of_kind (codes "address") 3 (MessageOf (type_at 1)) Single Explicit
      ∷ field_of_kind (codes "card") 4 (OneOf TextOf) (Member 0) Explicit
      ∷ field_of_kind (codes "bill_to") 5 (MessageOf (type_at 1)) (Member 0) Explicit
      ∷ field_of_kind (codes "tags") 6 (OneOf TextOf) ManyOf Implicit
      ∷ field_of_kind (codes "gift_for") 7 (OneOf TextOf) (Member 1) Explicit ∷ [];
}

-- an address: a town, and a street that tells the empty one from absence
abbrev pub address : MessageType
address = record {
  name = codes "shop.Address";
  known = Plain;
  fields =
      field_of_kind (codes "town") 1 (OneOf TextOf) Single Implicit
      ∷ field_of_kind (codes "street") 2 (OneOf TextOf) Single Explicit ∷ [];
}

-- both
abbrev pub orders : Types
orders = record { messages = order ∷ address ∷ []; enums = [] }

-- a string as a slot
abbrev pub text : List ℕ → Slot
text t = roll-Slot (One (roll-Item (Text t)))

-- a list without items as a slot
abbrev pub no_items : Slot
no_items = roll-Slot (Many [])

-- a message of these fields
abbrev pub message : List (ℕ × Slot) → Value
message fields = record { fields = fields }

-- a slot that is set in an order at a path makes one of these fields another of those
abbrev pub Gives : List ℕ → Slot → List (ℕ × Slot) → List (ℕ × Slot) → Type 0
Gives path slot old new = Sets orders (type_at 0) path slot (message old) (message new)

-- what settings make of orders
pub record SettingExamplesHold : Type 0 where
  pub top : Gives (1 ∷ []) (text (codes "a")) [] ((1, text (codes "a")) ∷ [])
  -- what stood is replaced, and the rest stays in order
  pub replaced : Gives (2 ∷ []) (text (codes "a"))
      ((1, text (codes "x")) ∷ (2, text (codes "b")) ∷ (4, text (codes "y")) ∷ [])
      ((1, text (codes "x")) ∷ (2, text (codes "a")) ∷ (4, text (codes "y")) ∷ [])
  -- the message on the way is made
  pub made : Gives (3 ∷ 1 ∷ []) (text (codes "a")) [] ((3, message_slot (message ((1, text (codes "a")) ∷ []))) ∷ [])
  -- one that stands keeps its other fields
  pub kept : Gives (3 ∷ 1 ∷ []) (text (codes "a"))
      ((3, message_slot (message ((1, text (codes "b")) ∷ (2, text (codes "c")) ∷ []))) ∷ [])
      ((3, message_slot (message ((1, text (codes "a")) ∷ (2, text (codes "c")) ∷ []))) ∷ [])
  -- the empty string is nothing where that can't be told from absence, but the message on its way is made
  pub cleared : Gives (1 ∷ []) (text []) ((1, text (codes "a")) ∷ []) []
  pub absent : Gives (3 ∷ 1 ∷ []) (text []) [] ((3, message_slot (message [])) ∷ [])
  pub present : Gives (3 ∷ 2 ∷ []) (text []) [] ((3, message_slot (message ((2, text []) ∷ []))) ∷ [])
  pub listed : Gives (6 ∷ []) no_items [] []
  -- a member of a oneof clears the other, at the end of a path and on the way, and no member of another oneof
  pub member : Gives (4 ∷ []) (text (codes "a"))
      ((1, text (codes "x")) ∷ (5, message_slot (message ((1, text (codes "b")) ∷ []))) ∷ (7, text (codes "y")) ∷ [])
      ((1, text (codes "x")) ∷ (4, text (codes "a")) ∷ (7, text (codes "y")) ∷ [])
  pub passed : Gives (5 ∷ 1 ∷ []) (text (codes "a")) ((4, text (codes "b")) ∷ (7, text (codes "y")) ∷ [])
      ((5, message_slot (message ((1, text (codes "a")) ∷ []))) ∷ (7, text (codes "y")) ∷ [])
  -- of two settings of one path the last counts
  pub last : AreSet orders (type_at 0)
      (record { path = 1 ∷ []; slot = text (codes "a") } ∷ record { path = 1 ∷ []; slot = text (codes "b") } ∷ [])
      (message []) (message ((1, text (codes "b")) ∷ []))
  -- nothing is set at no path, under a number of no field, and behind a string
  pub no_path : (w : Value) → Sets orders (type_at 0) [] (text []) (message []) w → ⊥
  pub no_field : (w : Value) → Sets orders (type_at 0) (8 ∷ []) (text []) (message []) w → ⊥
  pub behind : (w : Value) → Sets orders (type_at 0) (1 ∷ 1 ∷ []) (text []) (message []) w → ⊥
