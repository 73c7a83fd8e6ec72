-- Worked examples of the texts of timestamps, durations and field masks in each place where one may stand, whatever
-- such texts are: alone, in a field, in a list, as the value of an entry of a map, in a oneof, and in a message inside.
use Rattle.std.specs.Prelude.{◌≡◌, ◌++◌, ℕ, true, List, [], ◌∷◌, codes, Option, Some, None}
use Rattle.message_types.specs.declared.fields.Kind.TheVariants.{Message as MessageOf}
use Rattle.message_types.specs.declared.fields.Presence.TheVariants.{Implicit, Explicit}
use Rattle.message_types.specs.declared.fields.Scalar.TheVariants.{Bool as BoolOf}
use Rattle.message_types.specs.declared.fields.Shape.TheVariants.{Single, Member, Many as ManyOf, Map as MapOf}
use Rattle.message_types.specs.declared.messages.Known.{Known}
use Rattle.message_types.specs.declared.messages.Known.TheVariants.{Plain}
use Rattle.message_types.specs.declared.messages.Types.{Types}
use Rattle.schema.specs.declared.key.Key.TheVariants.{Truth as TruthKey}
use Rattle.schema.specs.declared.value.Item.TheOpen.{Message, Many}
use Rattle.schema.specs.declared.value.Item.{roll-Item}
use Rattle.schema.specs.declared.value.Slot.{roll-Slot, Slot}
use Rattle.schema.specs.declared.value.Value.{Value}
use Rattle.json_meanings.specs.ExampleTypes.{field_as_named, one_slot, type_at, type_with}
use Rattle.protojson_write.specs.JsonOutput.{array_text, json_text, object_text}
use Rattle.protojson_write.specs.KnownParts.{KnownTexts}
use Rattle.protojson_write.specs.ScalarOutput.{quoted}
use Rattle.protojson_write.specs.ShownExamples.{map_slot, message_with}

-- a type with fields of a well-known type, and that type, whose fields play no part here
abbrev pub place_types : Known → Types
place_types known = record {
  messages =
      type_with (codes "p.Places") Plain
      (field_as_named (codes "one") 1 (MessageOf (type_at 1)) Single Explicit
      ∷ field_as_named (codes "many") 2 (MessageOf (type_at 1)) ManyOf Implicit
      ∷ field_as_named (codes "keyed") 3 (MessageOf (type_at 1)) (MapOf BoolOf) Implicit
      ∷ field_as_named (codes "member") 4 (MessageOf (type_at 1)) (Member 0) Explicit
      ∷ field_as_named (codes "inner") 5 (MessageOf (type_at 0)) Single Explicit
      ∷ [])
      ∷ type_with (codes "p.Known") known []
      ∷ [];
  enums = [];
}

-- the text of a message with one slot
abbrev pub place_text : KnownTexts → Known → ℕ → Slot → Option (List ℕ)
place_text texts known n s = json_text texts (place_types known) (type_at 0) None (message_with ((n, s) ∷ []))

-- a list of two messages
abbrev pub two_items : Value → Value → Slot
two_items v w = roll-Slot (Many (roll-Item (Message v) ∷ roll-Item (Message w) ∷ []))

-- a map with a message at true
abbrev pub one_entry : Value → Slot
one_entry v = map_slot ((TruthKey true, roll-Item (Message v)) ∷ [])

-- messages of this type that have texts stand in quotes in each place
pub record IsShownInPlaces (texts : KnownTexts) (known : Known) (v w : Value) (t u : List ℕ) : Type 0 where
  pub alone : json_text texts (place_types known) (type_at 1) None v ≡ Some (quoted t)
  pub single : place_text texts known 1 (one_slot (Message v)) ≡ Some (object_text (codes "\"one\":" ++ quoted t))
  pub items : place_text texts known 2 (two_items v w)
      ≡ Some (object_text (codes "\"many\":" ++ array_text (quoted t ++ 44 ∷ quoted u)))
  pub entry : place_text texts known 3 (one_entry v)
      ≡ Some (object_text (codes "\"keyed\":" ++ object_text (codes "\"true\":" ++ quoted t)))
  pub member : place_text texts known 4 (one_slot (Message v)) ≡ Some (object_text (codes "\"member\":" ++ quoted t))
  pub inner : place_text texts known 5 (one_slot (Message (message_with ((1, one_slot (Message v)) ∷ []))))
      ≡ Some (object_text (codes "\"inner\":" ++ object_text (codes "\"one\":" ++ quoted t)))

-- one that has none, w, leaves the whole value without a text in each place, beside one that has a text, v
pub record IsUnprintableInPlaces (texts : KnownTexts) (known : Known) (v w : Value) : Type 0 where
  pub alone : json_text texts (place_types known) (type_at 1) None w ≡ None
  pub single : place_text texts known 1 (one_slot (Message w)) ≡ None
  pub last_item : place_text texts known 2 (two_items v w) ≡ None
  pub first_item : place_text texts known 2 (two_items w v) ≡ None
  pub entry : place_text texts known 3 (one_entry w) ≡ None
  pub member : place_text texts known 4 (one_slot (Message w)) ≡ None
  pub inner : place_text texts known 5 (one_slot (Message (message_with ((2, two_items v w) ∷ [])))) ≡ None

-- this holds of messages that have such texts
abbrev pub PlacesHold : KnownTexts → Known → Type 0
PlacesHold texts known =
    (v w : Value) (t u : List ℕ) → texts known v ≡ Some t → texts known w ≡ Some u
    → IsShownInPlaces texts known v w t u

-- and this of one that has none beside one that has one
abbrev pub UnprintablePlacesHold : KnownTexts → Known → Type 0
UnprintablePlacesHold texts known =
    (v w : Value) (t : List ℕ) → texts known v ≡ Some t → texts known w ≡ None
    → IsUnprintableInPlaces texts known v w
