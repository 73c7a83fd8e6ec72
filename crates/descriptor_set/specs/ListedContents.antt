-- What is read of a listed field is what the field holds: the text, number, truth value, message or messages of its
-- slot, and nothing where it has none; of the oneof of a rule's patterns the one that stands.
use Rattle.std.specs.Prelude.{◌≡◌, ◌++◌, ℕ, ℤ, zero, suc, Bool, List, [], map, Option, Some, None, Ok, IfSome, option_map, option_to_list}
use Rattle.std.specs.List.{AllByRecursion}
use Rattle.base.specs.Bytes.{AreBytes}
use Rattle.schema.specs.Layers.{ItemLayer}
use Rattle.schema.specs.Value.{slot_at}
use Rattle.schema.specs.declared.value.Item.TheOpen.{Number, Truth, Text, Message, One, Many}
use Rattle.schema.specs.declared.value.Item.{Item, out-Item}
use Rattle.schema.specs.declared.value.Slot.{Slot, out-Slot}
use Rattle.schema.specs.declared.value.Value.{Value}
use Rattle.wire_format.specs.Decoding.{decoding}
use Rattle.descriptor_set.specs.DescriptorFields.{custom_pattern, pattern_info}
use Rattle.descriptor_set.specs.DescriptorTypes.{descriptor_types, listed_fields, type_of}
use Rattle.descriptor_set.specs.FieldContents.{message_at, messages_at, number_at, text_at, truth_at}
use Rattle.descriptor_set.specs.declared.described.Described.{Described}
use Rattle.descriptor_set.specs.declared.described.Described.TheVariants.{Set, Rule, CustomPattern}
use Rattle.descriptor_set.specs.declared.described.Holds.{Holds}
use Rattle.descriptor_set.specs.declared.described.Holds.TheVariants as holds
use Rattle.descriptors.specs.declared.file_set.PatternInfo.{PatternInfo}
use Rattle.descriptors.specs.declared.file_set.PatternInfo.TheVariants.{Get, Put, Post, Delete, Patch}

-- a slot holds one item, which is this
pub record IsSlotOf (s : Slot) (x : ItemLayer) : Type 0 where
  pub item : Item
  pub one : out-Slot s ≡ One item
  pub item_is : out-Item item ≡ x

-- a slot holds these messages, in order
pub record IsSlotOfAll (s : Slot) (vs : List Value) : Type 0 where
  pub items : List Item
  pub many : out-Slot s ≡ Many items
  pub items_are : map out-Item items ≡ map (λ v. Message v) vs

-- what is read of a slot that may be there: where it is, what it holds; else nothing
abbrev pub IsReadOf : {X : Type 0} → (X → ItemLayer) → Option Slot → Option X → Type 0
IsReadOf item None None = Unit {0}
IsReadOf item None (Some x) = ⊥
IsReadOf item (Some s) None = ⊥
IsReadOf item (Some s) (Some x) = IsSlotOf s (item x)

-- the messages that are read of one: where it is, those that it holds; else none
abbrev pub AreReadOf : Option Slot → List Value → Type 0
AreReadOf None vs = vs ≡ []
AreReadOf (Some s) vs = IsSlotOfAll s vs

-- what is read of a listed field of a message is what it holds
abbrev pub IsFieldRead : Holds → Value → ℕ → Type 0
IsFieldRead holds.Text v n = IsReadOf (λ (t : List ℕ). Text t) (slot_at v n) (text_at v n)
IsFieldRead holds.Number v n = IsReadOf (λ (z : ℤ). Number z) (slot_at v n) (number_at v n)
IsFieldRead holds.Truth v n = IsReadOf (λ (b : Bool). Truth b) (slot_at v n) (truth_at v n)
IsFieldRead holds.Path v n = IsReadOf (λ (t : List ℕ). Text t) (slot_at v n) (text_at v n)
IsFieldRead holds.CustomPath v n = IsReadOf (λ (m : Value). Message m) (slot_at v n) (message_at v n)
IsFieldRead (holds.Message d) v n = IsReadOf (λ (m : Value). Message m) (slot_at v n) (message_at v n)
IsFieldRead (holds.Messages d) v n = AreReadOf (slot_at v n) (messages_at v n)

-- the patterns of a rule that stand, by rising number
abbrev pub patterns_in : Value → List PatternInfo
patterns_in v =
    option_to_list (option_map Get (text_at v 2))
    ++ (option_to_list (option_map Put (text_at v 3))
    ++ (option_to_list (option_map Post (text_at v 4))
    ++ (option_to_list (option_map Delete (text_at v 5))
    ++ (option_to_list (option_map Patch (text_at v 6))
    ++ option_to_list (option_map custom_pattern (message_at v 8))))))

-- the pattern that is read of a rule is all that stand: one, or none
abbrev pub IsPatternRead : Described → Value → Type 0
IsPatternRead Rule v = patterns_in v ≡ option_to_list (pattern_info v)
IsPatternRead _ v = Unit {0}

-- the messages that a field holds have a property of messages of their kind
abbrev pub HaveInner : (Described → Value → Type 0) → Holds → Value → ℕ → Type 0
HaveInner P holds.CustomPath v n = IfSome (message_at v n) (P CustomPattern)
HaveInner P (holds.Message d) v n = IfSome (message_at v n) (P d)
HaveInner P (holds.Messages d) v n = AllByRecursion (P d) (messages_at v n)
HaveInner P _ v n = Unit {0}

-- of a message each listed field is read, and the pattern of a rule, and so it is of the messages that they hold,
-- in so many levels, this one included: there are no more
unfoldable pub IsMessageRead : ℕ → Described → Value → Type 0
IsMessageRead zero d v = ⊥
IsMessageRead (suc k) d v =
    AllByRecursion (λ (f : ℕ × Holds). IsFieldRead f.1 v f.0 × HaveInner (IsMessageRead k) f.1 v f.0)
    (listed_fields d) × IsPatternRead d v

-- what is read of a set that is decoded is what it lists
abbrev pub IsReadAsListed : Type 0
IsReadAsListed = (bytes : List ℕ) (v : Value) → AreBytes bytes → decoding descriptor_types (type_of Set) bytes ≡ Ok v
    → IsMessageRead 100 Set v
