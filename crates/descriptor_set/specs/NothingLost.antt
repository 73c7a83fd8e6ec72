-- Nothing of a decoded set is lost: its messages and rules are read alike in any more levels than those that are
-- read, and its numbers have 32 bits.
use Rattle.std.specs.Prelude.{◌≡◌, ◌+◌, ℕ, ℤ, List, Option, Some, Ok, IfSome, option_and_then}
use Rattle.std.specs.List.{AllByRecursion}
use Rattle.schema.specs.Validity.{valid_within}
use Rattle.schema.specs.declared.value.Item.{Item, out-Item}
use Rattle.schema.specs.declared.value.Item.TheOpen.{Number}
use Rattle.schema.specs.declared.value.Value.{Value}
use Rattle.wire_format.specs.Decoding.{decoding}
use Rattle.base.specs.Bytes.{AreBytes}
use Rattle.descriptor_set.specs.DescriptorFields.{message_info, rule_info}
use Rattle.descriptor_set.specs.DescriptorTypes.{descriptor_types, type_of}
use Rattle.descriptor_set.specs.FieldContents.{item_at, message_at, messages_at, number_at}
use Rattle.descriptor_set.specs.declared.described.Described.{Described}
use Rattle.descriptor_set.specs.declared.described.Described.TheVariants.{Set}

-- a message is read alike in any more levels
abbrev pub IsWholeMessage : Value → Type 0
IsWholeMessage v = (j : ℕ) → message_info (j + 100) v ≡ message_info 100 v

-- a rule is
abbrev pub IsWholeRule : Value → Type 0
IsWholeRule v = (j : ℕ) → rule_info (j + 100) v ≡ rule_info 100 v

-- the rule of a method's options, where there is one
abbrev pub rule_value : Value → Option Value
rule_value m = option_and_then (λ options. message_at options 72295728) (message_at m 4)

-- the rule of a method is read alike in any more levels
abbrev pub IsWholeMethod : Value → Type 0
IsWholeMethod m = IfSome (rule_value m) IsWholeRule

-- each rule of the methods of a service is
abbrev pub IsWholeService : Value → Type 0
IsWholeService s = AllByRecursion IsWholeMethod (messages_at s 2)

-- each message of a file is, and each rule of its methods
abbrev pub IsWholeFile : Value → Type 0
IsWholeFile f = AllByRecursion IsWholeMessage (messages_at f 4) × AllByRecursion IsWholeService (messages_at f 6)

-- each file of a set is
abbrev pub IsWholeSet : Value → Type 0
IsWholeSet v = AllByRecursion IsWholeFile (messages_at v 1)

-- no level of a set that is decoded is lost
abbrev pub NoLevelIsLost : Type 0
NoLevelIsLost = (bytes : List ℕ) (v : Value) → AreBytes bytes → decoding descriptor_types (type_of Set) bytes ≡ Ok v → IsWholeSet v

-- no number of a message in a set is lost: where a field holds one, that is what is read of the field
abbrev pub NoNumberIsLost : Type 0
NoNumberIsLost = (k : ℕ) (d : Described) (w : Value) (n : ℕ) (i : Item) (z : ℤ) → (valid_within k descriptor_types).message (type_of d) w
    → item_at w n ≡ Some i → out-Item i ≡ Number z → number_at w n ≡ Some z
