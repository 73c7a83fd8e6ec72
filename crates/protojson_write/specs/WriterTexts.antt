-- What the parts of a message are written as, by what a write rests on: the types, the levels left and the limit.
use Rattle.std.specs.Prelude.{◌+◌, ◌++◌, ℕ, List, Option, Result, IfErr}
use denote.Ref.{Bor}
use Rattle.std.specs.Option.{option_copied}
use Rattle.known_types.specs.KnownTexts.{known_text}
use Rattle.message_types.specs.Types.{field_in}
use Rattle.message_types.specs.declared.fields.Field.{Field}
use Rattle.message_types.specs.declared.fields.Kind.{Kind}
use Rattle.message_types.specs.declared.messages.TypeId.{TypeId}
use Rattle.schema.specs.declared.key.Key.{Key}
use Rattle.schema.specs.declared.value.Item.{out-Item, Item}
use Rattle.schema.specs.declared.value.Slot.{out-Slot, Slot}
use Rattle.schema.specs.declared.value.Value.{Value}
use Rattle.protojson_write.specs.declared.fault.ShowFault.{ShowFault}
use Rattle.protojson_write.specs.declared.within.Within.{Within}
use Rattle.protojson_write.specs.JsonOutput.{entry_text, followers, item_text, member_text, members_text, object_text}
use Rattle.protojson_write.specs.JsonOutput.{part_text, separated, slot_text, text_within}
use Rattle.protojson_write.specs.ShowAnswers.{IsStop}

-- a message
abbrev pub message_of : Within → TypeId → Value → List ℕ
message_of w = text_within known_text w.level w.types.now

-- an item
abbrev pub item_of : Within → Kind → Item → List ℕ
item_of w kind i = item_text (message_of w) w.types.now kind (out-Item i)

-- items, with commas between them
abbrev pub items_of : Within → Kind → List Item → List ℕ
items_of w kind is = separated (item_of w kind) is

-- items, each behind a comma
abbrev pub other_items_of : Within → Kind → List Item → List ℕ
other_items_of w kind is = followers (item_of w kind) is

-- an entry of a map
abbrev pub entry_of : Within → Kind → Key × Item → List ℕ
entry_of w kind e = entry_text (message_of w) w.types.now kind e

-- entries, with commas between them
abbrev pub pairs_of : Within → Kind → List (Key × Item) → List ℕ
pairs_of w kind es = separated (entry_of w kind) es

-- entries, each behind a comma
abbrev pub other_pairs_of : Within → Kind → List (Key × Item) → List ℕ
other_pairs_of w kind es = followers (entry_of w kind) es

-- a slot
abbrev pub slot_of : Within → Kind → Slot → List ℕ
slot_of w kind s = slot_text (message_of w) w.types.now kind (out-Slot s)

-- a member
abbrev pub member_of : Within → Option (Bor Field) → Slot → List ℕ
member_of w o s = member_text (message_of w) w.types.now (option_copied o) s

-- members, with commas between them
abbrev pub members_of : Within → List Field → List (ℕ × Slot) → List ℕ
members_of w fields es = members_text (message_of w) w.types.now fields es

-- an object
abbrev pub object_of : Within → List Field → List (ℕ × Slot) → List ℕ
object_of w fields es = object_text (members_of w fields es)

-- members, each behind a comma
abbrev pub other_members_of : Within → List Field → List (ℕ × Slot) → List ℕ
other_members_of w fields es =
    followers (λ (e : ℕ × Slot). member_text (message_of w) w.types.now (field_in fields e.0) e.1) es

-- one field alone
abbrev pub part_of : Within → Option (Bor Field) → Option (Bor Slot) → List ℕ
part_of w o s = part_text (message_of w) w.types.now (option_copied o) (option_copied s)

-- a refusal is one at which a write of this text behind these bytes may stop
abbrev pub MayStop : {T : Type 0} → Within → List ℕ → List ℕ → Result T ShowFault → Type 0
MayStop w old text r = IfErr r (IsStop (w.start + w.limit) (old ++ text))
