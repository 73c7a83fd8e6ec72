-- Maps from the names of fields to their places, one for each message type.
use denote.Ref.{Bor}
use Rattle.std.specs.Prelude.{◌≡◌, ℕ, List, length, map, Some, slice_get}
use Rattle.std.specs.BTreeMap.{BTreeMap}
use Rattle.descriptor_pool.specs.DeclaredTypes.{first_from}
use Rattle.descriptor_pool.specs.NameIndex.{index_at}
use Rattle.message_types.specs.declared.fields.Field.{Field}
use Rattle.message_types.specs.declared.messages.MessageType.{MessageType}

-- a map has the place of the first field of each name
abbrev pub IsFieldIndex : List Field → BTreeMap (Bor (List ℕ)) ℕ → Type 0
IsFieldIndex fs index = (q : List ℕ) → index_at index q ≡ first_from 0 (map (λ (f : Field). f.name) fs) q

-- each message type has the map of its fields
pub record AreFieldIndexes (messages : List MessageType) (indexes : List (BTreeMap (Bor (List ℕ)) ℕ)) : Type 0 where
  pub one_each : length indexes ≡ length messages
  pub each : (k : ℕ) (m : MessageType) (index : BTreeMap (Bor (List ℕ)) ℕ)
      → slice_get messages k ≡ Some m → slice_get indexes k ≡ Some index → IsFieldIndex m.fields index
