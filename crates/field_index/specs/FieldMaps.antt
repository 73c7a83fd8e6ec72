-- Maps from the names and the numbers of fields to the fields.
use denote.Ref.{Bor}
use Rattle.std.specs.Prelude.{◌≡◌, ◌==◌, ◌||◌, ℕ, List, Option, Some, if◌then◌else◌}
use Rattle.std.specs.BTreeMap.{BTreeMap, get, get_by}
use Rattle.std.specs.Cmp.Lexicographic.{slice_cmp}
use Rattle.std.specs.Option.{option_copied}
use Rattle.std.specs.Ordering.{nat_cmp}
use Rattle.std.specs.Str.{bytes_eq}
use Rattle.json_meanings.specs.PartialMessages.{field_named}
use Rattle.message_types.specs.Types.{field_in}
use Rattle.message_types.specs.declared.fields.Field.{Field}

-- a map from texts to fields
abbrev pub KeyMap : Type 0
KeyMap = BTreeMap (Bor (List ℕ)) (Bor Field)

-- a map from numbers to fields
abbrev pub NumberMap : Type 0
NumberMap = BTreeMap ℕ (Bor Field)

-- the field that a map has at a text
abbrev pub at_key : KeyMap → List ℕ → Option Field
at_key m q = option_copied (get_by (λ k. slice_cmp nat_cmp q k.now) m)

-- the field that a map has at a number
abbrev pub at_number : NumberMap → ℕ → Option Field
at_number m n = option_copied (get nat_cmp m n)

-- a map has the first field that each text names
abbrev pub IsKeyMap : KeyMap → List Field → Type 0
IsKeyMap m fs = (q : List ℕ) → at_key m q ≡ field_named q fs

-- a map has the first field of each number
abbrev pub IsNumberMap : NumberMap → List Field → Type 0
IsNumberMap m fs = (n : ℕ) → at_number m n ≡ field_in fs n

-- a map has a field at its two names, and what another has elsewhere
abbrev pub HasKeys : KeyMap → Field → KeyMap → Type 0
HasKeys m f n =
    (q : List ℕ) → at_key n q ≡ (if bytes_eq q f.json || bytes_eq q f.name then Some f else at_key m q)

-- a map has a field at its number, and what another has elsewhere
abbrev pub HasField : NumberMap → Field → NumberMap → Type 0
HasField m f n = (k : ℕ) → at_number n k ≡ (if f.number == k then Some f else at_number m k)

-- the two maps of fields
pub record AreMaps (fields : List Field) (keys : KeyMap) (numbers : NumberMap) : Type 0 where
  pub by_key : IsKeyMap keys fields
  pub by_number : IsNumberMap numbers fields
