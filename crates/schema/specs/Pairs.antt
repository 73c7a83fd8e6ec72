-- The entries of a map field: a finite map from keys to items, as a list of both by rising key.
use Rattle.std.specs.Prelude.{◌≡◌, true, List, [], ◌∷◌, Option, Some, None, if◌then◌else◌}
use Rattle.std.specs.declared.cmp.Ordering.{Ordering}
use Rattle.std.specs.declared.cmp.Ordering.TheVariants.{Less, Greater}
use Rattle.std.specs.Ordering.{nat_cmp, int_cmp, bool_cmp, is_eq, is_lt}
use Rattle.std.specs.Cmp.Lexicographic.{slice_cmp}
use Rattle.schema.specs.declared.key.Key.{Key}
use Rattle.schema.specs.declared.key.Key.TheVariants.{Number, Truth, Text}
use Rattle.schema.specs.declared.value.Item.{Item}
use Rattle.schema.specs.declared.value.Pairs.{Pairs}

-- the keys of a map field with their items, in order
abbrev pub entries_of : Pairs → List (Key × Item)
entries_of ps = ps.entries

-- the order of keys: numbers, false before true, text by bytes
abbrev pub key_cmp : Key → Key → Ordering
key_cmp (Number a) (Number b) = int_cmp a b
key_cmp (Number a) _ = Less
key_cmp (Truth a) (Number b) = Greater
key_cmp (Truth a) (Truth b) = bool_cmp a b
key_cmp (Truth a) (Text b) = Less
key_cmp (Text a) (Text b) = slice_cmp nat_cmp a b
key_cmp (Text a) _ = Greater

-- the item that a list of entries has at a key: the first with it
abbrev pub item_at : List (Key × Item) → Key → Option Item
item_at [] k = None
item_at (e ∷ es) k = if is_eq (key_cmp e.0 k) then Some e.1 else item_at es k

-- the list with one item replaced, or put where its key belongs
abbrev pub with_item : List (Key × Item) → Key → Item → List (Key × Item)
with_item [] k i = (k, i) ∷ []
with_item (e ∷ es) k i = if is_lt (key_cmp e.0 k) then e ∷ with_item es k i else (if is_eq (key_cmp e.0 k) then (k, i) ∷ es else (k, i) ∷ e ∷ es)

-- the keys rise, and the first is above this one
abbrev pub KeysRiseFrom : Key → List (Key × Item) → Type 0
KeysRiseFrom low [] = Unit {0}
KeysRiseFrom low (e ∷ es) = (is_lt (key_cmp low e.0) ≡ true) × KeysRiseFrom e.0 es

-- the keys rise, each above the one before
abbrev pub KeysRise : List (Key × Item) → Type 0
KeysRise [] = Unit {0}
KeysRise (e ∷ es) = KeysRiseFrom e.0 es
