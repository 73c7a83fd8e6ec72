-- Paths as the items of a repeated string, and what is read of a text and of its pieces.
use Rattle.std.specs.Prelude.{◌≡◌, ℕ, true, false, List, [], map, Option, Some, None, option_map, Result, Ok, Err}
use Rattle.std.specs.Borrow.{Bor}
use Rattle.std.specs.List.{slice_split}
use Rattle.schema.specs.Layers.{ItemLayer}
use Rattle.schema.specs.declared.value.Item.TheOpen.{Text}
use Rattle.schema.specs.declared.value.Item.{out-Item, roll-Item, Item}
use Rattle.mask_texts.specs.MaskTexts.{is_camel_path, snake_path, is_comma, mask_reading}
use Rattle.mask_texts.specs.declared.fault.MaskFault.{MaskFault}
use Rattle.mask_texts.specs.declared.fault.MaskFault.TheVariants.{BadText, NoMemory}

-- the path of an opened item; an item that is no string counts as the empty path, which has no text
abbrev pub path_of_layer : ItemLayer → List ℕ
path_of_layer (Text path) = path
path_of_layer _ = []

-- the path of an item
abbrev pub item_path : Item → List ℕ
item_path item = path_of_layer (out-Item item)

-- the paths of items
abbrev pub item_paths : List Item → List (List ℕ)
item_paths items = map item_path items

-- a path as an item
abbrev pub path_as_item : List ℕ → Item
path_as_item path = roll-Item (Text path)

-- paths as items
abbrev pub paths_as_items : List (List ℕ) → List Item
paths_as_items paths = map path_as_item paths

-- what is read of a text: the paths that it means, as items; a fault where it means none
abbrev pub IsMaskReading : List ℕ → Result (List Item) MaskFault → Type 0
IsMaskReading text (Ok items) = option_map paths_as_items (mask_reading text) ≡ Some items
IsMaskReading text (Err BadText) = mask_reading text ≡ None
IsMaskReading text (Err NoMemory) = Unit {0}

-- what is read of a piece: the path that it stands for; a fault where it is no path in a text
abbrev pub IsPathReading : List ℕ → Result (List ℕ) MaskFault → Type 0
IsPathReading piece (Ok path) = (is_camel_path piece ≡ true) × (path ≡ snake_path piece)
IsPathReading piece (Err BadText) = is_camel_path piece ≡ false
IsPathReading piece (Err NoMemory) = Unit {0}

-- the pieces between commas of what is left of a text: none where nothing is
abbrev pub pieces_left : Option (Bor (List ℕ)) → List (List ℕ)
pieces_left None = []
pieces_left (Some rest) = slice_split is_comma rest.now
