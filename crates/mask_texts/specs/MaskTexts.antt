-- The text of a google.protobuf.FieldMask in JSON (field_mask.proto, JSON Encoding of Field Masks; the ProtoJSON guide,
-- FieldMask): the paths, joined by commas, each in camel case. Texts stand here without their quotes.
use Rattle.std.specs.Prelude.{◌≡◌, ◌==◌, ◌||◌, ◌&&◌, ℕ, Bool, true, false, not, List, [], ◌∷◌, ◌++◌, length, map, Option, Some, None, if◌then◌else◌}
use Rattle.std.specs.List.{list_all, flat_map, join_with_byte, slice_split}
use Rattle.std.specs.Char.{is_ascii_alphanumeric, is_ascii_digit, is_ascii_lowercase, is_ascii_uppercase, to_ascii_lowercase, to_ascii_uppercase}

-- a byte of a path in a text: a letter, a digit, `.` or `*`
abbrev pub is_camel_byte : ℕ → Bool
is_camel_byte b = is_ascii_alphanumeric b || b == 46 || b == 42

-- a path in a text: one or more such bytes
abbrev pub is_camel_path : List ℕ → Bool
is_camel_path written = not (length written == 0) && list_all is_camel_byte written

-- what a byte of it stands for: an upper-case letter for `_` and the lower-case one, any other byte for itself
abbrev pub snake_byte : ℕ → List ℕ
snake_byte b = if is_ascii_uppercase b then 95 ∷ to_ascii_lowercase b ∷ [] else b ∷ []

-- the path that it stands for
abbrev pub snake_path : List ℕ → List ℕ
snake_path written = flat_map snake_byte written

-- a text means paths: it is written paths, joined by commas, that stand for them
pub record MeansMask (text : List ℕ) (paths : List (List ℕ)) : Type 0 where
  pub written : List (List ℕ)
  pub are_paths : list_all is_camel_path written ≡ true
  pub joined : text ≡ join_with_byte 44 written
  pub meant : paths ≡ map snake_path written

-- a byte is a comma
abbrev pub is_comma : ℕ → Bool
is_comma b = b == 44

-- the pieces of a text between its commas; the empty text has none
abbrev pub pieces_of : List ℕ → List (List ℕ)
pieces_of [] = []
pieces_of (b ∷ bs) = slice_split is_comma (b ∷ bs)

-- the paths that a text means, as one computes them
abbrev pub mask_reading : List ℕ → Option (List (List ℕ))
mask_reading text =
    if list_all is_camel_path (pieces_of text) then Some (map snake_path (pieces_of text)) else None

-- a byte may stand in a path that is written: behind `_` a lower-case letter, elsewhere a digit, `.`, `*` or `_` too
abbrev pub can_follow : Bool → ℕ → Bool
can_follow true b = is_ascii_lowercase b
can_follow false b = is_ascii_lowercase b || is_ascii_digit b || b == 46 || b == 42 || b == 95

-- each byte may stand behind the one before it, and the last is no `_`
abbrev pub are_printable : Bool → List ℕ → Bool
are_printable is_after [] = not is_after
are_printable is_after (b ∷ bs) = can_follow is_after b && are_printable (b == 95) bs

-- a path can be written: it is not empty, and its bytes can
abbrev pub is_printable_path : List ℕ → Bool
is_printable_path path = not (length path == 0) && are_printable false path

-- what is written for a byte: behind `_` the upper-case letter, for `_` nothing, and any other byte as it is
abbrev pub camel_byte : Bool → ℕ → List ℕ
camel_byte true b = to_ascii_uppercase b ∷ []
camel_byte false b = if b == 95 then [] else b ∷ []

-- what is written for bytes, where the one before them is `_` or not
abbrev pub camel_bytes : Bool → List ℕ → List ℕ
camel_bytes is_after [] = []
camel_bytes is_after (b ∷ bs) = camel_byte is_after b ++ camel_bytes (b == 95) bs

-- what is written for a path: `_x` is `X`
abbrev pub camel_path : List ℕ → List ℕ
camel_path path = camel_bytes false path

-- paths as they are written, with commas between them
abbrev pub joined_paths : List (List ℕ) → List ℕ
joined_paths paths = join_with_byte 44 (map camel_path paths)

-- the text of paths, or none
abbrev pub mask_text : List (List ℕ) → Option (List ℕ)
mask_text paths = if list_all is_printable_path paths then Some (joined_paths paths) else None

-- a byte of a text that is written: a letter, a digit, `.`, `*` or `,`
abbrev pub is_written_byte : ℕ → Bool
is_written_byte b = is_camel_byte b || is_comma b
