-- The JSON name of a field (the ProtoJSON guide: lowerCamelCase where none is declared).
use Rattle.std.specs.Prelude.{ℕ, ◌==◌, Bool, true, false, List, [], ◌∷◌, if◌then◌else◌, unwrap_or}
use Rattle.std.specs.Char.{to_ascii_uppercase}
use Rattle.std.specs.Str.{chars, encode_utf8_all}
use Rattle.descriptors.specs.declared.file_set.FieldInfo.{FieldInfo}

-- a character, in upper case where it follows an underscore
abbrev pub cased : Bool → ℕ → ℕ
cased after c = if after then to_ascii_uppercase c else c

-- the characters without underscores, where a letter behind one is in upper case; `after`: an underscore came
-- before
abbrev pub camel : Bool → List ℕ → List ℕ
camel after [] = []
camel after (c ∷ cs) = if c == 95 then camel true cs else cased after c ∷ camel false cs

-- the JSON name that a field's name gives
abbrev pub camel_name : List ℕ → List ℕ
camel_name name = encode_utf8_all (camel false (chars name))

-- the JSON name of a field: the declared one, or that which its name gives
abbrev pub json_of : FieldInfo → List ℕ
json_of f = unwrap_or f.json_name (camel_name f.name)
