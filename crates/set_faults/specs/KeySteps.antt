-- The keys of fields: their names and JSON names.
use Rattle.std.specs.Prelude.{ℕ, List, [], ◌∷◌}
use Rattle.descriptors.specs.declared.file_set.FieldInfo.{FieldInfo}
use Rattle.descriptor_pool.specs.JsonFieldNames.{json_of}

-- the keys of a field
abbrev pub keys_of : FieldInfo → List (List ℕ)
keys_of f = f.name ∷ json_of f ∷ []
