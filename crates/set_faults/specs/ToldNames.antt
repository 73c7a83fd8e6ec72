-- The names that faults tell.
use Rattle.std.specs.Prelude.{◌++◌, ℕ, List, [], ◌∷◌}
use Rattle.set_faults.specs.declared.told_name.ToldName.{ToldName}
use Rattle.set_faults.specs.declared.told_name.ToldName.TheVariants.{Nothing, Plain, Full, Path, Field}

-- the bytes of a name; of a field the message's full name, a dot and the field's name
abbrev pub told : ToldName → List ℕ
told Nothing = []
told (Plain text) = text.now
told (Full name) = name.now
told (Path path) = path.now
told (Field message name) = message.now ++ 46 ∷ name.now
