-- Files by their paths, told whole or not at all.
use Rattle.std.specs.Prelude.{◌≡◌, ℕ, List, Option, Some, None}

-- the bytes of the file at each path, and none where a file is missing
abbrev pub FileMap : Type 0
FileMap = List ℕ → Option (List ℕ)

-- the bytes of the file at a path, where the files are told and there is one
abbrev pub told_file : Option FileMap → List ℕ → Option (List ℕ)
told_file None path = None
told_file (Some files) path = files path

-- the files are told, and there is none at a path
abbrev pub IsMissing : Option FileMap → List ℕ → Type 0
IsMissing None path = ⊥
IsMissing (Some files) path = files path ≡ None
