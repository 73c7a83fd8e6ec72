-- Files in memory.
use Rattle.std.specs.Prelude.{◌||◌, ℕ, Bool, List, [], ◌∷◌, Option, Some, None, if◌then◌else◌, is_none}
use Rattle.std.specs.Str.{bytes_eq}
use Rattle.gate_world.specs.NumberedCalls.{is_listed}
use Rattle.gate_world.specs.declared.in_memory.fixed_files.FixedFiles.{FixedFiles}
use Rattle.gate_world.specs.declared.in_memory.fixed_files.NamedBytes.{NamedBytes}

-- the bytes of the first file with a path
abbrev pub file_in : List NamedBytes → List ℕ → Option (List ℕ)
file_in [] path = None
file_in (f ∷ fs) path = if bytes_eq f.name path then Some f.bytes else file_in fs path

-- a read fails: its number is listed, or no file has the path
abbrev pub reads_nothing : FixedFiles → List ℕ → Bool
reads_nothing s path = is_listed s.calls || is_none (file_in s.files path)
