-- How a scan for a part's end stands to the definitions of whole lists, however the bytes are cut: what any bytes
-- behind it would give is told by its place.
use Rattle.std.specs.Prelude.{◌≡◌, ◌+◌, ◌-◌, ◌++◌, ◌≤◌, ℕ, List, length, take, Option, Some, None}
use Rattle.http1_front.specs.declared.part.Part.{Part}
use Rattle.http1_front.specs.declared.place.Place.{Place}
use Rattle.http1_front.specs.declared.scan.Found.{Found}
use Rattle.http1_front.specs.PartSizes.{part_size, part_lines}
use Rattle.http1_front.specs.PlaceSteps.{held, rest_size, rest_lines, moved}

-- behind these bytes of a part, in which it does not end, a scan stands at this place, and so many lines have ended
pub record IsScanned (part : Part) (seen : List ℕ) (place : Place) (lines : ℕ) : Type 0 where
  pub room : held place ≤ length seen
  pub size : (more : List ℕ) → part_size part (seen ++ more) ≡ moved (length seen - held place) (rest_size place more)
  pub ended : (more : List ℕ) → part_lines part (seen ++ more) ≡ lines + rest_lines place more

-- the part ends with the last of these bytes, whatever follows, and has so many lines
pub record IsWhole (part : Part) (bytes : List ℕ) (lines : ℕ) : Type 0 where
  pub size : (more : List ℕ) → part_size part (bytes ++ more) ≡ Some (length bytes)
  pub ended : part_lines part bytes ≡ lines

-- what is found in bytes behind those that were seen
abbrev pub FoundAt : Part → List ℕ → List ℕ → ℕ → ℕ → Option Place → Type 0
FoundAt part seen bytes taken lines None = IsWhole part (seen ++ take taken bytes) lines
FoundAt part seen bytes taken lines (Some place) = (taken ≡ length bytes) × IsScanned part (seen ++ bytes) place lines

-- the same, as it is told
abbrev pub IsFound : Part → List ℕ → List ℕ → Found → Type 0
IsFound part seen bytes found = FoundAt part seen bytes found.taken found.lines found.place
