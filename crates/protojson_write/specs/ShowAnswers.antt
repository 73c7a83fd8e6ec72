-- What is answered where a value is shown.
use Rattle.std.specs.Prelude.{◌≡◌, ◌++◌, ◌<◌, ◌≤◌, ℕ, List, length, Option, Some, None}
use Rattle.protojson_write.specs.declared.fault.ShowFault.{ShowFault}
use Rattle.protojson_write.specs.declared.fault.ShowFault.TheVariants.{Unprintable, TooLong, NoMemory}

-- the text is there, is within the limit, and stands behind what was there
abbrev pub IsShown : Option (List ℕ) → ℕ → List ℕ → List ℕ → Type 0
IsShown None limit old new = ⊥
IsShown (Some text) limit old new = (length text ≤ limit) × (new ≡ old ++ text)

-- the refusal is the one that the text wants: there is none, or it is longer than the limit, or memory was not found
abbrev pub IsRefusal : Option (List ℕ) → ℕ → ShowFault → Type 0
IsRefusal None limit Unprintable = Unit {0}
IsRefusal (Some text) limit TooLong = limit < length text
IsRefusal text limit NoMemory = Unit {0}
IsRefusal _ _ _ = ⊥

-- a write of these bytes, which are to end at `end` at most, may stop so
abbrev pub IsStop : ℕ → List ℕ → ShowFault → Type 0
IsStop end bytes TooLong = end < length bytes
IsStop end bytes NoMemory = Unit {0}
IsStop end bytes Unprintable = ⊥
