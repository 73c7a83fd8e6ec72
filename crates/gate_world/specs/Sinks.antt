-- What writes do.
use Rattle.std.specs.Prelude.{◌≡◌, ◌≤◌, ◌<◌, ◌++◌, ℕ, List, length, take, Option, Some, None}
use Rattle.gate_world.specs.declared.sink.Wrote.{Wrote}
use Rattle.gate_world.specs.declared.sink.Wrote.TheVariants.{Taken, Failed}

-- the number of bytes is within the piece, and not 0 where the piece is not empty
abbrev pub WritesWithin : Wrote → List ℕ → Type 0
WritesWithin (Taken n) piece = (n ≤ length piece) × (0 < length piece → 0 < n)
WritesWithin Failed piece = Unit {0}

-- what was written with the bytes that were taken at its end
abbrev pub written_after : Wrote → List ℕ → List ℕ → List ℕ
written_after (Taken n) old piece = old ++ take n piece
written_after Failed old piece = old

-- what was told stays told
abbrev pub AddsTold : Option (List ℕ) → Option (List ℕ) → Wrote → List ℕ → Type 0
AddsTold None new w piece = Unit {0}
AddsTold (Some old) new w piece = new ≡ Some (written_after w old piece)

-- what was written grew by these bytes, where it is told
abbrev pub Gains : Option (List ℕ) → Option (List ℕ) → List ℕ → Type 0
Gains None new bytes = Unit {0}
Gains (Some old) new bytes = new ≡ Some (old ++ bytes)

-- what was written grew by a prefix of these bytes, where it is told
abbrev pub GainsPrefix : Option (List ℕ) → Option (List ℕ) → List ℕ → Type 0
GainsPrefix old new bytes = (n : ℕ) × (n ≤ length bytes) × Gains old new (take n bytes)

-- what was written grew by a prefix of these bytes that is not all of them, where it is told
abbrev pub GainsPart : Option (List ℕ) → Option (List ℕ) → List ℕ → Type 0
GainsPart old new bytes = (n : ℕ) × (n < length bytes) × Gains old new (take n bytes)
