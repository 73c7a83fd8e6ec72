-- What reads do.
use Rattle.std.specs.Prelude.{◌≡◌, ◌≤◌, ◌<◌, ◌+◌, ◌++◌, ℕ, List, [], length, take, drop, Option, Some, None}
use Rattle.gate_world.specs.declared.source.Read.{Read}
use Rattle.gate_world.specs.declared.source.Read.TheVariants.{Bytes, End, Failed}

-- the number of bytes is within the piece, and not 0 where the piece is not empty
abbrev pub ReadsWithin : Read → List ℕ → Type 0
ReadsWithin (Bytes n) piece = (n ≤ length piece) × (0 < length piece → 0 < n)
ReadsWithin _ piece = Unit {0}

-- a file with these bytes is read from an offset on: `End` exactly at or past its end
abbrev pub ReadsAt : List ℕ → ℕ → Read → List ℕ → Type 0
ReadsAt file from (Bytes n) piece = (take n piece ≡ take n (drop from file)) × (from + n ≤ length file) × (0 < length piece → from < length file)
ReadsAt file from End piece = 0 < length piece → length file ≤ from
ReadsAt file from Failed piece = Unit {0}

-- bytes are taken from the front of what is left: `End` exactly where nothing is
abbrev pub Takes : List ℕ → List ℕ → Read → List ℕ → Type 0
Takes old new (Bytes n) piece = old ≡ take n piece ++ new
Takes old new End piece = (new ≡ old) × (0 < length piece → old ≡ [])
Takes old new Failed piece = new ≡ old

-- what is told stays told
abbrev pub TakesTold : Option (List ℕ) → Option (List ℕ) → Read → List ℕ → Type 0
TakesTold None new r piece = Unit {0}
TakesTold (Some old) None r piece = ⊥
TakesTold (Some old) (Some new) r piece = Takes old new r piece
