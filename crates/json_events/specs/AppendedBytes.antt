-- Bytes that are put behind others.
use Rattle.std.specs.Prelude.{◌≡◌, ◌++◌, ℕ, List}

-- the new bytes are the old ones and bytes of which the fact holds
abbrev pub Appends : (List ℕ → Type 0) → List ℕ → List ℕ → Type 0
Appends P old new = (more : List ℕ) × (new ≡ old ++ more) × P more
