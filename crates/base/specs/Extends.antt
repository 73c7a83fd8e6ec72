-- What a write that memory cut short leaves.
use Rattle.std.specs.Prelude.{◌≡◌, ◌++◌, List}

-- the new list begins with the old one
abbrev pub Extends : {X : Type 0} → List X → List X → Type 0
Extends {X} old new = (more : List X) × (new ≡ old ++ more)
