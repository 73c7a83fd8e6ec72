-- The scope around a name, where it is not empty.
use denote.Ref.{Bor}
use Rattle.std.specs.Prelude.{◌<◌, ℕ, List, [], ◌∷◌, length, reverse, Option, Some, None}
use Rattle.std.specs.Option.{IfSome}

-- the full name of the scope; empty where there is none
abbrev pub scope_text : Option (Bor (List ℕ)) → List ℕ
scope_text None = []
scope_text (Some scope) = scope.now

-- a scope that is named is not empty
abbrev pub IsAround : Option (Bor (List ℕ)) → Type 0
IsAround o = IfSome o (λ (scope : Bor (List ℕ)). 0 < length scope.now)

-- what stands before a name, from its last byte on: the dot and the scope
abbrev pub behind : Option (Bor (List ℕ)) → List ℕ
behind None = []
behind (Some scope) = 46 ∷ reverse scope.now
