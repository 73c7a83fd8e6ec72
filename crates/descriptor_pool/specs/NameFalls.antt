-- A scope is shorter than the names in it.
use denote.Ref.{Bor}
use Rattle.std.specs.Prelude.{◌<◌, ◌≤◌, ◌+◌, ℕ, List, [], ◌∷◌, length, Option, Some, None}
use Rattle.std.proofs.Common.{arith, length-append}
use Rattle.descriptor_pool.specs.DeclaredNames.{in_scope}
use Rattle.descriptor_pool.specs.NameScopes.{IsAround, scope_text}
use Rattle.descriptor_pool.specs.declared.full_name.FullName.TheInside.{Inside}
use Rattle.descriptor_pool.specs.declared.full_name.FullName.TheDeep.{deep-FullName}

-- a name in a scope is longer than that scope
longer : (scope name : List ℕ) → 0 < length scope → length scope + 1 ≤ length (in_scope scope name)
longer [] name h = omega (arith, h)
longer (b ∷ bs) name h = omega (arith, length-append (b ∷ bs) (46 ∷ name))

-- the scope around a name is shorter than the full name
shorter : (o : Option (Bor (List ℕ))) (n : Bor (List ℕ)) → IsAround o
    → deep-FullName (record { around = o; name = n }) ≤ length (in_scope (scope_text o) n.now)
shorter None n h = omega arith
shorter (Some scope) n h = omega (arith, longer scope.now n.now h)

-- the measure of full names falls from a name to its scope
pub scopes_are_shorter : (a : Inside) → IsAround a.around
    → deep-FullName a ≤ length (in_scope (scope_text a.around) a.name.now)
scopes_are_shorter a h = shorter a.around a.name h
