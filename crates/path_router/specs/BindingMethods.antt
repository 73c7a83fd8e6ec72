-- The HTTP methods of bindings, in the order of their bytes.
use Rattle.std.specs.Prelude.{◌≡◌, ℕ, List, [], ◌∷◌, fold, map, slice_get, Some}
use Rattle.std.specs.Cmp.Lexicographic.{slice_cmp}
use Rattle.std.specs.List.{AllByRecursion}
use Rattle.std.specs.Ordering.{nat_cmp, match_ordering}
use Rattle.std.specs.declared.cmp.Ordering.TheVariants.{Less}
use Rattle.http_rules.specs.declared.template.Binding.{Binding}

-- each text is below those behind it
abbrev pub AreRising : List (List ℕ) → Type 0
AreRising [] = Unit {0}
AreRising (m ∷ ms) = AllByRecursion (λ n. slice_cmp nat_cmp m n ≡ Less) ms × AreRising ms

-- a method among others in the order of their bytes, once
abbrev pub with_method : List (List ℕ) → List ℕ → List (List ℕ)
with_method [] m = m ∷ []
with_method (n ∷ ns) m = match_ordering (slice_cmp nat_cmp m n) (m ∷ n ∷ ns) (n ∷ ns) (n ∷ with_method ns m)

-- the methods of all bindings, each once, in the order of their bytes
abbrev pub methods_of : List Binding → List (List ℕ)
methods_of bindings = fold (λ ms b. with_method ms b.method) [] bindings

-- the numbers of the bindings' methods among these
abbrev pub AreNumbersOf : List (List ℕ) → List Binding → List ℕ → Type 0
AreNumbersOf methods bindings numbers =
    map (λ n. slice_get methods n) numbers ≡ map (λ (b : Binding). Some b.method) bindings
