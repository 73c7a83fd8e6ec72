-- Lists in which nothing stands twice.
use Rattle.std.specs.Prelude.{◌≡◌, Bool, false, List, [], ◌∷◌}
use Rattle.std.specs.List.{AllByRecursion}

-- no item of a list is one of those behind it, by this test
abbrev pub AreApart : {A : Type 0} → (A → A → Bool) → List A → Type 0
AreApart same [] = Unit {0}
AreApart same (x ∷ xs) = AllByRecursion (λ y. same x y ≡ false) xs × AreApart same xs
