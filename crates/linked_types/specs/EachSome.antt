-- The values of all items of a list, where each has one.
use Rattle.std.specs.Prelude.{List, [], ◌∷◌, Option, Some, option_map, option_and_then}

-- the values of items, in order; none where an item has none
abbrev pub each_some : {X Y : Type 0} → (X → Option Y) → List X → Option (List Y)
each_some f [] = Some []
each_some f (x ∷ xs) = option_and_then (λ y. option_map (λ ys. y ∷ ys) (each_some f xs)) (f x)
