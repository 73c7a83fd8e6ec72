-- What holds of each item of a list.
use Rattle.std.proofs.Common.{◌++◌, List, [], ◌∷◌, map}
use Rattle.std.specs.List.{AllByRecursion, flat_map}

-- what holds of any item holds of each
pub each_always : {X : Type 0} (P : X → Type 0) → ((x : X) → P x) → (xs : List X) → AllByRecursion P xs
each_always P h [] = tt
each_always P h (x ∷ xs) = (h x, each_always P h xs)

-- what follows from what holds of each item holds of each
pub each_weaker : {X : Type 0} (P Q : X → Type 0) → ((x : X) → P x → Q x) → (xs : List X) → AllByRecursion P xs → AllByRecursion Q xs
each_weaker P Q h [] a = tt
each_weaker P Q h (x ∷ xs) a = (h x a.0, each_weaker P Q h xs a.1)

-- two facts that hold of each item hold of it together
pub each_both : {X : Type 0} (P Q : X → Type 0) (xs : List X) → AllByRecursion P xs → AllByRecursion Q xs → AllByRecursion (λ x. P x × Q x) xs
each_both P Q [] a b = tt
each_both P Q (x ∷ xs) a b = ((a.0, b.0), each_both P Q xs a.1 b.1)

-- what holds of the image of each item holds of the images
pub each_mapped : {X Y : Type 0} (f : X → Y) (P : Y → Type 0) (xs : List X) → AllByRecursion (λ x. P (f x)) xs → AllByRecursion P (map f xs)
each_mapped f P [] a = tt
each_mapped f P (x ∷ xs) a = (a.0, each_mapped f P xs a.1)

-- what holds of the images holds of the image of each item
pub each_image : {X Y : Type 0} (f : X → Y) (P : Y → Type 0) (xs : List X) → AllByRecursion P (map f xs) → AllByRecursion (λ x. P (f x)) xs
each_image f P [] a = tt
each_image f P (x ∷ xs) a = (a.0, each_image f P xs a.1)

-- what holds of each item of two lists holds of those of the lists joined
pub each_joined : {X : Type 0} (P : X → Type 0) (xs ys : List X) → AllByRecursion P xs → AllByRecursion P ys → AllByRecursion P (xs ++ ys)
each_joined P [] ys a b = b
each_joined P (x ∷ xs) ys a b = (a.0, each_joined P xs ys a.1 b)

-- what holds of each item of joined lists holds of those of both
pub each_part : {X : Type 0} (P : X → Type 0) (xs ys : List X) → AllByRecursion P (xs ++ ys) → AllByRecursion P xs × AllByRecursion P ys
each_part P [] ys a = (tt, a)
each_part P (x ∷ xs) ys a = let rest = each_part P xs ys a.1 in ((a.0, rest.0), rest.1)

-- what holds of each item of the list of each holds of those of the lists joined
pub each_flat : {X Y : Type 0} (f : X → List Y) (P : Y → Type 0) (xs : List X) → AllByRecursion (λ x. AllByRecursion P (f x)) xs → AllByRecursion P (flat_map f xs)
each_flat f P [] a = tt
each_flat f P (x ∷ xs) a = each_joined P (f x) (flat_map f xs) a.0 (each_flat f P xs a.1)

-- what holds of each item of the lists of all joined holds of those of each
pub each_of_flat : {X Y : Type 0} (f : X → List Y) (P : Y → Type 0) (xs : List X) → AllByRecursion P (flat_map f xs) → AllByRecursion (λ x. AllByRecursion P (f x)) xs
each_of_flat f P [] a = tt
each_of_flat f P (x ∷ xs) a = let parts = each_part P (f x) (flat_map f xs) a in (parts.0, each_of_flat f P xs parts.1)
