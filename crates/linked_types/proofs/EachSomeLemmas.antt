-- The values of all items of a list, where each has one.
use Rattle.std.proofs.Common.{◌≡◌, ℕ, zero, suc, List, [], ◌∷◌, Option, Some, None, IsSome, option_map, option_and_then, refl, subst, slice_get}
use Rattle.std.proofs.lemmas.Option.{option_and_then_some, same_Some}
use Rattle.std.specs.List.{AllByRecursion, AllZip}
use Rattle.linked_types.specs.EachSome.{each_some}

-- an image that is there is one of a value that is there
pub option_map_some : {A B P : Type 0} (f : A → B) (o : Option A) (y : B) → option_map f o ≡ Some y
    → ((x : A) → o ≡ Some x → f x ≡ y → P) → P
option_map_some f None y h k = absurd (cc h)
option_map_some f (Some x) y h k = k x refl (same_Some (f x) y h)

-- the values are those of the items, place by place
pub all_zip : {X Y : Type 0} (f : X → Option Y) (xs : List X) (ys : List Y) → each_some f xs ≡ Some ys
    → AllZip (λ x y. f x ≡ Some y) xs ys
all_zip f [] [] h = tt
all_zip f [] (y ∷ ys) h = absurd (cc h)
all_zip f (x ∷ xs) ys h =
    option_and_then_some (λ z. option_map (λ zs. z ∷ zs) (each_some f xs)) (f x) ys h
    (λ z e g. option_map_some (λ zs. z ∷ zs) (each_some f xs) ys g
    (λ zs k same. subst (λ l. AllZip (λ v w. f v ≡ Some w) (x ∷ xs) l) same (e, all_zip f xs zs k)))

-- where each item has a value there are all
pub all_some : {X Y : Type 0} (f : X → Option Y) (xs : List X) → AllByRecursion (λ x. IsSome (f x)) xs
    → IsSome (each_some f xs)
all_some f [] a = refl
all_some {X = X} {Y = Y} f (x ∷ xs) a = pick (f x) (each_some f xs) a.0 (all_some f xs a.1)
  where
    pick : (o : Option Y) (p : Option (List Y)) → IsSome o → IsSome p
        → IsSome (option_and_then (λ y. option_map (λ ys. y ∷ ys) p) o)
    pick None p h g = absurd (cc h)
    pick (Some y) None h g = absurd (cc g)
    pick (Some y) (Some ys) h g = refl

-- where an item stands in one of two lists one stands in the other
pub zip_at : {X Y : Type 0} (R : X → Y → Type 0) (xs : List X) (ys : List Y) → AllZip R xs ys → (i : ℕ) (x : X)
    → slice_get xs i ≡ Some x
    → (y : Y) × (slice_get ys i ≡ Some y) × R x y
zip_at R [] ys a i x h = absurd (cc h)
zip_at R (x ∷ xs) [] a i z h = absurd a
zip_at R (x ∷ xs) (y ∷ ys) a zero z h = (y, refl, subst (λ w. R w y) (same_Some x z h) a.0)
zip_at R (x ∷ xs) (y ∷ ys) a (suc i) z h = zip_at R xs ys a.1 i z h

-- what follows of each item of one list from what holds of that of another holds of each
pub each_zip : {X Y : Type 0} (R : X → Y → Type 0) (P : X → Type 0) (Q : Y → Type 0)
    → ((x : X) (y : Y) → R x y → P x → Q y)
    → (xs : List X) (ys : List Y) → AllZip R xs ys → AllByRecursion P xs → AllByRecursion Q ys
each_zip R P Q f [] [] a p = tt
each_zip R P Q f [] (y ∷ ys) a p = absurd a
each_zip R P Q f (x ∷ xs) [] a p = tt
each_zip R P Q f (x ∷ xs) (y ∷ ys) a p = (f x y a.0 p.0, each_zip R P Q f xs ys a.1 p.1)

-- the value that is there
pub some_value : {X : Type 0} (o : Option X) → IsSome o → (x : X) × (o ≡ Some x)
some_value None h = absurd (cc h)
some_value (Some x) h = (x, refl)

-- what follows place by place from what holds place by place
pub zip_weaker : {X Y : Type 0} (R S : X → Y → Type 0) → ((x : X) (y : Y) → R x y → S x y)
    → (xs : List X) (ys : List Y) → AllZip R xs ys → AllZip S xs ys
zip_weaker R S f [] [] a = tt
zip_weaker R S f [] (y ∷ ys) a = a
zip_weaker R S f (x ∷ xs) [] a = a
zip_weaker R S f (x ∷ xs) (y ∷ ys) a = (f x y a.0, zip_weaker R S f xs ys a.1)
