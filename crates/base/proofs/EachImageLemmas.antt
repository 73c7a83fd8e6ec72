-- What holds of what is made of each item of a list: of those that fit, of one or none, of images and of lists joined.
use Rattle.std.proofs.Common.{◌≡◌, List, [], ◌∷◌, map, Option, Some, None, refl}
use Rattle.std.specs.List.{AllByRecursion, cons_option, flat_map, filter_map}
use Rattle.std.specs.Option.{option_to_list}
use Rattle.base.proofs.EachLemmas.{each_weaker, each_mapped, each_flat}

-- what holds of all that the items that fit give holds of each of that
pub each_filtered : {X Y : Type 0} (P : X → Type 0) (Q : Y → Type 0) (f : X → Option Y) → ((x : X) (y : Y) → P x → f x ≡ Some y → Q y) → (xs : List X) → AllByRecursion P xs → AllByRecursion Q (filter_map f xs)
each_filtered P Q f each [] h = tt
each_filtered {X = X} {Y = Y} P Q f each (x ∷ xs) h = by (f x) refl (each_filtered P Q f each xs h.1)
  where
    by : (o : Option Y) → f x ≡ o → AllByRecursion Q (filter_map f xs) → AllByRecursion Q (cons_option o (filter_map f xs))
    by None e g = g
    by (Some y) e g = (each x y h.0 e, g)

-- what holds of a value that may be there holds of each of the list of it
pub each_option : {X : Type 0} (P : X → Type 0) (o : Option X) → ((x : X) → o ≡ Some x → P x) → AllByRecursion P (option_to_list o)
each_option P None each = tt
each_option P (Some x) each = (each x refl, tt)

-- what follows of the image of an item from what holds of the item holds of each image
pub each_mapped_weaker : {X Y : Type 0} (P : X → Type 0) (Q : Y → Type 0) (f : X → Y) → ((x : X) → P x → Q (f x)) → (xs : List X) → AllByRecursion P xs → AllByRecursion Q (map f xs)
each_mapped_weaker P Q f each xs h = each_mapped f Q xs (each_weaker P (λ x. Q (f x)) each xs h)

-- what follows of the list of an item from what holds of the item holds of each of the lists joined
pub each_flat_weaker : {X Y : Type 0} (P : X → Type 0) (Q : Y → Type 0) (f : X → List Y) → ((x : X) → P x → AllByRecursion Q (f x)) → (xs : List X) → AllByRecursion P xs → AllByRecursion Q (flat_map f xs)
each_flat_weaker P Q f each xs h = each_flat f Q xs (each_weaker P (λ x. AllByRecursion Q (f x)) each xs h)
