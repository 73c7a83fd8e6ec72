-- Lists whose items are those that a function gives for the items of another list.
use Rattle.std.proofs.Common.{◌≡◌, ℕ, zero, suc, List, [], ◌∷◌, Option, Some, None, IsSome, length, map, option_and_then, option_map, slice_get, refl, sym, ap, ◌∙◌}
use Rattle.std.specs.List.{AllByRecursion}
use Rattle.linked_types.specs.EachSome.{each_some}

-- what is given of each item has a property, where the item has one
pub all_given : {A B : Type 0} (f : A → Option B) (P : A → Type 0) (Q : B → Type 0) (xs : List A) (ys : List B)
    → map (λ y. Some y) ys ≡ map f xs → ((x : A) (y : B) → f x ≡ Some y → P x → Q y) → AllByRecursion P xs
    → AllByRecursion Q ys
all_given f P Q [] [] h each all = tt
all_given f P Q [] (y ∷ ys) h each all = absurd (cc h)
all_given f P Q (x ∷ xs) [] h each all = absurd (cc h)
all_given f P Q (x ∷ xs) (y ∷ ys) h each (p, all) = (each x y (cc h) p, all_given f P Q xs ys (cc h) each all)

-- what is given is what each item has
pub some_given : {A B : Type 0} (f : A → Option B) (xs : List A) (ys : List B) → map (λ y. Some y) ys ≡ map f xs
    → each_some f xs ≡ Some ys
some_given f [] [] h = refl
some_given f [] (y ∷ ys) h = absurd (cc h)
some_given f (x ∷ xs) [] h = absurd (cc h)
some_given f (x ∷ xs) (y ∷ ys) h =
    let given : f x ≡ Some y = cc h in
    let rest : map (λ y. Some y) ys ≡ map f xs = cc h in
    ap (λ o. option_and_then (λ z. option_map (λ zs. z ∷ zs) (each_some f xs)) o) given
    ∙ ap (λ o. option_map (λ zs. y ∷ zs) o) (some_given f xs ys rest)

-- as many are given as there are items
pub length_given : {A B : Type 0} (f : A → Option B) (xs : List A) (ys : List B) → map (λ y. Some y) ys ≡ map f xs
    → length ys ≡ length xs
length_given f [] [] h = refl
length_given f [] (y ∷ ys) h = absurd (cc h)
length_given f (x ∷ xs) [] h = absurd (cc h)
length_given f (x ∷ xs) (y ∷ ys) h =
    let rest : map (λ y. Some y) ys ≡ map f xs = cc h in
    ap suc (length_given f xs ys rest)

-- what is given of the item at an index stands at that index
pub given_at : {A B : Type 0} (f : A → Option B) (xs : List A) (ys : List B) → map (λ y. Some y) ys ≡ map f xs
    → (k : ℕ) (x : A) → slice_get xs k ≡ Some x → (y : B) × (slice_get ys k ≡ Some y) × (f x ≡ Some y)
given_at f [] [] h k x at = absurd (cc at)
given_at f [] (y ∷ ys) h k x at = absurd (cc h)
given_at f (z ∷ xs) [] h k x at = absurd (cc h)
given_at f (z ∷ xs) (y ∷ ys) h zero x at =
    let same : z ≡ x = cc at in
    let given : f z ≡ Some y = cc h in
    (y, refl, ap f (sym same) ∙ given)
given_at f (z ∷ xs) (y ∷ ys) h (suc k) x at = let rest : map (λ y. Some y) ys
    ≡ map f xs = cc h in given_at f xs ys rest k x at

-- where each item has something given, all of it is a list
pub all_there : {A B : Type 0} (f : A → Option B) (xs : List A) → AllByRecursion (λ x. IsSome (f x)) xs
    → (ys : List B) × (map (λ y. Some y) ys ≡ map f xs)
all_there f [] h = ([], refl)
all_there {B = B} f (x ∷ xs) (some, h) = pick (f x) refl some (all_there f xs h)
  where
    pick : (o : Option B) → f x ≡ o → IsSome o → (ys : List B) × (map (λ y. Some y) ys ≡ map f xs)
        → (ys : List B) × (map (λ y. Some y) ys ≡ map f (x ∷ xs))
    pick None e none rest = absurd (cc none)
    pick (Some y) e some rest = (
      y ∷ rest.0,
      ap (λ o. o ∷ map (λ y. Some y) rest.0) (sym e)
          ∙ ap (λ os. f x ∷ os) rest.1,
    )

-- what is given is one list
pub given_one : {A B : Type 0} (f : A → Option B) (xs : List A) (ys zs : List B) → map (λ y. Some y) ys ≡ map f xs
    → map (λ z. Some z) zs ≡ map f xs → ys ≡ zs
given_one {B = B} f xs ys zs h g = one (sym (some_given f xs ys h) ∙ some_given f xs zs g)
  where
    one : Some ys ≡ Some zs → ys ≡ zs
    one e = cc e
