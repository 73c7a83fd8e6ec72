-- No two types that are linked have one name, where no two of the set have.
use Rattle.std.proofs.Common.{◌≡◌, ◌≢◌, ◌++◌, ℕ, zero, suc, Bool, false, List, [], ◌∷◌, map, nat_eq, Option, Some, None, option_map, refl, sym, ap, subst, ◌∙◌, slice_get, option_to_list}
use Rattle.std.proofs.lemmas.Bool.{both_ways, eq-eqb}
use Rattle.std.proofs.lemmas.Option.{slice_get-map}
use Rattle.std.specs.List.{AllByRecursion, AllZip, IsDistinct, flat_map}
use Rattle.std.specs.Str.{bytes_eq}
use Rattle.base.proofs.EachImageLemmas.{each_flat_weaker, each_option}
use Rattle.base.proofs.EachLemmas.{each_joined, each_part, each_weaker}
use Rattle.base.proofs.TextLemmas.{bytes_eq_equiv}
use Rattle.descriptor_pool.specs.DeclaredNames.{DeclaredEnum, DeclaredMessage}
use Rattle.descriptor_pool.specs.DeclaredTypes.{SetTypes}
use Rattle.descriptor_pool.specs.ReachableTypes.{Joined, messages_of, reachable, reached_enums}
use Rattle.descriptor_pool.specs.ReachedClosure.{IsReachClosed}
use Rattle.descriptor_pool.specs.SetMethods.{BoundMethod}
use Rattle.linked_types.specs.LinkedNames.{declared_names, type_names}
use Rattle.linked_types.specs.LinkedTypes.{linked_enum, linked_enum_at, linked_item, linked_types}
use Rattle.linked_types.proofs.EachSomeLemmas.{option_map_some}
use Rattle.linked_types.proofs.LinkedParts.{enum_place, item_parts, message_place, types_parts}
use Rattle.message_types.specs.declared.enums.EnumType.{EnumType}
use Rattle.message_types.specs.declared.messages.MessageType.{MessageType}
use Rattle.message_types.specs.declared.messages.Types.{Types}
use Rattle.schema.specs.Apart.{AreApart}

-- the items of a list at some indexes
abbrev picked : {X : Type 0} → List X → List ℕ → List X
picked xs is = flat_map (λ i. option_to_list (slice_get xs i)) is

at_index : {X : Type 0} (P : X → Type 0) (xs : List X) (i : ℕ) (x : X) → AllByRecursion P xs → slice_get xs i ≡ Some x
    → P x
at_index P [] i x a h = absurd (cc h)
at_index P (y ∷ ys) zero x a h = let same : y ≡ x = cc h in subst P same a.0
at_index P (y ∷ ys) (suc i) x a h = at_index P ys i x a.1 h

-- what holds of each item holds of those that are picked
each_picked : {X : Type 0} (P : X → Type 0) (xs : List X) → AllByRecursion P xs → (is : List ℕ)
    → AllByRecursion P (picked xs is)
each_picked P xs a [] = tt
each_picked P xs a (i ∷ is) =
    each_joined P (option_to_list (slice_get xs i)) (picked xs is)
    (each_option P (slice_get xs i) (λ x h. at_index P xs i x a h)) (each_picked P xs a is)

module _ {X : Type 0} (same : X → X → Bool) (turned : (x y : X) → same x y ≡ same y x) where
  -- items at two indexes are apart
  apart_at : (xs : List X) → AreApart same xs → (i k : ℕ) → i ≢ k → (x y : X) → slice_get xs i ≡ Some x
      → slice_get xs k ≡ Some y → same x y ≡ false
  apart_at [] a i k n x y h g = absurd (cc h)
  apart_at (z ∷ zs) a zero zero n x y h g = absurd (n refl)
  apart_at (z ∷ zs) a zero (suc k) n x y h g = let first : z ≡ x = cc h in
      subst (λ w. same w y ≡ false) first (at_index (λ w. same z w ≡ false) zs k y a.0 g)
  apart_at (z ∷ zs) a (suc i) zero n x y h g = let first : z ≡ y = cc g in
      turned x y ∙ subst (λ w. same w x ≡ false) first (at_index (λ w. same z w ≡ false) zs i x a.0 h)
  apart_at (z ∷ zs) a (suc i) (suc k) n x y h g = apart_at zs a.1 i k (λ e. n (ap suc e)) x y h g

  differ : (i k : ℕ) → nat_eq i k ≡ false → i ≢ k
  differ i k h e = both_ways (nat_eq i k) h (eq-eqb i k e)

  -- what is picked at distinct indexes is apart
  apart_picked : (xs : List X) → AreApart same xs → (is : List ℕ) → IsDistinct nat_eq is → AreApart same (picked xs is)
  unfolding IsDistinct
  apart_picked xs a [] d = tt
  apart_picked xs a (i ∷ is) d = pick (slice_get xs i) refl (apart_picked xs a is d.1)
    where
      pick : (o : Option X) → slice_get xs i ≡ o → AreApart same (picked xs is)
          → AreApart same (option_to_list o ++ picked xs is)
      pick None h rest = rest
      pick (Some x) h rest = (
        each_flat_weaker (λ k. nat_eq i k ≡ false) (λ y. same x y ≡ false) (λ k. option_to_list (slice_get xs k))
            (λ k n. each_option (λ y. same x y ≡ false) (slice_get xs k)
            (λ y g. apart_at xs a i k (differ i k n) x y h g)) is d.0,
        rest,
      )

  -- two lists that are apart, and whose items are, are apart joined
  apart_joined : (xs ys : List X) → AreApart same xs → AreApart same ys
      → AllByRecursion (λ x. AllByRecursion (λ y. same x y ≡ false) ys) xs → AreApart same (xs ++ ys)
  apart_joined [] ys a b c = b
  apart_joined (x ∷ xs) ys a b c = (each_joined (λ y. same x y ≡ false) xs ys a.0 c.0, apart_joined xs ys a.1 b c.1)

  apart_first : (xs ys : List X) → AreApart same (xs ++ ys) → AreApart same xs
  apart_first [] ys a = tt
  apart_first (x ∷ xs) ys a = ((each_part (λ y. same x y ≡ false) xs ys a.0).0, apart_first xs ys a.1)

  apart_second : (xs ys : List X) → AreApart same (xs ++ ys) → AreApart same ys
  apart_second [] ys a = a
  apart_second (x ∷ xs) ys a = apart_second xs ys a.1

  apart_across : (xs ys : List X) → AreApart same (xs ++ ys)
      → AllByRecursion (λ x. AllByRecursion (λ y. same x y ≡ false) ys) xs
  apart_across [] ys a = tt
  apart_across (x ∷ xs) ys a = ((each_part (λ y. same x y ≡ false) xs ys a.0).1, apart_across xs ys a.1)

  -- what is picked of two lists that are apart joined is apart joined
  pub apart_both : (xs ys : List X) → AreApart same (xs ++ ys) → (is ks : List ℕ) → IsDistinct nat_eq is
      → IsDistinct nat_eq ks → AreApart same (picked xs is ++ picked ys ks)
  apart_both xs ys a is ks d e =
      apart_joined (picked xs is) (picked ys ks) (apart_picked xs (apart_first xs ys a) is d)
      (apart_picked ys (apart_second xs ys a) ks e)
      (each_picked (λ x. AllByRecursion (λ y. same x y ≡ false) (picked ys ks)) xs
      (each_weaker (λ x. AllByRecursion (λ y. same x y ≡ false) ys)
      (λ x. AllByRecursion (λ y. same x y ≡ false) (picked ys ks))
      (λ x b. each_picked (λ y. same x y ≡ false) ys b ks) xs (apart_across xs ys a)) is)

module _ (types : SetTypes) where
  -- the names of linked messages are those of the set at their indexes
  message_names : (message enum : ℕ → Option ℕ) (js : List Joined) (linked : List MessageType)
      → AllZip (λ j m. linked_item types message enum j ≡ Some m) js linked
      → map (λ (m : MessageType). m.name) linked ≡ picked (map (λ (m : DeclaredMessage). m.name) types.messages)
      (messages_of js)
  message_names message enum [] [] a = refl
  message_names message enum [] (m ∷ linked) a = absurd a
  message_names message enum (j ∷ js) [] a = absurd a
  message_names message enum (j ∷ js) (m ∷ linked) a =
      let item = item_parts types message enum j m a.0 in
      let at : slice_get (map (λ (z : DeclaredMessage). z.name) types.messages) j.message ≡ Some m.name =
      slice_get-map (λ (z : DeclaredMessage). z.name) types.messages j.message
      ∙ ap (option_map (λ (z : DeclaredMessage). z.name)) item.declared_is ∙ ap (λ z. Some z) (sym item.name) in
      ap (λ z. m.name ∷ z) (message_names message enum js linked a.1)
      ∙ ap (λ o. option_to_list o ++ picked (map (λ (z : DeclaredMessage). z.name) types.messages) (messages_of js))
      (sym at)

  -- and so are those of linked enums
  enum_names : (is : List ℕ) (linked : List EnumType) → AllZip (λ i e. linked_enum_at types i ≡ Some e) is linked
      → map (λ (e : EnumType). e.name) linked ≡ picked (map (λ (e : DeclaredEnum). e.name) types.enums) is
  enum_names [] [] a = refl
  enum_names [] (e ∷ linked) a = absurd a
  enum_names (i ∷ is) [] a = absurd a
  enum_names (i ∷ is) (e ∷ linked) a =
      let at : slice_get (map (λ (z : DeclaredEnum). z.name) types.enums) i ≡ Some e.name =
      option_map_some linked_enum (slice_get types.enums i) e a.0
      (λ d h same. slice_get-map (λ (z : DeclaredEnum). z.name) types.enums i
      ∙ ap (option_map (λ (z : DeclaredEnum). z.name)) h ∙ ap (λ (z : EnumType). Some z.name) same) in
      ap (λ z. e.name ∷ z) (enum_names is linked a.1)
      ∙ ap (λ o. option_to_list o ++ picked (map (λ (z : DeclaredEnum). z.name) types.enums) is) (sym at)

  -- the names of what is linked are apart, where those of the set are
  pub names_apart : (ms : List BoundMethod) (t : Types) → IsReachClosed types ms
      → AreApart bytes_eq (declared_names types)
      → linked_types types (reachable types ms) ≡ Some t → AreApart bytes_eq (type_names t)
  names_apart ms t closed a linked =
      let js = reachable types ms in
      let is = reached_enums types js in
      let parts = types_parts types js t linked in
      let messages = message_names (message_place js) (enum_place types js) js t.messages parts.messages in
      let enums = enum_names is t.enums parts.enums in
      let both = apart_both bytes_eq bytes_eq_equiv.symm (map (λ (m : DeclaredMessage). m.name) types.messages)
      (map (λ (e : DeclaredEnum). e.name) types.enums) a
      (messages_of js) is closed.messages_once
      closed.enums_once in
      subst (λ z. AreApart bytes_eq (z ++ map (λ (e : EnumType). e.name) t.enums)) (sym messages)
      (subst (λ z. AreApart bytes_eq (picked (map (λ (m : DeclaredMessage). m.name) types.messages) (messages_of js)
      ++ z)) (sym enums) both)
