-- No two messages and enums of a lawful set have one name.
use Rattle.std.proofs.Common.{◌≡◌, ◌++◌, ℕ, false, List, [], ◌∷◌, map, ◌∙◌}
use Rattle.std.specs.List.{AllByRecursion, IsDistinct, flat_map}
use Rattle.std.specs.Str.{bytes_eq}
use Rattle.base.proofs.EachImageLemmas.{each_flat_weaker, each_mapped_weaker}
use Rattle.base.proofs.EachLemmas.{each_joined, each_of_flat, each_part}
use Rattle.base.proofs.TextLemmas.{bytes_eq_equiv}
use Rattle.descriptor_pool.specs.DeclaredNames.{Declaration, DeclaredEnum, DeclaredMessage, File, Message, Enum, Service, Extension}
use Rattle.descriptor_pool.specs.DeclaredTypes.{enum_in, message_in, types_in}
use Rattle.linked_types.specs.LinkedNames.{declared_names}
use Rattle.schema.specs.Apart.{AreApart}
use Rattle.set_faults.specs.LawfulSets.{full_name}

-- another name than this one
abbrev IsOther : List ℕ → List ℕ → Type 0
IsOther name other = bytes_eq name other ≡ false

abbrev messages_named : List Declaration → List (List ℕ)
messages_named ds = map (λ (m : DeclaredMessage). m.name) (flat_map message_in ds)

abbrev enums_named : List Declaration → List (List ℕ)
enums_named ds = map (λ (e : DeclaredEnum). e.name) (flat_map enum_in ds)

module _ (name : List ℕ) where
  free_message : (d : Declaration) → AllByRecursion (IsOther name) (full_name d)
      → AllByRecursion (λ (m : DeclaredMessage). bytes_eq name m.name ≡ false) (message_in d)
  free_message (File n) h = tt
  free_message (Message m) h = h
  free_message (Enum e) h = tt
  free_message (Service n) h = tt
  free_message (Extension n) h = tt

  free_enum : (d : Declaration) → AllByRecursion (IsOther name) (full_name d)
      → AllByRecursion (λ (e : DeclaredEnum). bytes_eq name e.name ≡ false) (enum_in d)
  free_enum (File n) h = tt
  free_enum (Message m) h = tt
  free_enum (Enum e) h = h
  free_enum (Service n) h = tt
  free_enum (Extension n) h = tt

  -- a name that is none of messages, enums and services is none of messages, and none of enums
  messages_free : (ds : List Declaration) → AllByRecursion (IsOther name) (flat_map full_name ds)
      → AllByRecursion (IsOther name) (messages_named ds)
  messages_free ds a =
      each_mapped_weaker (λ (m : DeclaredMessage). bytes_eq name m.name ≡ false) (λ q. bytes_eq name q ≡ false)
      (λ (m : DeclaredMessage). m.name) (λ m h. h) (flat_map message_in ds)
      (each_flat_weaker (λ d. AllByRecursion (IsOther name) (full_name d))
      (λ (m : DeclaredMessage). bytes_eq name m.name ≡ false) message_in free_message ds
      (each_of_flat full_name (λ q. bytes_eq name q ≡ false) ds a))

  enums_free : (ds : List Declaration) → AllByRecursion (IsOther name) (flat_map full_name ds)
      → AllByRecursion (IsOther name) (enums_named ds)
  enums_free ds a =
      each_mapped_weaker (λ (e : DeclaredEnum). bytes_eq name e.name ≡ false) (λ q. bytes_eq name q ≡ false)
      (λ (e : DeclaredEnum). e.name) (λ e h. h) (flat_map enum_in ds)
      (each_flat_weaker (λ d. AllByRecursion (IsOther name) (full_name d))
      (λ (e : DeclaredEnum). bytes_eq name e.name ≡ false) enum_in free_enum ds
      (each_of_flat full_name (λ q. bytes_eq name q ≡ false) ds a))

-- a name that is apart from those of two lists stands between them
put_between : (name : List ℕ) (xs ys : List (List ℕ)) → AreApart bytes_eq (xs ++ ys)
    → AllByRecursion (λ q. bytes_eq name q ≡ false) xs
    → AllByRecursion (λ q. bytes_eq name q ≡ false) ys → AreApart bytes_eq (xs ++ name ∷ ys)
put_between name [] ys a b c = (c, a)
put_between name (x ∷ xs) ys a b c =
    let own = each_part (λ q. bytes_eq x q ≡ false) xs ys a.0 in (
      each_joined (λ q. bytes_eq x q ≡ false) xs (name ∷ ys) own.0 (bytes_eq_equiv.symm x name ∙ b.0, own.1),
      put_between name xs ys a.1 b.1 c,
    )

-- the names of messages and enums are apart, where those of messages, enums and services are distinct
apart_names : (ds : List Declaration) → IsDistinct bytes_eq (flat_map full_name ds)
    → AreApart bytes_eq (messages_named ds ++ enums_named ds)
unfolding IsDistinct
apart_names [] a = tt
apart_names (File n ∷ ds) a = apart_names ds a
apart_names (Message m ∷ ds) a = (
  each_joined (λ q. bytes_eq m.name q ≡ false) (messages_named ds) (enums_named ds) (messages_free m.name ds a.0)
      (enums_free m.name ds a.0),
  apart_names ds a.1,
)
apart_names (Enum e ∷ ds) a =
    put_between e.name (messages_named ds) (enums_named ds) (apart_names ds a.1) (messages_free e.name ds a.0)
    (enums_free e.name ds a.0)
apart_names (Service n ∷ ds) a = apart_names ds a.1
apart_names (Extension n ∷ ds) a = apart_names ds a

-- so are those of the types of such a set
pub names_of_set_apart : (ds : List Declaration) → IsDistinct bytes_eq (flat_map full_name ds)
    → AreApart bytes_eq (declared_names (types_in ds))
names_of_set_apart ds h = apart_names ds h
