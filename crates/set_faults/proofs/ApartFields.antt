-- No two fields without faults have one number or share a key.
use Rattle.std.proofs.Common.{◌≡◌, ◌++◌, ◌||◌, ℕ, ℤ, Bool, true, false, List, [], ◌∷◌, map, refl, subst, ◌∙◌}
use Rattle.std.proofs.lemmas.Bool.{both_ways, or_from, or_left, or_right}
use Rattle.std.proofs.lemmas.Bool.Decides.{Decides-int_eq}
use Rattle.std.proofs.lemmas.List.Folds.{list_any-append}
use Rattle.std.proofs.lemmas.Slice.Eq.{bytes_eq-Decides}
use Rattle.std.specs.List.{AllByRecursion, IsDistinct, list_any}
use Rattle.std.specs.Bool.{Decides}
use Rattle.std.specs.Ordering.{int_eq}
use Rattle.std.specs.Str.{bytes_eq}
use Rattle.descriptors.specs.declared.file_set.FieldInfo.{FieldInfo}
use Rattle.descriptor_pool.specs.DeclaredNames.{DeclaredMessage}
use Rattle.descriptor_pool.specs.DeclaredTypes.{SetTypes}
use Rattle.descriptor_pool.specs.JsonFieldNames.{json_of}
use Rattle.set_faults.specs.KeySteps.{keys_of}
use Rattle.set_faults.specs.LawfulSets.{shares_key}
use Rattle.set_faults.specs.MessageFaults.{field_faults, fields_faults, json_faults, key_fault}
use Rattle.set_faults.specs.declared.fault.LinkFault.TheVariants.{At}
use Rattle.set_faults.specs.declared.fault.LinkKind.TheVariants.{SameJsonName}
use Rattle.set_faults.proofs.LawfulFields.{field_lawful}
use Rattle.set_faults.proofs.Theorems.{none_parts, test_fails}

module _ {K : Type 0} (same : K → K → Bool) (tied : (a b : K) → Decides (same a b) (a ≡ b)) where
  -- an item of a list is not one that is none of its items
  other : (k q : K) (ks : List K) → list_any (same k) ks ≡ true → list_any (same q) ks ≡ false → same k q ≡ false
  other k q ks h g = pick (same k q) refl
    where
      pick : (b : Bool) → same k q ≡ b → b ≡ false
      pick false e = refl
      pick true e =
          let here = subst (λ z. list_any (same z) ks ≡ true) ((tied k q).0 e) h in
          absurd (both_ways (list_any (same q) ks) g here)

  -- an item of a list is one of a longer list
  stays : (k : K) (ks more : List K) → list_any (same k) ks ≡ true → list_any (same k) (ks ++ more) ≡ true
  stays k ks more h = list_any-append (same k) ks more ∙ or_left (list_any (same k) ks) (list_any (same k) more) h

  comes : (k : K) (ks more : List K) → list_any (same k) more ≡ true → list_any (same k) (ks ++ more) ≡ true
  comes k ks more h = list_any-append (same k) ks more ∙ or_right (list_any (same k) ks) (list_any (same k) more) h

  -- an item is the first and the second of a list that begins with it
  first_is : (k : K) (ks : List K) → list_any (same k) (k ∷ ks) ≡ true
  first_is k ks = or_left (same k k) (list_any (same k) ks) ((tied k k).1 refl)

  second_is : (k q : K) (ks : List K) → list_any (same k) (q ∷ k ∷ ks) ≡ true
  second_is k q ks = or_right (same k q) (list_any (same k) (k ∷ ks)) (first_is k ks)

module _ (types : SetTypes) (path : List ℕ) (m : DeclaredMessage) where
  abbrev numbers : List FieldInfo → List ℤ
  numbers fs = map (λ (f : FieldInfo). f.number) fs

  abbrev Faultless : List ℤ → List FieldInfo → Type 0
  Faultless before fs = fields_faults types path m before fs ≡ []

  none_again : (z : ℤ) (before : List ℤ) (fs : List FieldInfo) → list_any (int_eq z) before ≡ true → Faultless before fs
      → AllByRecursion (λ y. int_eq z y ≡ false) (numbers fs)
  none_again z before [] e h = tt
  none_again z before (f ∷ fs) e h =
      let came = list_any (int_eq f.number) before in
      let later = before ++ f.number ∷ [] in
      let parts = none_parts (field_faults types path m came f) (fields_faults types path m later fs) h in
      let new = (field_lawful types path m came f parts.0).1 in (
        other int_eq Decides-int_eq z f.number before e new,
        none_again z later fs (stays int_eq Decides-int_eq z before (f.number ∷ []) e) parts.1,
      )

  -- the numbers of fields without faults are distinct
  pub numbers_distinct : (before : List ℤ) (fs : List FieldInfo) → Faultless before fs → IsDistinct int_eq (numbers fs)
  unfolding IsDistinct
  numbers_distinct before [] h = tt
  numbers_distinct before (f ∷ fs) h =
      let came = list_any (int_eq f.number) before in
      let later = before ++ f.number ∷ [] in
      let rest = (none_parts (field_faults types path m came f) (fields_faults types path m later fs) h).1 in
      let one = first_is int_eq Decides-int_eq f.number [] in
      let own = comes int_eq Decides-int_eq f.number before (f.number ∷ []) one in
      (none_again f.number later fs own rest, numbers_distinct later fs rest)

-- a text is one of these
abbrev is_in : List (List ℕ) → List ℕ → Bool
is_in ks k = list_any (bytes_eq k) ks

-- a key is not that of a field whose keys are others
no_key : (k : List ℕ) (g : FieldInfo) (ks : List (List ℕ)) → is_in ks k ≡ true → is_in ks g.name ≡ false
    → is_in ks (json_of g) ≡ false → is_in (keys_of g) k ≡ false
no_key k g ks h name json =
    or_from (bytes_eq k g.name) (is_in (json_of g ∷ []) k) (other bytes_eq bytes_eq-Decides k g.name ks h name)
    (or_from (bytes_eq k (json_of g)) false (other bytes_eq bytes_eq-Decides k (json_of g) ks h json) refl)

module _ (m : DeclaredMessage) where
  -- a field without a fault of its keys has keys that did not come before, and so has what follows
  new_keys : (before : List (List ℕ)) (g : FieldInfo) (fs : List FieldInfo) → json_faults m before (g ∷ fs) ≡ []
      → (is_in before g.name ≡ false) × (is_in before (json_of g) ≡ false)
      × (json_faults m (before ++ keys_of g) fs ≡ [])
  new_keys before g fs h =
      let first = none_parts (key_fault m before g.name) _ h in
      let second = none_parts (key_fault m before (json_of g)) (json_faults m (before ++ keys_of g) fs) first.1 in (
        test_fails (is_in before g.name) (At SameJsonName m.name g.name) first.0,
        test_fails (is_in before (json_of g)) (At SameJsonName m.name (json_of g)) second.0,
        second.1,
      )

  none_shares : (f : FieldInfo) (before : List (List ℕ)) (fs : List FieldInfo) → is_in before f.name ≡ true
      → is_in before (json_of f) ≡ true → json_faults m before fs ≡ [] → AllByRecursion (λ g. shares_key f g ≡ false) fs
  none_shares f before [] a b h = tt
  none_shares f before (g ∷ fs) a b h =
      let new = new_keys before g fs h in
      let name = no_key f.name g before a new.0 new.1 in
      let json = no_key (json_of f) g before b new.0 new.1 in
      let second = is_in (keys_of g) (json_of f) in
      let kept = λ (k : List ℕ) (e : is_in before k ≡ true). stays bytes_eq bytes_eq-Decides k before (keys_of g) e in (
        or_from (is_in (keys_of g) f.name) (second || false) name (or_from second false json refl),
        none_shares f (before ++ keys_of g) fs (kept f.name a) (kept (json_of f) b) new.2,
      )

  -- no two fields without faults share a key
  pub keys_distinct : (before : List (List ℕ)) (fs : List FieldInfo) → json_faults m before fs ≡ []
      → IsDistinct shares_key fs
  unfolding IsDistinct
  keys_distinct before [] h = tt
  keys_distinct before (f ∷ fs) h =
      let rest = (new_keys before f fs h).2 in
      let own = λ (k : List ℕ) (e : is_in (keys_of f) k ≡ true).
      comes bytes_eq bytes_eq-Decides k before (keys_of f) e in
      let name = own f.name (first_is bytes_eq bytes_eq-Decides f.name (json_of f ∷ [])) in
      let json = own (json_of f) (second_is bytes_eq bytes_eq-Decides (json_of f) f.name []) in
      (none_shares f (before ++ keys_of f) fs name json rest, keys_distinct (before ++ keys_of f) fs rest)
