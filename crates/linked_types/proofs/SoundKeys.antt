-- The numbers and the keys of linked fields are apart where those of the declared ones are.
use Rattle.std.proofs.Common.{◌≡◌, ◌||◌, ℕ, pos, Bool, true, false, List, [], ◌∷◌, map, nat_eq, refl, ap, subst, ◌∙◌}
use Rattle.std.proofs.lemmas.Bool.{both_ways, eqb-true}
use Rattle.std.proofs.lemmas.Bool.Decides.{Decides-int_eq}
use Rattle.std.specs.List.{AllByRecursion, AllZip}
use Rattle.std.specs.Ordering.{int_eq}
use Rattle.std.specs.Str.{bytes_eq}
use Rattle.descriptors.specs.declared.file_set.FieldInfo.{FieldInfo}
use Rattle.descriptor_pool.specs.JsonFieldNames.{json_of}
use Rattle.linked_types.specs.LinkableTypes.{share_name}
use Rattle.schema.specs.Apart.{AreApart}
use Rattle.schema.specs.Soundness.{AreKeysApart, AreNumbersApart, share_key}
use Rattle.message_types.specs.declared.fields.Field.{Field}

-- a linked field has the names and the number of a declaration
pub record HasKeys (f : FieldInfo) (g : Field) : Type 0 where
  pub name : g.name ≡ f.name
  pub json : g.json ≡ json_of f
  pub number : f.number ≡ pos g.number

-- numbers that differ as integers differ
other_number : (a b : ℕ) → int_eq (pos a) (pos b) ≡ false → nat_eq a b ≡ false
other_number a b h = pick (nat_eq a b) refl
  where
    pick : (t : Bool) → nat_eq a b ≡ t → t ≡ false
    pick false e = refl
    pick true e = absurd (both_ways (int_eq (pos a) (pos b)) h
        ((Decides-int_eq (pos a) (pos b)).1 (ap (λ k. pos k) (eqb-true a b e))))

none_again : (f : FieldInfo) (g : Field) (fs : List FieldInfo) (gs : List Field) → HasKeys f g → AllZip HasKeys fs gs
    → AllByRecursion (λ z. int_eq f.number z ≡ false) (map (λ (h : FieldInfo). h.number) fs)
    → AllByRecursion (λ k. nat_eq g.number k ≡ false) (map (λ (h : Field). h.number) gs)
none_again f g [] [] p l a = tt
none_again f g [] (y ∷ gs) p l a = absurd l
none_again f g (x ∷ fs) [] p l a = tt
none_again f g (x ∷ fs) (y ∷ gs) p l a = (
  other_number g.number y.number
      (subst (λ z. int_eq z (pos y.number) ≡ false) p.number (subst (λ z. int_eq f.number z ≡ false) l.0.number a.0)),
  none_again f g fs gs p l.1 a.1,
)

-- the numbers of linked fields are apart
pub numbers_apart : (fs : List FieldInfo) (gs : List Field) → AllZip HasKeys fs gs
    → AreApart int_eq (map (λ (f : FieldInfo). f.number) fs)
    → AreNumbersApart gs
numbers_apart [] [] l a = tt
numbers_apart [] (g ∷ gs) l a = absurd l
numbers_apart (f ∷ fs) [] l a = tt
numbers_apart (f ∷ fs) (g ∷ gs) l a = (none_again f g fs gs l.0 l.1 a.0, numbers_apart fs gs l.1 a.1)

-- one of two names is one of two others
abbrev shares : List ℕ → List ℕ → List ℕ → List ℕ → Bool
shares name json other other_json = bytes_eq name other || bytes_eq name other_json || bytes_eq json other || bytes_eq json other_json

-- linked fields share a key where the declared ones share a name
share_is : (f f' : FieldInfo) (g g' : Field) → HasKeys f g → HasKeys f' g' → share_key g g' ≡ share_name f f'
share_is f f' g g' p q =
    ap (λ z. shares z g.json g'.name g'.json) p.name ∙ ap (λ z. shares f.name z g'.name g'.json) p.json
    ∙ ap (λ z. shares f.name (json_of f) z g'.json) q.name ∙ ap (λ z. shares f.name (json_of f) f'.name z) q.json

none_shared : (f : FieldInfo) (g : Field) (fs : List FieldInfo) (gs : List Field) → HasKeys f g → AllZip HasKeys fs gs
    → AllByRecursion (λ h. share_name f h ≡ false) fs → AllByRecursion (λ h. share_key g h ≡ false) gs
none_shared f g [] [] p l a = tt
none_shared f g [] (y ∷ gs) p l a = absurd l
none_shared f g (x ∷ fs) [] p l a = tt
none_shared f g (x ∷ fs) (y ∷ gs) p l a = (share_is f x g y p l.0 ∙ a.0, none_shared f g fs gs p l.1 a.1)

-- the keys of linked fields are apart
pub keys_apart : (fs : List FieldInfo) (gs : List Field) → AllZip HasKeys fs gs → AreApart share_name fs
    → AreKeysApart gs
keys_apart [] [] l a = tt
keys_apart [] (g ∷ gs) l a = absurd l
keys_apart (f ∷ fs) [] l a = tt
keys_apart (f ∷ fs) (g ∷ gs) l a = (none_shared f g fs gs l.0 l.1 a.0, keys_apart fs gs l.1 a.1)
