-- The keys of the entry of a map are of a type that keys can have.
use Rattle.std.proofs.Common.{◌≡◌, ◌<◌, ◌&&◌, ◌||◌, ◌==◌, ℕ, ℤ, pos, negsuc, Bool, true, false, cond, List, [], ◌∷◌, length, nat_le, not, Option, Some, None, option_and_then, refl, sym, ap, subst, ◌∙◌, ⊎_elim, arith, codes}
use Rattle.std.proofs.lemmas.Bool.{agree_below_at, and_parts, eqb-true, leb-true, or_cases}
use Rattle.std.proofs.lemmas.Bool.Decides.{Decides-int_eq}
use Rattle.std.specs.List.{find, list_any}
use Rattle.std.specs.Ordering.{int_eq}
use Rattle.std.specs.Str.{bytes_eq}
use Rattle.descriptors.specs.declared.file_set.FieldInfo.{FieldInfo}
use Rattle.base.proofs.FirstLemmas.{first_of_two}
use Rattle.descriptor_pool.specs.DeclaredNames.{DeclaredMessage}
use Rattle.descriptor_pool.specs.FieldTypes.{field_numbered}
use Rattle.linked_types.specs.LinkedTypes.{key_scalar, scalar_of}
use Rattle.schema.specs.Soundness.{IsKeyKind}
use Rattle.message_types.specs.declared.fields.Scalar.{Scalar}
use Rattle.message_types.specs.declared.fields.Scalar.TheVariants.{Bytes as BytesOf, Enumeration}
use Rattle.set_faults.specs.MessageFaults.{is_entry_field, is_entry_key, is_entry_value, is_key_type, is_lawful_entry, is_type_number}

abbrev is_key : Scalar → Bool
is_key (Enumeration id) = false
is_key BytesOf = false
is_key _ = true

key_kind : (s : Scalar) → is_key s ≡ true → IsKeyKind s
key_kind (Enumeration id) h = absurd (cc h)
key_kind BytesOf h = absurd (cc h)
key_kind _ h = tt

key_below : (n : ℕ) → is_key_type (pos n) ≡ true → n < 19
key_below n h =
    let some = (and_parts (nat_le 3 n) (nat_le n 9 || ((n == 13) || (nat_le 15 n && nat_le n 18))) h).1 in
    ⊎_elim (λ l. let low = leb-true n 9 l in omega arith)
    (λ r. ⊎_elim (λ e. let same = eqb-true n 13 e in omega arith)
    (λ s. let high = leb-true n 18 (and_parts (nat_le 15 n) (nat_le n 18) s).1 in omega arith)
    (or_cases (n == 13) (nat_le 15 n && nat_le n 18) r))
    (or_cases (nat_le n 9) ((n == 13) || (nat_le 15 n && nat_le n 18)) some)

-- a scalar that keys can have, where one is there
abbrev has_key : Option Scalar → Bool
has_key None = false
has_key (Some s) = is_key s

found_key : (o : Option Scalar) → has_key o ≡ true → (s : Scalar) × (o ≡ Some s) × IsKeyKind s
found_key None h = absurd (cc h)
found_key (Some s) h = (s, refl, key_kind s h)

-- the scalar of a key's type is one that keys can have
pub key_type : (z : ℤ) → is_key_type z ≡ true → (s : Scalar) × (scalar_of z ≡ Some s) × IsKeyKind s
key_type (negsuc n) h = absurd (cc h)
key_type (pos n) h =
    let all = agree_below_at (λ k. not (is_key_type (pos k)) || has_key (scalar_of (pos k))) (λ k. true) 19 n refl
    (key_below n h) in
    found_key (scalar_of (pos n)) (subst (λ b. (not b || has_key (scalar_of (pos n))) ≡ true) h all)

-- the first field of a number is the first that passes the test
pub field_numbered_is : (n : ℤ) (fs : List FieldInfo) → field_numbered n fs ≡ find (λ f. int_eq f.number n) fs
field_numbered_is n [] = refl
field_numbered_is n (f ∷ fs) = ap (λ o. cond (int_eq f.number n) (Some f) o) (field_numbered_is n fs)

entry_key_number : (k : FieldInfo) → is_entry_key k ≡ true → int_eq k.number (pos 1) ≡ true
entry_key_number k h =
    let field = (and_parts (is_entry_field (codes "key") 1 k) (is_key_type k.type_number) h).0 in
    (and_parts (int_eq k.number (pos 1)) _ (and_parts (bytes_eq k.name (codes "key")) _ field).1).0

entry_value_number : (v : FieldInfo) → is_entry_value v ≡ true → int_eq v.number (pos 1) ≡ false
entry_value_number v h =
    let field = (and_parts (is_entry_field (codes "value") 2 v) (is_type_number v.type_number) h).0 in
    let number = (and_parts (int_eq v.number (pos 2)) _ (and_parts (bytes_eq v.name (codes "value")) _ field).1).0 in
    subst (λ z. int_eq z (pos 1) ≡ false) (sym ((Decides-int_eq v.number (pos 2)).0 number)) refl

-- the scalar of the keys of a lawful entry is one that keys can have
pub key_fits : (e : DeclaredMessage) → is_lawful_entry e ≡ true → (s : Scalar) × (key_scalar e ≡ Some s) × IsKeyKind s
key_fits e h =
    let two = and_parts (length e.fields == 2) _ h in
    let both = and_parts (list_any is_entry_key e.fields) (list_any is_entry_value e.fields) two.1 in
    let key = first_of_two (λ (f : FieldInfo). int_eq f.number
    (pos 1)) is_entry_key entry_key_number is_entry_value entry_value_number e.fields
    (eqb-true (length e.fields) 2 two.0) both.0 both.1 in
    let is : field_numbered (pos 1) e.fields ≡ Some key.0 = field_numbered_is (pos 1) e.fields ∙ key.2 in
    let kind = key_type (key.0).type_number
    (and_parts (is_entry_field (codes "key") 1 key.0) (is_key_type (key.0).type_number) key.1).1 in
    (kind.0, ap (λ o. option_and_then (λ (k : FieldInfo). scalar_of k.type_number) o) is ∙ kind.1, kind.2)
