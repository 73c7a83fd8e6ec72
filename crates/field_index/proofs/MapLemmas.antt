-- What is put into a map from names or from numbers.
use Rattle.std.proofs.Common.{◌≡◌, ◌||◌, ℕ, ℤ, Bool, true, false, cond, List, Bor, Option, Some, nat_eq, option_map, refl, ap, ◌∙◌}
use Rattle.std.proofs.lemmas.Map.Text.{btree_map_updates_str}
use Rattle.std.proofs.lemmas.Cmp.{int_eq_equiv, nat_eq_equiv}
use Rattle.std.specs.BTreeMap as tree
use Rattle.std.specs.BTreeMap.{BTreeMap}
use Rattle.std.specs.Cmp.Lexicographic.{slice_cmp}
use Rattle.std.specs.Option.{option_copied}
use Rattle.std.specs.Ordering.{int_cmp, int_eq, nat_cmp}
use Rattle.std.specs.Str.{bytes_eq}
use Rattle.base.proofs.NumberSetLemmas.{int_tied, nat_tied}
use Rattle.base.proofs.TextLemmas.{bytes_eq_swap}
use Rattle.message_types.specs.declared.enums.EnumValue.{EnumValue}
use Rattle.message_types.specs.declared.fields.Field.{Field}
use Rattle.field_index.specs.EnumMaps.{HasName, HasValue, NameMap, ValueMap, at_name}
use Rattle.field_index.specs.FieldMaps.{HasField, HasKeys, KeyMap, NumberMap, at_key}

-- what is pointed to where a test holds, and elsewhere what another has
copied_if : {X : Type 0} (t : Bool) (x : Bor X) (o : Option (Bor X))
    → option_copied (cond t (Some x) o) ≡ cond t (Some x.now) (option_copied o)
copied_if true x o = refl
copied_if false x o = refl

-- under one name
key_put : (m n : KeyMap) (a : Bor (List ℕ)) (x : Bor Field)
    → tree.Updates (λ x y. slice_cmp nat_cmp x.now y.now) m n a (Some x)
    → (q : List ℕ) → at_key n q ≡ cond (bytes_eq q a.now) (Some x.now) (at_key m q)
key_put m n a x h q =
    ap option_copied (btree_map_updates_str a.now m n (Some x) h q)
    ∙ copied_if (bytes_eq a.now q) x (tree.get_by (λ k. slice_cmp nat_cmp q k.now) m)
    ∙ ap (λ t. cond t (Some x.now) (at_key m q)) (bytes_eq_swap a.now q)

-- one choice behind another is one by either
either : {X : Type 0} (s t : Bool) (x y : X) → cond s x (cond t x y) ≡ cond (s || t) x y
either true t x y = refl
either false t x y = refl

-- a field under its name and then under its JSON name
pub keys_put : (m k n : KeyMap) (a b : Bor (List ℕ)) (x : Bor Field)
    → tree.Updates (λ x y. slice_cmp nat_cmp x.now y.now) m k a (Some x)
    → tree.Updates (λ x y. slice_cmp nat_cmp x.now y.now) k n b (Some x)
    → a.now ≡ x.now.name → b.now ≡ x.now.json → HasKeys m x.now n
keys_put m k n a b x first second name json q =
    key_put k n b x second q
    ∙ ap (λ z. cond (bytes_eq q b.now) (Some x.now) z) (key_put m k a x first q)
    ∙ ap (λ z. cond (bytes_eq q b.now) (Some x.now) (cond (bytes_eq q z) (Some x.now) (at_key m q))) name
    ∙ ap (λ z. cond (bytes_eq q z) (Some x.now) (cond (bytes_eq q x.now.name) (Some x.now) (at_key m q))) json
    ∙ either (bytes_eq q x.now.json) (bytes_eq q x.now.name) (Some x.now) (at_key m q)

-- a field under its number
pub number_put : (m n : NumberMap) (x : Bor Field) → tree.Updates nat_cmp m n x.now.number (Some x) → HasField m x.now n
number_put m n x h k =
    ap option_copied
    (h.0 k
    ∙ ap (λ t. cond t (Some x) (tree.get nat_cmp m k)) (nat_tied x.now.number k ∙ nat_eq_equiv.symm k x.now.number))
    ∙ copied_if (nat_eq x.now.number k) x (tree.get nat_cmp m k)

-- the number where a test holds, and elsewhere that of what another has
number_if : (t : Bool) (x : Bor EnumValue) (o : Option (Bor EnumValue))
    → option_map (λ (b : Bor EnumValue). b.now.number) (cond t (Some x) o)
    ≡ cond t (Some x.now.number) (option_map (λ (b : Bor EnumValue). b.now.number) o)
number_if true x o = refl
number_if false x o = refl

-- an enum's value under its name
pub name_put : (m n : NameMap) (a : Bor (List ℕ)) (x : Bor EnumValue)
    → tree.Updates (λ x y. slice_cmp nat_cmp x.now y.now) m n a (Some x) → a.now ≡ x.now.name → HasName m x.now n
name_put m n a x h name q =
    ap (option_map (λ (b : Bor EnumValue). b.now.number)) (btree_map_updates_str a.now m n (Some x) h q)
    ∙ number_if (bytes_eq a.now q) x (tree.get_by (λ k. slice_cmp nat_cmp q k.now) m)
    ∙ ap (λ z. cond (bytes_eq z q) (Some x.now.number) (at_name m q)) name

-- an enum's value under its number
pub value_put : (m n : ValueMap) (x : Bor EnumValue) → tree.Updates int_cmp m n x.now.number (Some x)
    → HasValue m x.now n
value_put m n x h z =
    ap option_copied
    (h.0 z
    ∙ ap (λ t. cond t (Some x) (tree.get int_cmp m z)) (int_tied x.now.number z ∙ int_eq_equiv.symm z x.now.number))
    ∙ copied_if (int_eq x.now.number z) x (tree.get int_cmp m z)
