-- The scalars of type numbers (descriptor.proto, FieldDescriptorProto.Type).
use Rattle.std.proofs.Common.{◌≡◌, ◌||◌, ℕ, ℤ, pos, Bool, true, false, cond, List, [], ◌∷◌, nat_le, not, Option, Some, None, IsSome, is_some, refl, sym, ap, subst, ◌∙◌, arith}
use Rattle.std.proofs.lemmas.Bool.{agree_below_at}
use Rattle.std.proofs.lemmas.Bool.Decides.{nat_tests}
use Rattle.std.specs.List.{list_any}
use Rattle.std.specs.Ordering.{int_eq}
use Rattle.schema.specs.Soundness.{IsScalarIn, is_packable}
use Rattle.message_types.specs.declared.fields.Scalar.{Scalar}
use Rattle.message_types.specs.declared.fields.Scalar.TheVariants.{Int32, Int64, Uint32, Uint64, Sint32, Sint64, Fixed32, Fixed64, Sfixed32, Sfixed64, Bool as BoolOf, Text as TextOf, Bytes as BytesOf, Enumeration}
use Rattle.message_types.specs.declared.messages.Types.{Types}
use Rattle.linked_types.specs.LinkableTypes.{IsTypeNumber}
use Rattle.linked_types.specs.LinkedTypes.{scalar_of}

-- ---- enums

abbrev names_enum : Option Scalar → Bool
names_enum (Some (Enumeration id)) = true
names_enum _ = false

other : (b : Bool) (x y : Option Scalar) → names_enum x ≡ false → names_enum y ≡ false → names_enum (cond b x y) ≡ false
other true x y p q = p
other false x y p q = q

names_none : (z : ℤ) → names_enum (scalar_of z) ≡ false
names_none z =
    other (int_eq z (pos 3)) (Some Int64) _ refl (other (int_eq z (pos 4)) (Some Uint64) _ refl
    (other (int_eq z (pos 5)) (Some Int32) _ refl (other (int_eq z (pos 6)) (Some Fixed64) _ refl
    (other (int_eq z (pos 7)) (Some Fixed32) _ refl (other (int_eq z (pos 8)) (Some BoolOf) _ refl
    (other (int_eq z (pos 9)) (Some TextOf) _ refl (other (int_eq z (pos 12)) (Some BytesOf) _ refl
    (other (int_eq z (pos 13)) (Some Uint32) _ refl (other (int_eq z (pos 15)) (Some Sfixed32) _ refl
    (other (int_eq z (pos 16)) (Some Sfixed64) _ refl (other (int_eq z (pos 17)) (Some Sint32) _ refl
    (other (int_eq z (pos 18)) (Some Sint64) None refl refl))))))))))))

in_any : (types : Types) (s : Scalar) → names_enum (Some s) ≡ false → IsScalarIn types s
in_any types (Enumeration id) h = absurd (cc h)
in_any types _ h = tt

-- the scalar of a number names no enum
pub scalar_in : (types : Types) (z : ℤ) (s : Scalar) → scalar_of z ≡ Some s → IsScalarIn types s
scalar_in types z s h = in_any types s (sym (ap names_enum h) ∙ names_none z)

-- ---- numbers of the list

-- numbers of types that have no scalar: doubles and floats, groups, messages, enums
abbrev pub unscalar : List ℕ
unscalar = 1 ∷ 2 ∷ 10 ∷ 11 ∷ 14 ∷ []

-- any other number of a type has a scalar
pub scalar_some : (z : ℤ) → IsTypeNumber z → list_any (λ k. int_eq z (pos k)) unscalar ≡ false → IsSome (scalar_of z)
scalar_some z t h =
    let n = t.number in
    let low = t.low in
    let high = t.high in
    let some : nat_le 1 n ≡ true = grind (arith, nat_tests, low) in
    let other : list_any (λ k. int_eq (pos n) (pos k)) unscalar ≡ false = subst
    (λ y. list_any (λ k. int_eq y (pos k)) unscalar ≡ false) t.is h in
    let all = agree_below_at (λ k. not (nat_le 1 k) ||
    (list_any (λ j. int_eq (pos k) (pos j)) unscalar || is_some (scalar_of (pos k)))) (λ k. true) 19 n refl
    (omega arith) in
    let listed = subst (λ b. (not b || (list_any (λ j. int_eq (pos n) (pos j)) unscalar || is_some
    (scalar_of (pos n)))) ≡ true) some all in
    subst (λ y. is_some (scalar_of y) ≡ true) (sym t.is)
    (subst (λ b. (b || is_some (scalar_of (pos n))) ≡ true) other listed)

abbrev packs : Option Scalar → Bool
packs None = true
packs (Some s) = is_packable s

-- the scalar of a type that is no string (9) and no bytes (12) can be packed
pub packable_type : (z : ℤ) (s : Scalar) → IsTypeNumber z → scalar_of z ≡ Some s → int_eq z (pos 9) ≡ false
    → int_eq z (pos 12) ≡ false → is_packable s ≡ true
packable_type z s t h text bytes =
    let n = t.number in
    let low = t.low in
    let high = t.high in
    let first : int_eq (pos n) (pos 9) ≡ false = subst (λ y. int_eq y (pos 9) ≡ false) t.is text in
    let second : int_eq (pos n) (pos 12) ≡ false = subst (λ y. int_eq y (pos 12) ≡ false) t.is bytes in
    let all = agree_below_at (λ k. int_eq (pos k) (pos 9) || (int_eq (pos k) (pos 12) || packs (scalar_of (pos k))))
    (λ k. true) 19 n refl (omega arith) in
    let rest = subst (λ b. (b || (int_eq (pos n) (pos 12) || packs (scalar_of (pos n)))) ≡ true) first all in
    let packed = subst (λ b. (b || packs (scalar_of (pos n))) ≡ true) second rest in
    sym (ap packs (sym (ap scalar_of t.is) ∙ h)) ∙ packed
