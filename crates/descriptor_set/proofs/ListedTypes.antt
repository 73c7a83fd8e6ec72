-- The fields of the listed types are sound.
use Rattle.std.proofs.Common.{◌≡◌, ◌<◌, ◌≤◌, ◌&&◌, ℕ, Bool, true, false, List, [], ◌∷◌, map, nat_le, arith, refl}
use Rattle.std.proofs.lemmas.Bool.Decides.{nat_tests}
use Rattle.std.specs.List.{AllByRecursion, list_all}
use Rattle.schema.specs.Soundness.{FitsShape, IsKindIn, IsSoundField}
use Rattle.wire_format.specs.Laws.{HasSoundFields}
use Rattle.descriptor_set.specs.DescriptorTypes.{descriptor_types, field_of, kind_of, listed_fields, presence_of, shape_of, type_of}
use Rattle.descriptor_set.specs.declared.described.Described.{Described}
use Rattle.descriptor_set.specs.declared.described.Described.TheVariants as in_
use Rattle.descriptor_set.specs.declared.described.Holds.{Holds}
use Rattle.descriptor_set.specs.declared.described.Holds.TheVariants.{Text, Number, Truth, Path, CustomPath, Message, Messages}

below : (d : Described) → (type_of d).0 < 14
below in_.Set = omega arith
below in_.File = omega arith
below in_.Message = omega arith
below in_.MessageOptions = omega arith
below in_.Field = omega arith
below in_.FieldOptions = omega arith
below in_.Oneof = omega arith
below in_.Enum = omega arith
below in_.EnumValue = omega arith
below in_.Service = omega arith
below in_.Method = omega arith
below in_.MethodOptions = omega arith
below in_.Rule = omega arith
below in_.CustomPattern = omega arith

kind_in : (h : Holds) → IsKindIn descriptor_types (kind_of h)
kind_in Text = tt
kind_in Number = tt
kind_in Truth = tt
kind_in Path = tt
kind_in CustomPath = below in_.CustomPattern
kind_in (Message d) = below d
kind_in (Messages d) = below d

shape_fits : (h : Holds) → FitsShape (shape_of h) (kind_of h) (presence_of h)
shape_fits Text = tt
shape_fits Number = tt
shape_fits Truth = tt
shape_fits Path = λ e. absurd (cc (e))
shape_fits CustomPath = λ e. absurd (cc (e))
shape_fits (Message d) = λ e. absurd (cc (e))
shape_fits (Messages d) = refl

field_sound : (n : ℕ) (h : Holds) → 1 ≤ n → n ≤ 536870911 → IsSoundField descriptor_types (field_of (n, h))
field_sound n h low high = record {
  low = low;
  high = high;
  kind = kind_in h;
  shape = shape_fits h;
  packed = λ e. absurd (cc (e));
}

abbrev is_number : ℕ × Holds → Bool
is_number x = nat_le 1 x.0 && nat_le x.0 536870911

number_is : (n : ℕ) → (nat_le 1 n && nat_le n 536870911) ≡ true → (1 ≤ n) × (n ≤ 536870911)
number_is n h = (grind (arith, nat_tests, h), grind (arith, nat_tests, h))

listed : (xs : List (ℕ × Holds)) → list_all is_number xs ≡ true → AllByRecursion (IsSoundField descriptor_types) (map field_of xs)
listed [] h = tt
listed (x ∷ xs) h = both (is_number x) refl h (listed xs)
  where
    both : (b : Bool) → is_number x ≡ b → (b && list_all is_number xs) ≡ true → (list_all is_number xs ≡ true → AllByRecursion (IsSoundField descriptor_types) (map field_of xs)) → AllByRecursion (IsSoundField descriptor_types) (map field_of (x ∷ xs))
    both true e h r = let n = number_is x.0 e in (field_sound x.0 x.1 n.0 n.1, r h)
    both false e h r = absurd (cc (h))

-- the fields of the types of all messages that are read are sound
pub listed_sound : HasSoundFields descriptor_types
listed_sound = (
  listed (listed_fields in_.Set) refl,
  (
    listed (listed_fields in_.File) refl,
    (
      listed (listed_fields in_.Message) refl,
      (
        listed (listed_fields in_.MessageOptions) refl,
        (
          listed (listed_fields in_.Field) refl,
          (
            listed (listed_fields in_.FieldOptions) refl,
            (
              listed (listed_fields in_.Oneof) refl,
              (
                listed (listed_fields in_.Enum) refl,
                (
                  listed (listed_fields in_.EnumValue) refl,
                  (
                    listed (listed_fields in_.Service) refl,
                    (
                      listed (listed_fields in_.Method) refl,
                      (
                        listed (listed_fields in_.MethodOptions) refl,
                        (
                          listed (listed_fields in_.Rule) refl,
                          (
                            listed (listed_fields in_.CustomPattern) refl,
                            tt,
                          ),
                        ),
                      ),
                    ),
                  ),
                ),
              ),
            ),
          ),
        ),
      ),
    ),
  ),
)
