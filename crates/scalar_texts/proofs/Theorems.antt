-- The integers of number kinds, for the crates above.
use Rattle.std.proofs.Common.{◌≡◌, suc, ◌<◌, ◌^◌, arith}
use Rattle.std.proofs.lemmas.Int.{ints, to_z-of_z}
use Rattle.std.specs.Prelude.{ℤ, pos, negsuc}
use Rattle.json_integers.specs.IntegerTexts.{IsTold}
use Rattle.message_types.specs.declared.fields.Scalar.{Scalar}
use Rattle.message_types.specs.declared.fields.Scalar.TheVariants.{Int32, Int64, Uint32, Uint64, Sint32, Sint64, Fixed32, Fixed64, Sfixed32, Sfixed64, Bool as BoolOf, Text as TextOf, Bytes as BytesOf, Enumeration}
use Rattle.schema.specs.Validity.{IsWithin, IsInt32, IsInt64, IsScalarItem}
use Rattle.schema.specs.declared.value.Item.TheOpen.{Number}
use mir.Syntax.{w128}
use mir.Val.{to_z, of_z}

int32_told : (z : ℤ) → IsInt32 z → IsTold z
int32_told z h = let a = h.0 in let b = h.1 in omega (arith, ints)

int64_told : (z : ℤ) → IsInt64 z → IsTold z
int64_told z h = let a = h.0 in let b = h.1 in omega (arith, ints)

low_told : (z : ℤ) → IsWithin (pos 0) (pos (2 ^ 32)) z → IsTold z
low_told z h = let a = h.0 in let b = h.1 in omega (arith, ints)

high_told : (z : ℤ) → IsWithin (pos 0) (pos (2 ^ 64)) z → IsTold z
high_told z h = let a = h.0 in let b = h.1 in omega (arith, ints)

-- no kind has an integer past 64 bits
pub number_told : (s : Scalar) (z : ℤ) → IsScalarItem s (Number z) → IsTold z
number_told Int32 z h = int32_told z h
number_told Int64 z h = int64_told z h
number_told Uint32 z h = low_told z h
number_told Uint64 z h = high_told z h
number_told Sint32 z h = int32_told z h
number_told Sint64 z h = int64_told z h
number_told Fixed32 z h = low_told z h
number_told Fixed64 z h = high_told z h
number_told Sfixed32 z h = int32_told z h
number_told Sfixed64 z h = int64_told z h
number_told BoolOf z h = absurd h
number_told TextOf z h = absurd h
number_told BytesOf z h = absurd h
number_told (Enumeration id) z h = int32_told z h

-- an integer that is told has its value in 128 bits
pub wide : (z : ℤ) → IsTold z → to_z w128 (of_z w128 z) ≡ z
wide (pos n) h = let k : n < 2 ^ 64 = h in to_z-of_z w128 (pos n) (record { sfits = omega arith })
wide (negsuc n) h = let k : suc n < 2 ^ 64 = h in to_z-of_z w128 (negsuc n) (record { sfits = omega arith })

-- and so has a number of a kind
pub number_wide : (s : Scalar) (z : ℤ) → IsScalarItem s (Number z) → to_z w128 (of_z w128 z) ≡ z
number_wide s z h = wide z (number_told s z h)
