-- The number of a scalar kind is read again as it was written.
use Rattle.std.proofs.Common.{◌≡◌, ◌+◌, ◌-◌, ◌*◌, ◌/◌, ◌%◌, ◌^◌, ◌≤◌, ◌<◌, ℕ, suc, Bool, true, false, cond, [], ◌∷◌, ℤ, pos, negsuc, ◌≤ℤ◌, ◌<ℤ◌, Option, Some, Ok, arith, refl, ap}
use Rattle.std.specs.Int.{w32, w64, cast_signed, cast_unsigned}
use Rattle.std.proofs.lemmas.Int.{ints, to_z-of_z}
use Rattle.schema.specs.Layers.{ItemLayer}
use Rattle.schema.specs.Validity.{IsWithin, IsInt32, IsInt64, IsScalarItem}
use Rattle.schema.specs.declared.value.Item.TheOpen.{Number, Truth}
use Rattle.message_types.specs.declared.fields.Scalar.{Scalar}
use Rattle.message_types.specs.declared.fields.Scalar.TheVariants.{Int32, Int64, Uint32, Uint64, Sint32, Sint64, Fixed32, Fixed64, Sfixed32, Sfixed64, Bool as BoolOf, Text as TextOf, Bytes as BytesOf, Enumeration}
use Rattle.wire_records.specs.Varint.{number_in}
use Rattle.wire_format.specs.CanonicalBytes.{zigzag, number_bytes}
use Rattle.message_types.specs.declared.messages.Types.{Types}
use Rattle.wire_format.specs.Scalars.{unzigzag, scalar_of, scalar_wire}
use Rattle.wire_records.specs.WireRecord.{Payload, number, eight, four, payload_in}
use Rattle.wire_records.specs.WrittenRecords.{piece_of, varint_piece, four_piece, eight_piece}

-- ---- the bits of numbers

bits_64 : (z : ℤ) (b : ℕ) → z <ℤ pos b → b ≤ 2 ^ 64 → cast_unsigned w64 z < 2 ^ 64
bits_64 (pos n) b h l = omega (arith, ints)
bits_64 (negsuc n) b h l = omega arith

bits_32 : (z : ℤ) (b : ℕ) → z <ℤ pos b → b ≤ 2 ^ 32 → cast_unsigned w32 z < 2 ^ 32
bits_32 (pos n) b h l = omega (arith, ints)
bits_32 (negsuc n) b h l = omega arith

-- a number of 32 bits, written in 64
int32_back : (z : ℤ) → IsInt32 z → cast_signed w32 (cast_unsigned w64 z % 2 ^ 32) ≡ z
int32_back (pos n) h =
    let small : n < 2 ^ 31 = omega (arith, ints, h.1) in
    let low : n % 2 ^ 32 ≡ n = omega arith in
    rw low (to_z-of_z w32 (pos n) (record { sfits = small }))
int32_back (negsuc n) h =
    let small : n < 2 ^ 31 = omega (arith, ints, h.0) in
    rw (low_bits n small) (to_z-of_z w32 (negsuc n) (record { sfits = small }))
  where
    low_bits : (n : ℕ) → n < 2 ^ 31 → (2 ^ 64 - suc n) % 2 ^ 32 ≡ 2 ^ 32 - suc n
    low_bits n h = omega arith

-- a number of 32 bits, written in 32
fixed32_back : (z : ℤ) → IsInt32 z → cast_signed w32 (cast_unsigned w32 z) ≡ z
fixed32_back (pos n) h = to_z-of_z w32 (pos n) (record { sfits = omega (arith, ints, h.1) })
fixed32_back (negsuc n) h = to_z-of_z w32 (negsuc n) (record { sfits = omega (arith, ints, h.0) })

int64_back : (z : ℤ) → IsInt64 z → cast_signed w64 (cast_unsigned w64 z) ≡ z
int64_back (pos n) h = to_z-of_z w64 (pos n) (record { sfits = omega (arith, ints, h.1) })
int64_back (negsuc n) h = to_z-of_z w64 (negsuc n) (record { sfits = omega (arith, ints, h.0) })

unsigned32_back : (z : ℤ) → IsWithin (pos 0) (pos (2 ^ 32)) z → pos (cast_unsigned w64 z % 2 ^ 32) ≡ z
unsigned32_back (pos n) h = let m : n % 2 ^ 32 ≡ n = omega (arith, ints, h.1) in ap pos m
unsigned32_back (negsuc n) h = absurd (omega (arith, ints, h.0))

unsigned64_back : (z : ℤ) → pos 0 ≤ℤ z → pos (cast_unsigned w64 z) ≡ z
unsigned64_back (pos n) h = refl
unsigned64_back (negsuc n) h = absurd (omega (arith, ints))

four_back : (z : ℤ) → pos 0 ≤ℤ z → pos (cast_unsigned w32 z) ≡ z
four_back (pos n) h = refl
four_back (negsuc n) h = absurd (omega (arith, ints))

zigzag_back : (z : ℤ) → unzigzag (zigzag z) ≡ z
zigzag_back (pos n) =
    let even : 2 * n % 2 ≡ 0 = omega arith in
    let half : 2 * n / 2 ≡ n = omega arith in
    rw (even, half) refl
zigzag_back (negsuc n) =
    let odd : (2 * n + 1) % 2 ≡ 1 = omega arith in
    let half : (2 * n + 1) / 2 ≡ n = omega arith in
    rw (odd, half) refl

zigzag_32 : (z : ℤ) → IsInt32 z → zigzag z < 2 ^ 32
zigzag_32 (pos n) h = omega (arith, ints, h.1)
zigzag_32 (negsuc n) h = omega (arith, ints, h.0)

zigzag_64 : (z : ℤ) → IsInt64 z → zigzag z < 2 ^ 64
zigzag_64 (pos n) h = omega (arith, ints, h.1)
zigzag_64 (negsuc n) h = omega (arith, ints, h.0)

zigzag32_back : (z : ℤ) → IsInt32 z → unzigzag (zigzag z % 2 ^ 32) ≡ z
zigzag32_back z h =
    let small : zigzag z < 2 ^ 32 = zigzag_32 z h in
    let same : zigzag z % 2 ^ 32 ≡ zigzag z = omega arith in
    rw same (zigzag_back z)

-- ---- all kinds

-- the payload of a number
abbrev pub number_payload : Scalar → ℤ → Payload
number_payload Sint32 z = number (zigzag z)
number_payload Sint64 z = number (zigzag z)
number_payload Fixed32 z = four (cast_unsigned w32 z)
number_payload Sfixed32 z = four (cast_unsigned w32 z)
number_payload Fixed64 z = eight (cast_unsigned w64 z)
number_payload Sfixed64 z = eight (cast_unsigned w64 z)
number_payload _ z = number (cast_unsigned w64 z)

-- what is written of a number is read as its payload
pub number_piece : (s : Scalar) (z : ℤ) → IsScalarItem s (Number z) → payload_in (scalar_wire s) (number_bytes s z) ≡ Ok (piece_of (number_payload s z) (number_bytes s z))
number_piece Int32 z h = varint_piece (cast_unsigned w64 z) (bits_64 z (2 ^ 31) h.1 (omega arith))
number_piece Int64 z h = varint_piece (cast_unsigned w64 z) (bits_64 z (2 ^ 63) h.1 (omega arith))
number_piece Uint32 z h = varint_piece (cast_unsigned w64 z) (bits_64 z (2 ^ 32) h.1 (omega arith))
number_piece Uint64 z h = varint_piece (cast_unsigned w64 z) (bits_64 z (2 ^ 64) h.1 (omega arith))
number_piece Sint32 z h = let m : zigzag z < 2 ^ 32 = zigzag_32 z h in varint_piece (zigzag z) (omega arith)
number_piece Sint64 z h = varint_piece (zigzag z) (zigzag_64 z h)
number_piece Fixed32 z h = four_piece (cast_unsigned w32 z) (bits_32 z (2 ^ 32) h.1 (omega arith))
number_piece Sfixed32 z h = four_piece (cast_unsigned w32 z) (bits_32 z (2 ^ 31) h.1 (omega arith))
number_piece Fixed64 z h = eight_piece (cast_unsigned w64 z) (bits_64 z (2 ^ 64) h.1 (omega arith))
number_piece Sfixed64 z h = eight_piece (cast_unsigned w64 z) (bits_64 z (2 ^ 63) h.1 (omega arith))
number_piece (Enumeration id) z h = varint_piece (cast_unsigned w64 z) (bits_64 z (2 ^ 31) h.1 (omega arith))
number_piece BoolOf z h = absurd h
number_piece TextOf z h = absurd h
number_piece BytesOf z h = absurd h

as_number : (x z : ℤ) → x ≡ z → ◌≡◌ {A = Option ItemLayer} (Some (Number x)) (Some (Number z))
as_number x z e = ap (λ (y : ℤ). Some (Number y)) e

-- and the payload is the number
pub number_back : (types : Types) (s : Scalar) (z : ℤ) → IsScalarItem s (Number z) → scalar_of types s (number_payload s z) ≡ Some (Number z)
number_back types Int32 z h = as_number _ z (int32_back z h)
number_back types Int64 z h = as_number _ z (int64_back z h)
number_back types Uint32 z h = as_number _ z (unsigned32_back z h)
number_back types Uint64 z h = as_number _ z (unsigned64_back z h.0)
number_back types Sint32 z h = as_number _ z (zigzag32_back z h)
number_back types Sint64 z h = as_number _ z (zigzag_back z)
number_back types Fixed32 z h = as_number _ z (four_back z h.0)
number_back types Sfixed32 z h = as_number _ z (fixed32_back z h)
number_back types Fixed64 z h = as_number _ z (unsigned64_back z h.0)
number_back types Sfixed64 z h = as_number _ z (int64_back z h)
number_back types (Enumeration id) z h = as_number _ z (int32_back z h)
number_back types BoolOf z h = absurd h
number_back types TextOf z h = absurd h
number_back types BytesOf z h = absurd h

-- a truth value likewise
pub truth_piece : (t : Bool) → payload_in 0 (cond t 1 0 ∷ []) ≡ Ok (piece_of (number (cond t 1 0)) (cond t 1 0 ∷ []))
unfolding payload_in number_in
truth_piece true = refl
truth_piece false = refl

-- a truth value is read again
pub truth_back : (types : Types) (t : Bool) → scalar_of types BoolOf (number (cond t 1 0)) ≡ Some (Truth t)
truth_back types true = refl
truth_back types false = refl
