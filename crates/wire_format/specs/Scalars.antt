-- What a payload is as a scalar (the encoding guide, "Encoding Field Types"): int32, int64 and enums in two's
-- complement, cut to 32 bits where the field has 32; sint by zigzag; fixed in four or eight bytes.
use Rattle.std.specs.Prelude.{◌==◌, ◌%◌, ◌^◌, ◌/◌, ◌-◌, ◌++◌, ℕ, ℤ, pos, negsuc, zero, suc, true, false, List, [], ◌∷◌, Option, Some, None, Result, Ok, Err, if◌then◌else◌}
use Rattle.std.specs.Option.{option_to_list}
use Rattle.std.specs.Int.{w32, w64, cast_signed}
use Rattle.schema.specs.Layers.{ItemLayer}
use Rattle.schema.specs.declared.value.Item.TheOpen.{Number, Truth, Text, Bytes}
use Rattle.message_types.specs.declared.fields.Scalar.{Scalar}
use Rattle.message_types.specs.declared.fields.Scalar.TheVariants.{Int32, Int64, Uint32, Sint32, Sint64, Fixed32, Fixed64, Sfixed32, Sfixed64, Bool as BoolOf, Text as TextOf, Bytes as BytesOf, Enumeration}
use Rattle.message_types.specs.declared.messages.Types.{Types}
use Rattle.wire_records.specs.declared.fault.WireKind.{WireKind}
use Rattle.wire_records.specs.WireRecord.{Payload, Piece, number, eight, sized, four, payload_in}

-- the signed number that a zigzag number stands for
abbrev pub unzigzag : ℕ → ℤ
unzigzag n = if n % 2 == 0 then pos (n / 2) else negsuc (n / 2)

-- a varint as a number of the kind
abbrev pub number_of : Scalar → ℕ → ItemLayer
number_of Int32 n = Number (cast_signed w32 (n % 2 ^ 32))
number_of (Enumeration id) n = Number (cast_signed w32 (n % 2 ^ 32))
number_of Int64 n = Number (cast_signed w64 n)
number_of Uint32 n = Number (pos (n % 2 ^ 32))
number_of Sint32 n = Number (unzigzag (n % 2 ^ 32))
number_of Sint64 n = Number (unzigzag n)
number_of BoolOf n = Truth (if n == 0 then false else true)
number_of _ n = Number (pos n)

-- the wire type of a scalar kind
abbrev pub scalar_wire : Scalar → ℕ
scalar_wire Fixed32 = 5
scalar_wire Sfixed32 = 5
scalar_wire Fixed64 = 1
scalar_wire Sfixed64 = 1
scalar_wire TextOf = 2
scalar_wire BytesOf = 2
scalar_wire _ = 0

-- what a payload is as a scalar among these types, if it fits and counts
abbrev pub scalar_of : Types → Scalar → Payload → Option ItemLayer
scalar_of types TextOf (sized bs) = Some (Text bs)
scalar_of types BytesOf (sized bs) = Some (Bytes bs)
scalar_of types Fixed32 (four n) = Some (Number (pos n))
scalar_of types Sfixed32 (four n) = Some (Number (cast_signed w32 n))
scalar_of types Fixed64 (eight n) = Some (Number (pos n))
scalar_of types Sfixed64 (eight n) = Some (Number (cast_signed w64 n))
scalar_of types s (number n) = if scalar_wire s == 0 then Some (number_of s n) else None
scalar_of types _ _ = None

-- the default of a scalar kind among these types
abbrev pub default_of : Types → Scalar → ItemLayer
default_of types BoolOf = Truth false
default_of types TextOf = Text []
default_of types BytesOf = Bytes []
default_of types _ = Number (pos 0)

-- an item, if it fits, and what goes on behind it
abbrev pub and_elements : Types → Scalar → Result Piece WireKind → (ℕ → List ItemLayer) → List ItemLayer
and_elements types s (Err e) go = []
and_elements types s (Ok p) go = option_to_list (scalar_of types s p.payload) ++ go (p.to - 1)

-- the items of a packed payload behind `skip` bytes
abbrev pub elements : Types → Scalar → ℕ → List ℕ → List ItemLayer
elements types s skip [] = []
elements types s (suc skip) (b ∷ bs) = elements types s skip bs
elements types s zero (b ∷ bs) =
    and_elements types s (payload_in (scalar_wire s) (b ∷ bs)) (λ skip. elements types s skip bs)
