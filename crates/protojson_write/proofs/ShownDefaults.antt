-- The default of a scalar kind is of the kind, and is not stored.
use Rattle.std.proofs.Common.{◌≡◌, refl, true}
use Rattle.std.specs.Int.Signed.{le_z_yes, lt_z_yes}
use Rattle.std.proofs.lemmas.Str.{IsUtf8-nil}
use Rattle.base.proofs.AreBytesLemmas.{AreBytes_none}
use Rattle.message_types.specs.declared.fields.Scalar.{Scalar}
use Rattle.message_types.specs.declared.fields.Scalar.TheVariants.{Int32, Int64, Uint32, Uint64, Sint32, Sint64, Fixed32, Fixed64, Sfixed32, Sfixed64, Bool as BoolOf, Text as TextOf, Bytes as BytesOf, Enumeration}
use Rattle.schema.specs.Validity.{IsScalarItem, is_default}
use Rattle.schema.specs.declared.value.Value.{Value}
use Rattle.protojson_write.specs.ScalarOutput.{default_of}
use Rattle.protojson_write.specs.ShownMeans.{ItemHoldsBytes}

-- the default of a kind is of the kind
pub default_is_scalar : (s : Scalar) → IsScalarItem s (default_of s)
default_is_scalar Int32 = (le_z_yes tt, lt_z_yes tt)
default_is_scalar Int64 = (le_z_yes tt, lt_z_yes tt)
default_is_scalar Uint32 = (le_z_yes tt, lt_z_yes tt)
default_is_scalar Uint64 = (le_z_yes tt, lt_z_yes tt)
default_is_scalar Sint32 = (le_z_yes tt, lt_z_yes tt)
default_is_scalar Sint64 = (le_z_yes tt, lt_z_yes tt)
default_is_scalar Fixed32 = (le_z_yes tt, lt_z_yes tt)
default_is_scalar Fixed64 = (le_z_yes tt, lt_z_yes tt)
default_is_scalar Sfixed32 = (le_z_yes tt, lt_z_yes tt)
default_is_scalar Sfixed64 = (le_z_yes tt, lt_z_yes tt)
default_is_scalar (Enumeration id) = (le_z_yes tt, lt_z_yes tt)
default_is_scalar BoolOf = tt
default_is_scalar TextOf = IsUtf8-nil
default_is_scalar BytesOf = tt

-- the bytes in a default are bytes
pub default_holds : (Holds : Value → Type 0) (s : Scalar) → ItemHoldsBytes Holds (default_of s)
default_holds Holds Int32 = tt
default_holds Holds Int64 = tt
default_holds Holds Uint32 = tt
default_holds Holds Uint64 = tt
default_holds Holds Sint32 = tt
default_holds Holds Sint64 = tt
default_holds Holds Fixed32 = tt
default_holds Holds Fixed64 = tt
default_holds Holds Sfixed32 = tt
default_holds Holds Sfixed64 = tt
default_holds Holds (Enumeration id) = tt
default_holds Holds BoolOf = tt
default_holds Holds TextOf = tt
default_holds Holds BytesOf = AreBytes_none

-- no default is stored
pub default_is_default : (s : Scalar) → is_default (default_of s) ≡ true
default_is_default Int32 = refl
default_is_default Int64 = refl
default_is_default Uint32 = refl
default_is_default Uint64 = refl
default_is_default Sint32 = refl
default_is_default Sint64 = refl
default_is_default Fixed32 = refl
default_is_default Fixed64 = refl
default_is_default Sfixed32 = refl
default_is_default Sfixed64 = refl
default_is_default (Enumeration id) = refl
default_is_default BoolOf = refl
default_is_default TextOf = refl
default_is_default BytesOf = refl
