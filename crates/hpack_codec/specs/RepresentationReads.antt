-- What became of the representation at the front, which a reader of blocks was to read.
use Rattle.std.specs.Prelude.{◌≡◌, ◌==◌, ◌+◌, ◌<◌, ◌≤◌, ◌++◌, ◌∷◌, [], ℕ, Bool, not, List, length, Option, Some, None, Result, Ok, Err}
use Rattle.std.specs.Option.{IsSomeAnd}
use Rattle.hpack_codec.specs.StaticTable.{HeaderField}
use Rattle.hpack_codec.specs.DynamicTable.{HeaderTable, field_size, fields_size}
use Rattle.hpack_codec.specs.FieldRepresentation.{Representation}
use Rattle.hpack_codec.specs.declared.fault.ReadFault.{ReadFault}
use Rattle.hpack_codec.specs.declared.fault.ReadFault.TheVariants.{Bad, TooLong}

-- a field of the block was read before
abbrev pub is_late : List HeaderField → Bool
is_late fields = not (length fields == 0)

-- no field, or one
abbrev pub field_list : Option HeaderField → List HeaderField
field_list None = []
field_list (Some f) = f ∷ []

-- the representation was read, with the table after it and its length, and its field stands behind the others
pub record IsReadAs (read : Option Representation) (table : HeaderTable) (old new : List HeaderField) (len : ℕ) : Type 0 where
  pub field : Option HeaderField
  pub is : read ≡ Some (record { field = field; table = table; len = len })
  pub fields : new ≡ old ++ field_list field
  pub size : fields_size new ≤ 65536

-- the representation was read, there is none, or its field makes the fields too long
abbrev pub IsRead : Option Representation → HeaderTable → List HeaderField → List HeaderField → Result ℕ ReadFault → Type 0
IsRead read table old new (Ok len) = IsReadAs read table old new len
IsRead read table old new (Err Bad) = read ≡ None
IsRead read table old new (Err TooLong) = IsSomeAnd read (λ r. IsSomeAnd r.field (λ f. 65536 < fields_size old + field_size f))
