-- Header blocks (RFC 7541, sections 2.2 and 3): representations, one behind the other, which turn a table into
-- another and spell a list of fields.
use Rattle.std.specs.Prelude.{◌≡◌, ◌+◌, ◌-◌, ℕ, zero, suc, Bool, true, false, List, [], ◌∷◌, if◌then◌else◌, nat_lt, Option, Some, None, Result, Ok, Err}
use Rattle.hpack_codec.specs.StaticTable.{HeaderField}
use Rattle.hpack_codec.specs.DynamicTable.{HeaderTable, field_size, fields_size}
use Rattle.hpack_codec.specs.FieldRepresentation.{Representation, representation_in}
use Rattle.hpack_codec.specs.declared.fault.BlockFault.{BlockFault}
use Rattle.hpack_codec.specs.declared.fault.BlockFault.TheVariants.{Bad, TooLong}

-- the fields that a block spells, and the table after it
pub record HeaderBlock : Type 0 where
  pub fields : List HeaderField
  pub table : HeaderTable

-- where the reading of a block stands: the offset, the table, whether a field was read, and what the sizes of the fields to come may add up to
pub record BlockPoint : Type 0 where
  pub offset : ℕ
  pub table : HeaderTable
  pub late : Bool
  pub room : ℕ

-- a field before those that follow
abbrev pub with_field : HeaderField → Result HeaderBlock BlockFault → Result HeaderBlock BlockFault
with_field f (Ok r) = Ok (record { fields = f ∷ r.fields; table = r.table })
with_field f (Err e) = Err e

-- the point behind a representation
abbrev pub behind : BlockPoint → Representation → Bool → ℕ → BlockPoint
behind at r late room = record { offset = at.offset + r.len; table = r.table; late = late; room = room }

-- the field of a representation, if it is one, and what goes on behind it
abbrev pub field_step : BlockPoint → Representation → Option HeaderField → (BlockPoint → ℕ → Result HeaderBlock BlockFault) → Result HeaderBlock BlockFault
field_step at r None go = go (behind at r at.late at.room) (r.len - 1)
field_step at r (Some f) go = if nat_lt at.room (field_size f) then Err TooLong else with_field f (go (behind at r true (at.room - field_size f)) (r.len - 1))

-- a representation, and what goes on behind it
abbrev pub block_step : BlockPoint → Option Representation → (BlockPoint → ℕ → Result HeaderBlock BlockFault) → Result HeaderBlock BlockFault
block_step at None go = Err (Bad at.offset)
block_step at (Some r) go = field_step at r r.field go

-- what bytes spell from a point on that lies `skip` bytes further
abbrev pub block_from : BlockPoint → ℕ → List ℕ → Result HeaderBlock BlockFault
block_from at skip [] = Ok (record { fields = []; table = at.table })
block_from at (suc skip) (b ∷ bs) = block_from at skip bs
block_from at zero (b ∷ bs) = block_step at (representation_in at.table at.late (b ∷ bs)) (λ next skip. block_from next skip bs)

-- what a block spells from a table where the sizes of the fields may add up to this limit, or what is first wrong with it
unfoldable pub header_block_within : ℕ → HeaderTable → List ℕ → Result HeaderBlock BlockFault
header_block_within limit t block = block_from (record { offset = 0; table = t; late = false; room = limit }) 0 block

-- the same for the limit of 65,536
unfoldable pub header_block : HeaderTable → List ℕ → Result HeaderBlock BlockFault
header_block t block = header_block_within 65536 t block

-- a block spells these fields from a table and leaves a table, whatever the limit
abbrev pub DecodesBlock : HeaderTable → List ℕ → List HeaderField → HeaderTable → Type 0
DecodesBlock t block fields after = header_block_within (fields_size fields) t block ≡ Ok (record { fields = fields; table = after })
