-- A decoder over the blocks of a connection, and what one call of it answers.
use Rattle.std.specs.Prelude.{◌≡◌, [], List, ℕ, Option, Some, None, Result, Ok, Err}
use Rattle.hpack_codec.specs.StaticTable.{HeaderField}
use Rattle.hpack_codec.specs.DynamicTable.{HeaderTable, first_table}
use Rattle.hpack_codec.specs.HeaderBlock.{HeaderBlock, header_block}
use Rattle.hpack_codec.specs.declared.fault.BlockFault.{BlockFault}

-- the dynamic table, and the fault that was found, if one was
pub record DecoderState : Type 0 where
  pub table : HeaderTable
  pub refused : Option BlockFault

-- a decoder of a new connection
abbrev pub first_decoder : DecoderState
first_decoder = record { table = first_table; refused = None }

-- what the next block spells, where nothing was refused, or the fault that was found before it
abbrev pub next_block : Option BlockFault → HeaderTable → List ℕ → Result HeaderBlock BlockFault
next_block None table block = header_block table block
next_block (Some fault) table block = Err fault

-- a call gives the fields of the block, and the decoder has the table after it; or it gives the fault and no fields, and the decoder keeps the fault
abbrev pub IsDecoded : Result HeaderBlock BlockFault → Result (Unit {0}) BlockFault → List HeaderField → DecoderState → Type 0
IsDecoded (Ok block) (Ok done) fields new = (fields ≡ block.fields) × (new ≡ record { table = block.table; refused = None })
IsDecoded (Err fault) (Err told) fields new = (told ≡ fault) × (fields ≡ []) × (new.refused ≡ Some fault)
IsDecoded (Ok block) (Err told) fields new = ⊥
IsDecoded (Err fault) (Ok done) fields new = ⊥
