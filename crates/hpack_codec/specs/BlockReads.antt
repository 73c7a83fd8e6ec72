-- What became of a block that was to be read.
use Rattle.std.specs.Prelude.{◌≡◌, List, Result, Ok, Err}
use Rattle.hpack_codec.specs.StaticTable.{HeaderField}
use Rattle.hpack_codec.specs.DynamicTable.{HeaderTable}
use Rattle.hpack_codec.specs.HeaderBlock.{HeaderBlock}
use Rattle.hpack_codec.specs.declared.fault.BlockFault.{BlockFault}

-- its fields and the table after it were read, or its fault was found
abbrev pub IsBlockRead : Result HeaderBlock BlockFault → Result (Unit {0}) BlockFault → List HeaderField → HeaderTable → Type 0
IsBlockRead (Ok block) (Ok done) fields table = (fields ≡ block.fields) × (table ≡ block.table)
IsBlockRead (Err fault) (Err told) fields table = told ≡ fault
IsBlockRead (Ok block) (Err told) fields table = ⊥
IsBlockRead (Err fault) (Ok done) fields table = ⊥
