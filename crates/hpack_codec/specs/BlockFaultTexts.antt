-- The texts of why a header block is not read.
use Rattle.std.specs.Prelude.{◌++◌, ℕ, List, codes, decimal}
use Rattle.hpack_codec.specs.declared.fault.BlockFault.{BlockFault}
use Rattle.hpack_codec.specs.declared.fault.BlockFault.TheVariants.{Bad, TooLong}

-- the text of a fault, with its offset in decimal
abbrev pub block_fault_text : BlockFault → List ℕ
block_fault_text (Bad offset) = codes "bad header field at byte " ++ decimal offset
block_fault_text TooLong = codes "header list too long"
