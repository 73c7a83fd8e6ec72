-- Base 128 varints (the encoding guide, "Base 128 Varints"): seven bits a byte, the low ones first; a
-- byte of 128 and more says that another follows.
use Rattle.std.specs.Prelude.{◌%◌, ◌^◌, ℕ, List, Result, Ok, Err}
use Rattle.base.specs.Base128.{groups_in, groups_of}
use Rattle.base.specs.declared.base128.GroupFault.{GroupFault}
use Rattle.base.specs.declared.base128.GroupFault.TheVariants as groups
use Rattle.wire_records.specs.declared.fault.WireKind.{WireKind}
use Rattle.wire_records.specs.declared.fault.WireKind.TheVariants.{Short, LongVarint}

-- why no varint stands at the front
abbrev pub varint_fault : GroupFault → WireKind
varint_fault groups.Short = Short
varint_fault groups.Long = LongVarint

-- the low 64 bits of a number, and how many bytes it takes
abbrev pub low_bits : Result (ℕ × ℕ) GroupFault → Result (ℕ × ℕ) WireKind
low_bits (Ok r) = Ok (r.0 % 2 ^ 64, r.1)
low_bits (Err e) = Err (varint_fault e)

-- the number of 64 bits at the front, and how many bytes it takes, at most ten; bits past 64 are dropped
unfoldable pub number_in : List ℕ → Result (ℕ × ℕ) WireKind
number_in bytes = low_bits (groups_in 10 bytes)

-- the shortest varint of a number of 64 bits
unfoldable pub varint : ℕ → List ℕ
varint n = groups_of 10 n
