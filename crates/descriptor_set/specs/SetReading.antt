-- What the bytes of a FileDescriptorSet are read as, and why they are not read.
use Rattle.std.specs.Prelude.{◌≡◌, ℕ, List, length, Result, Ok, Err, if◌then◌else◌, nat_lt}
use Rattle.schema.specs.declared.value.Value.{Value}
use Rattle.wire_format.specs.Decoding.{decoding}
use Rattle.wire_format.specs.WireFaults.{Fault, Wire, NotUtf8}
use Rattle.descriptor_set.specs.DescriptorFields.{file_set_of}
use Rattle.descriptor_set.specs.DescriptorTypes.{descriptor_types, type_of}
use Rattle.descriptor_set.specs.declared.described.Described.TheVariants.{Set}
use Rattle.descriptor_set.specs.declared.fault.SetFault.{SetFault}
use Rattle.descriptor_set.specs.declared.fault.SetFault.TheVariants as found
use Rattle.descriptors.specs.declared.file_set.FileSet.{FileSet}

-- the first fault of the bytes, as a reader of sets tells it
abbrev pub set_fault : Fault → SetFault
set_fault (Wire place kind) = found.Wire (record { place = place; kind = kind })
set_fault (NotUtf8 place) = found.NotUtf8 place

-- what the listed fields of a decoded value hold, or the fault of its bytes
abbrev pub set_of : Result Value Fault → Result FileSet SetFault
set_of (Ok v) = Ok (file_set_of v)
set_of (Err f) = Err (set_fault f)

-- bytes of a set: over 16,777,216 are too long; else the value that they are as a FileDescriptorSet tells what is
-- declared, or their first fault tells why not
unfoldable pub set_reading : List ℕ → Result FileSet SetFault
set_reading bytes = if nat_lt 16777216 (length bytes) then Err found.TooLong else set_of (decoding descriptor_types (type_of Set) bytes)

-- an answer is that reading; want of memory says nothing
abbrev pub IsReading : Result FileSet SetFault → Result FileSet SetFault → Type 0
IsReading (Ok set) reading = reading ≡ Ok set
IsReading (Err (found.Wire w)) reading = reading ≡ Err (found.Wire w)
IsReading (Err (found.NotUtf8 place)) reading = reading ≡ Err (found.NotUtf8 place)
IsReading (Err found.TooLong) reading = reading ≡ Err found.TooLong
IsReading (Err found.NoMemory) reading = Unit {0}
