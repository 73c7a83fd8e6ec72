-- What a check answers, and what decoding does.
use Rattle.std.specs.Prelude.{◌≡◌, Option, Some, None, Result, Ok, Err}
use Rattle.schema.specs.declared.value.Value.{Value}
use Rattle.wire_format.specs.WireFaults.{Fault, Wire, NotUtf8}
use Rattle.wire_format.specs.declared.fault.DecodeFault.{DecodeFault}
use Rattle.wire_format.specs.declared.fault.DecodeFault.TheVariants as found

-- an answer is the first fault, or that there is none
abbrev pub Finds : Result (Unit {0}) DecodeFault → Option Fault → Type 0
Finds (Ok u) f = f ≡ None
Finds (Err (found.Wire w)) f = f ≡ Some (Wire w.place w.kind)
Finds (Err (found.NotUtf8 place)) f = f ≡ Some (NotUtf8 place)
Finds (Err found.NoMemory) f = ⊥

-- what decoding returned is the value or the fault; want of memory says nothing
abbrev pub Decodes : Result Value DecodeFault → Result Value Fault → Type 0
Decodes (Ok v) d = d ≡ Ok v
Decodes (Err (found.Wire w)) d = d ≡ Err (Wire w.place w.kind)
Decodes (Err (found.NotUtf8 place)) d = d ≡ Err (NotUtf8 place)
Decodes (Err found.NoMemory) d = Unit {0}
