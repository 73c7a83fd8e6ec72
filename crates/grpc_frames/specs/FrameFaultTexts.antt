-- The texts of why messages are not read from a stream.
use Rattle.std.specs.Prelude.{◌++◌, ℕ, List, codes, decimal}
use Rattle.base.specs.NoMemoryText.{no_memory_text}
use Rattle.grpc_frames.specs.declared.fault.FrameFault.{FrameFault}
use Rattle.grpc_frames.specs.declared.fault.FrameFault.TheVariants as found

-- the text of a fault, with its offset in decimal
abbrev pub frame_fault_text : FrameFault → List ℕ
frame_fault_text (found.Compressed place) = codes "compressed message at byte " ++ decimal place
frame_fault_text (found.BadFlag place) = codes "bad message flag at byte " ++ decimal place
frame_fault_text (found.TooLong place size) =
    codes "message of " ++ (decimal size ++ (codes " bytes too long at byte " ++ decimal place))
frame_fault_text (found.Cut place) = codes "message cut at byte " ++ decimal place
frame_fault_text found.NoMemory = no_memory_text
