-- Facts about refusals.
use Rattle.grpc_frames.specs.declared.fault.FrameFault.{FrameFault}
use Rattle.grpc_frames.specs.declared.fault.FrameFault.TheVariants.{Compressed, BadFlag, TooLong, Cut, NoMemory}
use Rattle.grpc_frames.specs.Deframer.{UnlessNoMemory}

-- a fact holds, so it holds unless memory was missing
pub of_bytes : {P : Type 0} (f : FrameFault) → P → UnlessNoMemory f P
of_bytes (Compressed place) h = h
of_bytes (BadFlag place) h = h
of_bytes (TooLong place n) h = h
of_bytes (Cut place) h = h
of_bytes NoMemory h = tt

-- what follows from the fact follows unless memory was missing
pub of_bytes_map : {P Q : Type 0} (f : FrameFault) → (P → Q) → UnlessNoMemory f P → UnlessNoMemory f Q
of_bytes_map (Compressed place) k h = k h
of_bytes_map (BadFlag place) k h = k h
of_bytes_map (TooLong place n) k h = k h
of_bytes_map (Cut place) k h = k h
of_bytes_map NoMemory k h = tt
