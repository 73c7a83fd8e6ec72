-- One call of a deframer, by what it keeps alone: what the private parts of the deframer promise.
use Rattle.std.specs.Prelude.{◌≡◌, ◌≤◌, ◌+◌, ◌++◌, ℕ, List, [], length, take, drop, Option, Some, None, Result, Ok, Err}
use Rattle.grpc_frames.specs.declared.prefix.PrefixFault.{PrefixFault}
use Rattle.grpc_frames.specs.declared.prefix.PrefixFault.TheVariants as flawed
use Rattle.grpc_frames.specs.declared.prefix.PrefixSeen.{PrefixSeen}
use Rattle.grpc_frames.specs.declared.prefix.PrefixSeen.TheVariants as seen
use Rattle.grpc_frames.specs.declared.deframer.Progress.{Progress}
use Rattle.grpc_frames.specs.declared.deframer.Progress.TheVariants as progress
use Rattle.grpc_frames.specs.declared.deframer.Deframed.{Deframed as Fed}
use Rattle.grpc_frames.specs.declared.fault.FrameFault.{FrameFault}
use Rattle.grpc_frames.specs.LengthPrefixed.{FramingError, CompressedFlag, ReservedFlag, LengthOverLimit, Prefix, Open, BadPrefix, Sized, Incomplete, Malformed, Complete, front}
use Rattle.base.specs.Saturated.{saturated}
use Rattle.grpc_frames.specs.Deframer.{DeframerState, fault_at, UnlessNoMemory}

-- the error that the code calls so
abbrev pub error_of : PrefixFault → FramingError
error_of flawed.Compressed = CompressedFlag
error_of flawed.BadFlag = ReservedFlag
error_of (flawed.TooLong n) = LengthOverLimit n

-- the prefix that the code calls so
abbrev pub prefix_seen : PrefixSeen → Prefix
prefix_seen seen.Open = Open
prefix_seen (seen.Faulty e) = BadPrefix (error_of e)
prefix_seen (seen.Sized n) = Sized n

-- what came of bytes behind those that were kept
abbrev pub IsProgress : ℕ → List ℕ → List ℕ → Progress → List ℕ → Type 0
IsProgress limit old bytes progress.Incomplete new = (new ≡ old ++ bytes) × (front limit new ≡ Incomplete)
IsProgress limit old bytes (progress.Faulty e) new = front limit (old ++ bytes) ≡ Malformed (error_of e)
IsProgress limit old bytes (progress.Complete n) new = (n ≤ length bytes) × (5 ≤ length new) × (new ≡ old ++ take n bytes) × (front limit new ≡ Complete (drop 5 new) [])

-- the bytes were taken, and either complete no message or end with this one
abbrev pub IsFed : DeframerState → List ℕ → ℕ → Option (List ℕ) → DeframerState → Type 0
IsFed old bytes n None new = (n ≡ length bytes) × (new ≡ record old { rest = old.rest ++ bytes }) × (front old.limit (old.rest ++ bytes) ≡ Incomplete)
IsFed old bytes n (Some m) new = (n ≤ length bytes) × (new ≡ record { limit = old.limit; place = saturated (old.place + 5 + length m); rest = []; refused = None })
    × (front old.limit (old.rest ++ take n bytes) ≡ Complete m [])

-- one call of a deframer that has refused nothing
abbrev pub IsStep : DeframerState → List ℕ → Result Fed FrameFault → DeframerState → Type 0
IsStep old bytes (Ok d) new = IsFed old bytes d.taken d.message new
IsStep old bytes (Err f) new = (new.refused ≡ Some f) × (new.limit ≡ old.limit)
    × UnlessNoMemory f ((e : FramingError) × (front old.limit (old.rest ++ bytes) ≡ Malformed e) × (f ≡ fault_at old.place e))
