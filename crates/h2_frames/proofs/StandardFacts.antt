-- Byte lists with their frames and first faults, computed by the definitions.
use Rattle.std.proofs.Common.{◌≡◌, ◌++◌, ℕ, List, [], ◌∷◌, Some, None, refl}
use Rattle.std.specs.Prelude.{Option}
use Rattle.h2_frames.specs.declared.fault.H2Fault.{H2Fault}
use Rattle.h2_frames.specs.FrameHead.{frame_bytes}
use Rattle.h2_frames.specs.Http2Frame.{first_fault, frames_of, cut, cut_at, cut_within}

-- an empty SETTINGS
abbrev settings : List ℕ
settings = 0 ∷ 0 ∷ 0 ∷ 4 ∷ 0 ∷ 0 ∷ 0 ∷ 0 ∷ 0 ∷ []

-- HEADERS of stream 1 that leave a field block open
abbrev open_block : List ℕ
open_block = 0 ∷ 0 ∷ 1 ∷ 1 ∷ 0 ∷ 0 ∷ 0 ∷ 0 ∷ 1 ∷ 0x88 ∷ []

abbrev fault : ℕ → ℕ → Option H2Fault
fault place code = Some (record { place = place; code = code })

-- a connection that does not begin with SETTINGS, or begins with an acknowledgement
ping_first : first_fault (0 ∷ 0 ∷ 8 ∷ 6 ∷ 0 ∷ 0 ∷ 0 ∷ 0 ∷ 0 ∷ 0 ∷ 0 ∷ 0 ∷ 0 ∷ 0 ∷ 0 ∷ 0 ∷ 0 ∷ []) ≡ fault 0 1
unfolding cut cut_at cut_within
ping_first = refl

ack_first : first_fault (0 ∷ 0 ∷ 0 ∷ 4 ∷ 1 ∷ []) ≡ fault 0 1
unfolding cut cut_at cut_within
ack_first = refl

-- a payload of 16,385 bytes, known with the third byte
long_payload : first_fault (settings ++ 0 ∷ 0x40 ∷ 1 ∷ []) ≡ fault 9 6
unfolding cut cut_at cut_within
long_payload = refl

long_payload_not_yet : first_fault (settings ++ 0 ∷ 0x40 ∷ []) ≡ None
unfolding cut cut_at cut_within
long_payload_not_yet = refl

-- a payload of 65,536 bytes and more is known with the first byte, but for a first frame
long_payload_early : first_fault (settings ++ 1 ∷ []) ≡ fault 9 6
unfolding cut cut_at cut_within
long_payload_early = refl

long_first : first_fault (1 ∷ 0 ∷ 0 ∷ 4 ∷ []) ≡ None
unfolding cut cut_at cut_within
long_first = refl

-- a frame of another type, and CONTINUATION of another stream, within a field block
unknown_within_block : first_fault (settings ++ open_block ++ 0 ∷ 0 ∷ 0 ∷ 0x0a ∷ []) ≡ fault 19 1
unfolding cut cut_at cut_within
unknown_within_block = refl

continuation_elsewhere : first_fault (settings ++ open_block ++ 0 ∷ 0 ∷ 0 ∷ 9 ∷ 4 ∷ 0 ∷ 0 ∷ 0 ∷ 3 ∷ []) ≡ fault 19 1
unfolding cut cut_at cut_within
continuation_elsewhere = refl

continuation_alone : first_fault (settings ++ 0 ∷ 0 ∷ 0 ∷ 9 ∷ []) ≡ fault 9 1
unfolding cut cut_at cut_within
continuation_alone = refl

-- SETTINGS on a stream is known with the third byte of the stream, DATA of the connection with the last
settings_on_stream : first_fault (settings ++ 0 ∷ 0 ∷ 0 ∷ 4 ∷ 0 ∷ 0 ∷ 0 ∷ 1 ∷ []) ≡ fault 9 1
unfolding cut cut_at cut_within
settings_on_stream = refl

data_of_connection : first_fault (settings ++ 0 ∷ 0 ∷ 0 ∷ 0 ∷ 0 ∷ 0x80 ∷ 0 ∷ 0 ∷ 0 ∷ []) ≡ fault 9 1
unfolding cut cut_at cut_within
data_of_connection = refl

push_promise : first_fault (settings ++ 0 ∷ 0 ∷ 4 ∷ 5 ∷ 0 ∷ 0 ∷ 0 ∷ 0 ∷ 1 ∷ []) ≡ fault 9 1
unfolding cut cut_at cut_within
push_promise = refl

-- a WINDOW_UPDATE of three bytes, which of the connection is broken by its size alone
short_window_update : first_fault (settings ++ 0 ∷ 0 ∷ 3 ∷ 8 ∷ []) ≡ fault 9 6
unfolding cut cut_at cut_within
short_window_update = refl

-- padding that is the whole payload, and one byte more
whole_padding : first_fault (settings ++ 0 ∷ 0 ∷ 5 ∷ 0 ∷ 8 ∷ 0 ∷ 0 ∷ 0 ∷ 1 ∷ 4 ∷ []) ≡ None
unfolding cut cut_at cut_within
whole_padding = refl

long_padding : first_fault (settings ++ 0 ∷ 0 ∷ 5 ∷ 0 ∷ 8 ∷ 0 ∷ 0 ∷ 0 ∷ 1 ∷ 5 ∷ []) ≡ fault 9 1
unfolding cut cut_at cut_within
long_padding = refl

-- a stream that was not opened, a window of 0 and unknown settings are for others to judge
reset_of_idle_stream : first_fault (settings ++ 0 ∷ 0 ∷ 4 ∷ 3 ∷ 0 ∷ 0 ∷ 0 ∷ 0 ∷ 3 ∷ 0 ∷ 0 ∷ 0 ∷ 8 ∷ []) ≡ None
unfolding cut cut_at cut_within
reset_of_idle_stream = refl

-- the frames of a list with a rest: the reserved bit is left out, and unknown types are frames
two_frames : frames_of (settings ++ 0 ∷ 0 ∷ 2 ∷ 0xfe ∷ 0xff ∷ 0x80 ∷ 0 ∷ 1 ∷ 2 ∷ 7 ∷ 8 ∷ 0 ∷ 0 ∷ [])
    ≡ record { size = 0; kind = 4; flags = 0; stream = 0; payload = [] } ∷ record { size = 2; kind = 0xfe; flags = 0xff; stream = 258; payload = 7 ∷ 8 ∷ [] } ∷ []
unfolding cut cut_at cut_within
two_frames = refl

-- the bytes of a frame
window_update : frame_bytes 8 0 0x7fffffff (0x7f ∷ 0xff ∷ 0xff ∷ 0xff ∷ []) ≡ 0 ∷ 0 ∷ 4 ∷ 8 ∷ 0 ∷ 0x7f ∷ 0xff ∷ 0xff ∷ 0xff ∷ 0x7f ∷ 0xff ∷ 0xff ∷ 0xff ∷ []
window_update = refl
