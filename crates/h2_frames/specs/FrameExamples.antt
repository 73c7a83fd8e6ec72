-- What the rules say of heads with the sizes and flags of which they speak, between frames: computed.
use Rattle.std.specs.Prelude.{◌≡◌, ◌++◌, ℕ, List, [], ◌∷◌, length, true, false, None, Some}
use Rattle.h2_frames.specs.FrameHead.{Frame, frame_of, head_bytes}
use Rattle.h2_frames.specs.FrameErrors.{Judgement, Open, Fine, Fault, judge}
use Rattle.h2_frames.specs.Http2Frame.{first_fault}
use Rattle.h2_frames.specs.FrameOffsets.{frames_with_offsets}
use Rattle.h2_frames.specs.FrameContent.{data_of, fragment_of}

-- a frame between others: its size, type, flags and stream
abbrev pub between : ℕ → ℕ → ℕ → ℕ → Judgement
between size kind flags stream = judge (record { first = false; block = None }) (head_bytes size kind flags stream)

-- the first frame of a connection
abbrev pub at_first : ℕ → ℕ → ℕ → ℕ → Judgement
at_first size kind flags stream = judge (record { first = true; block = None }) (head_bytes size kind flags stream)

-- a frame of stream 1 between others, with the first byte of its payload
abbrev pub with_byte : ℕ → ℕ → ℕ → ℕ → Judgement
with_byte size kind flags byte =
    judge (record { first = false; block = None }) (head_bytes size kind flags 1 ++ byte ∷ [])

-- a frame behind HEADERS of stream 3 that leave their field block open
abbrev pub in_block : ℕ → ℕ → ℕ → ℕ → Judgement
in_block size kind flags stream = judge (record { first = false; block = Some 3 }) (head_bytes size kind flags stream)

-- the sizes of each type (RFC 9113, sections 4.2 and 6)
pub record SizesAreJudged : Type 0 where
  pub data_empty : between 0 0 0 1 ≡ Fine
  pub data_full : between 16384 0 0 1 ≡ Fine
  pub data_long : between 16385 0 0 1 ≡ Fault 6
  pub unknown_long : between 16385 10 0 1 ≡ Fault 6
  pub priority_4 : between 4 2 0 1 ≡ Fault 6
  pub priority_5 : between 5 2 0 1 ≡ Fine
  pub priority_6 : between 6 2 0 1 ≡ Fault 6
  pub rst_stream_3 : between 3 3 0 1 ≡ Fault 6
  pub rst_stream_4 : between 4 3 0 1 ≡ Fine
  pub rst_stream_5 : between 5 3 0 1 ≡ Fault 6
  pub settings_0 : between 0 4 0 0 ≡ Fine
  pub settings_5 : between 5 4 0 0 ≡ Fault 6
  pub settings_6 : between 6 4 0 0 ≡ Fine
  pub settings_16380 : between 16380 4 0 0 ≡ Fine
  pub ping_7 : between 7 6 0 0 ≡ Fault 6
  pub ping_8 : between 8 6 0 0 ≡ Fine
  pub ping_9 : between 9 6 0 0 ≡ Fault 6
  pub goaway_7 : between 7 7 0 0 ≡ Fault 6
  pub goaway_8 : between 8 7 0 0 ≡ Fine
  pub goaway_16384 : between 16384 7 0 0 ≡ Fine
  pub window_update_3 : between 3 8 0 0 ≡ Fault 6
  pub window_update_4 : between 4 8 0 0 ≡ Fine
  pub window_update_5 : between 5 8 0 7 ≡ Fault 6
  pub unknown_0 : between 0 10 255 0 ≡ Fine
  pub window_update_of_stream : between 4 8 0 7 ≡ Fine
  pub long_head : frame_of (0 ∷ 64 ∷ 1 ∷ 0 ∷ 9 ∷ 128 ∷ 0 ∷ 1 ∷ 2 ∷ [])
      ≡ record { size = 16385; kind = 0; flags = 9; stream = 258; payload = [] }

-- the flags that count (RFC 9113, sections 6.1, 6.2, 6.5 and 6.7)
pub record FlagsAreJudged : Type 0 where
  pub acknowledgement_empty : between 0 4 1 0 ≡ Fine
  pub acknowledgement_of_settings : between 6 4 1 0 ≡ Fault 6
  pub acknowledged_ping : between 8 6 1 0 ≡ Fine
  pub end_stream_of_data : between 0 0 1 1 ≡ Fine
  pub padded_data_empty : between 0 0 8 1 ≡ Fault 6
  pub padded_data_waits : between 1 0 8 1 ≡ Open
  pub padded_data_255 : between 255 0 8 1 ≡ Open
  pub padded_data_256 : between 256 0 8 1 ≡ Fine
  pub headers_with_priority_4 : between 4 1 32 1 ≡ Fault 6
  pub headers_with_priority_5 : between 5 1 32 1 ≡ Fine
  pub padded_headers_with_priority_5 : between 5 1 40 1 ≡ Fault 6
  pub padded_headers_with_priority_6 : between 6 1 40 1 ≡ Open
  pub padded_headers_with_priority_260 : between 260 1 40 1 ≡ Open
  pub padded_headers_with_priority_261 : between 261 1 40 1 ≡ Fine
  pub priority_flag_of_data : between 0 0 32 1 ≡ Fine
  pub padded_flag_of_ping : between 8 6 8 0 ≡ Fine
  pub other_flags : between 0 0 214 1 ≡ Fine
  pub padded_headers_empty : between 0 1 8 1 ≡ Fault 6
  pub padded_headers_255 : between 255 1 8 1 ≡ Open
  pub padded_headers_256 : between 256 1 8 1 ≡ Fine
  pub padding_of_all : with_byte 3 0 8 2 ≡ Fine
  pub padding_past_all : with_byte 3 0 8 3 ≡ Fault 1
  pub padding_behind_priority : with_byte 8 1 44 2 ≡ Fine
  pub padding_past_priority : with_byte 8 1 44 3 ≡ Fault 1

-- order and streams (RFC 9113, sections 3.4, 4.3, 6 and 8.4)
pub record OrderIsJudged : Type 0 where
  pub first_settings : at_first 0 4 0 0 ≡ Fine
  pub first_acknowledgement : at_first 0 4 1 0 ≡ Fault 1
  pub first_ping : at_first 8 6 0 0 ≡ Fault 1
  pub continuation : in_block 1 9 0 3 ≡ Fine
  pub continuation_elsewhere : in_block 1 9 0 5 ≡ Fault 1
  pub other_in_block : in_block 0 0 0 3 ≡ Fault 1
  pub unknown_in_block : in_block 0 10 0 3 ≡ Fault 1
  pub continuation_alone : between 1 9 4 3 ≡ Fault 1
  pub data_of_connection : between 0 0 0 0 ≡ Fault 1
  pub headers_of_connection : between 0 1 4 0 ≡ Fault 1
  pub settings_of_stream : between 0 4 0 1 ≡ Fault 1
  pub ping_of_stream : between 8 6 0 1 ≡ Fault 1
  pub goaway_of_stream : between 8 7 0 1 ≡ Fault 1
  pub push_promise : between 4 5 4 1 ≡ Fault 1
  -- the order of the rules: the first frame, the limit, the block, the stream, the push, the size
  pub long_first_ping : at_first 16385 6 0 0 ≡ Fault 1
  pub long_in_block : in_block 16385 0 0 3 ≡ Fault 6
  pub short_settings_of_stream : between 5 4 0 1 ≡ Fault 1
  pub first_settings_of_6 : at_first 6 4 0 0 ≡ Fine
  pub acknowledged_first_settings_of_6 : at_first 6 4 1 0 ≡ Fault 1
  pub continuation_with_flags : in_block 0 9 40 3 ≡ Fine
  pub ping_in_block : in_block 7 6 0 0 ≡ Fault 1
  pub priority_of_connection : between 5 2 0 0 ≡ Fault 1
  pub rst_stream_of_connection : between 4 3 0 0 ≡ Fault 1
  pub long_data_of_connection : between 16385 0 0 0 ≡ Fault 6
  pub reserved_bit : between 0 0 0 2147483649 ≡ Fine
  pub reserved_bit_of_connection : between 0 0 0 2147483648 ≡ Fault 1

-- a frame with its payload
abbrev pub framed : ℕ → ℕ → List ℕ → Frame
framed kind flags payload = record { size = length payload; kind = kind; flags = flags; stream = 1; payload = payload }

-- where the content lies (RFC 9113, sections 6.1, 6.2 and 6.10)
pub record ContentsLie : Type 0 where
  pub plain : data_of (framed 0 0 (2 ∷ 7 ∷ 8 ∷ [])) ≡ 2 ∷ 7 ∷ 8 ∷ []
  pub padded : data_of (framed 0 8 (2 ∷ 7 ∷ 8 ∷ 0 ∷ 0 ∷ [])) ≡ 7 ∷ 8 ∷ []
  pub all_padding : data_of (framed 0 9 (2 ∷ 0 ∷ 0 ∷ [])) ≡ []
  pub priority : fragment_of (framed 1 36 (128 ∷ 0 ∷ 0 ∷ 0 ∷ 16 ∷ 136 ∷ [])) ≡ 136 ∷ []
  pub padded_priority : fragment_of (framed 1 44 (1 ∷ 128 ∷ 0 ∷ 0 ∷ 0 ∷ 16 ∷ 136 ∷ 0 ∷ [])) ≡ 136 ∷ []
  pub continuation : fragment_of (framed 9 44 (1 ∷ 136 ∷ [])) ≡ 1 ∷ 136 ∷ []
  pub no_data : data_of (framed 1 4 (136 ∷ [])) ≡ []

-- SETTINGS, HEADERS of stream 1 that leave their field block open, CONTINUATION that ends it, and DATA
abbrev pub opening : List ℕ
opening = 0 ∷ 0 ∷ 0 ∷ 4 ∷ 0 ∷ 0 ∷ 0 ∷ 0 ∷ 0 ∷ 0 ∷ 0 ∷ 1 ∷ 1 ∷ 0 ∷ 0 ∷ 0 ∷ 0 ∷ 1 ∷ 136 ∷ 0 ∷ 0 ∷ 0 ∷ 9 ∷ 4 ∷ 0 ∷ 0 ∷ 0
    ∷ 1 ∷ 0 ∷ 0 ∷ 2 ∷ 0 ∷ 1 ∷ 0 ∷ 0 ∷ 0 ∷ 1 ∷ 7 ∷ 8 ∷ []

-- a list of bytes with its frames and their offsets, and with a fault behind them (RFC 9113, section 4.1)
pub record ListsAreCut : Type 0 where
  pub frames : frames_with_offsets opening
      ≡ record { offset = 0; frame = record { size = 0; kind = 4; flags = 0; stream = 0; payload = [] } }
      ∷ record { offset = 9; frame = record { size = 1; kind = 1; flags = 0; stream = 1; payload = 136 ∷ [] } }
      ∷ record { offset = 19; frame = record { size = 0; kind = 9; flags = 4; stream = 1; payload = [] } }
      ∷ record { offset = 28; frame = record { size = 2; kind = 0; flags = 1; stream = 1; payload = 7 ∷ 8 ∷ [] } }
      ∷ []
  pub fine : first_fault opening ≡ None
  pub fault : first_fault (opening ++ 0 ∷ 0 ∷ 0 ∷ 9 ∷ []) ≡ Some (record { place = 39; code = 1 })
  -- HEADERS with END_HEADERS leave no field block that CONTINUATION could go on with
  pub ended_block : first_fault (0 ∷ 0 ∷ 0 ∷ 4 ∷ 0 ∷ 0 ∷ 0 ∷ 0 ∷ 0 ∷ 0 ∷ 0 ∷ 0 ∷ 1 ∷ 4 ∷ 0 ∷ 0 ∷ 0 ∷ 1 ∷ 0 ∷ 0 ∷ 0
      ∷ 9 ∷ []) ≡ Some (record { place = 18; code = 1 })
