-- The rules that a frame keeps by itself and by the frames before it, judged on the bytes of it
-- that have come (RFC 9113, sections 3.4, 4.2, 4.3 and 6). A rule is decided by the first byte
-- with which all frames that begin so keep it, or none does.
use Rattle.std.specs.Prelude.{◌==◌, ◌+◌, ◌-◌, ◌%◌, ◌&&◌, ◌||◌, ℕ, Bool, List, length, if◌then◌else◌, nat_lt, nat_le, slice_index_or, Option, Some, None}
use Rattle.h2_frames.specs.Http2Codes.{MAX_FRAME_SIZE, DATA, HEADERS, PRIORITY, RST_STREAM, SETTINGS, PUSH_PROMISE, PING, GOAWAY, WINDOW_UPDATE, CONTINUATION, ACK, PADDED, PRIORITY_FLAG, PROTOCOL_ERROR, FRAME_SIZE_ERROR}
use Rattle.h2_frames.specs.FrameHead.{length_with, stream_with, kind_of, flags_of, has_flag}

-- where a frame stands: whether it is the first, and the stream of the field block that is open
pub record Context : Type 0 where
  pub first : Bool
  pub block : Option ℕ

-- a rule, as far as the bytes that have come decide it
pub data Verdict : Type 0 where
  Undecided : Verdict
  Keeps : Verdict
  Breaks : Verdict

-- kept where a test holds
abbrev pub keeps_if : Bool → Verdict
keeps_if holds = if holds then Keeps else Breaks

-- broken where a test holds
abbrev pub breaks_if : Bool → Verdict
breaks_if broken = if broken then Breaks else Keeps

-- what the type decides waits for it
abbrev pub with_kind : List ℕ → Verdict → Verdict
with_kind bytes v = if nat_lt (length bytes) 4 then Undecided else v

-- what the flags decide waits for them
abbrev pub with_flags : List ℕ → Verdict → Verdict
with_flags bytes v = if nat_lt (length bytes) 5 then Undecided else v

-- a rule on a number of which some bytes have not come: all numbers in reach keep it, none does, or some do
abbrev pub of_all : Bool → Bool → Verdict
of_all all none = if all then Keeps else (if none then Breaks else Undecided)

-- the first frame is SETTINGS without ACK (section 3.4)
abbrev pub begins_with_settings : Context → List ℕ → Verdict
begins_with_settings at bytes = if at.first then with_kind bytes (if kind_of bytes == SETTINGS then with_flags bytes (breaks_if (has_flag ACK (flags_of bytes))) else Breaks) else Keeps

-- a payload has at most 16,384 bytes (section 4.2)
abbrev pub is_within_limit : List ℕ → Verdict
is_within_limit bytes = of_all (nat_le (length_with 255 bytes) MAX_FRAME_SIZE) (nat_lt MAX_FRAME_SIZE (length_with 0 bytes))

-- an open field block is followed by CONTINUATION of its stream alone, and CONTINUATION stands nowhere else (sections 4.3 and 6.10)
abbrev pub continues_block : Option ℕ → List ℕ → Verdict
continues_block None bytes = with_kind bytes (breaks_if (kind_of bytes == CONTINUATION))
continues_block (Some stream) bytes = with_kind bytes (if kind_of bytes == CONTINUATION
    then of_all (stream_with 0 bytes == stream && stream_with 255 bytes == stream) (nat_lt stream (stream_with 0 bytes) || nat_lt (stream_with 255 bytes) stream)
    else Breaks)

-- the types of frames of a stream
abbrev pub is_of_stream : ℕ → Bool
is_of_stream kind = kind == DATA || kind == HEADERS || kind == PRIORITY || kind == RST_STREAM || kind == PUSH_PROMISE

-- the types of frames of the whole connection
abbrev pub is_of_connection : ℕ → Bool
is_of_connection kind = kind == SETTINGS || kind == PING || kind == GOAWAY

-- DATA, HEADERS, PRIORITY, RST_STREAM and PUSH_PROMISE are not on stream 0; SETTINGS, PING and GOAWAY are (sections 6.1 to 6.8)
abbrev pub is_on_its_stream : List ℕ → Verdict
is_on_its_stream bytes = with_kind bytes (if is_of_stream (kind_of bytes) then of_all (nat_lt 0 (stream_with 0 bytes)) (stream_with 255 bytes == 0)
    else (if is_of_connection (kind_of bytes) then of_all (stream_with 255 bytes == 0) (nat_lt 0 (stream_with 0 bytes)) else Keeps))

-- PUSH_PROMISE does not come, since this end forbids it (section 8.4)
abbrev pub is_no_push : List ℕ → Verdict
is_no_push bytes = with_kind bytes (breaks_if (kind_of bytes == PUSH_PROMISE))

-- the bytes of the pad length and the priority fields (sections 6.1 and 6.2)
abbrev pub fields_size : ℕ → ℕ → ℕ
fields_size kind flags = (if has_flag PADDED flags then 1 else 0) + (if kind == HEADERS && has_flag PRIORITY_FLAG flags then 5 else 0)

-- SETTINGS has whole settings, and none with ACK (section 6.5)
abbrev pub fits_settings : ℕ → List ℕ → Verdict
fits_settings size bytes = if size == 0 then Keeps else (if size % 6 == 0 then with_flags bytes (breaks_if (has_flag ACK (flags_of bytes))) else Breaks)

-- the pad length and the priority fields of DATA and HEADERS fit
abbrev pub fits_fields : ℕ → ℕ → List ℕ → Verdict
fits_fields kind size bytes = if nat_le (fields_size kind 255) size then Keeps else with_flags bytes (keeps_if (nat_le (fields_size kind (flags_of bytes)) size))

-- the size that each type asks for
abbrev pub fits_kind : ℕ → ℕ → List ℕ → Verdict
fits_kind kind size bytes =
    if kind == DATA || kind == HEADERS then fits_fields kind size bytes
    else (if kind == PRIORITY then keeps_if (size == 5)
    else (if kind == RST_STREAM || kind == WINDOW_UPDATE then keeps_if (size == 4)
    else (if kind == SETTINGS then fits_settings size bytes
    else (if kind == PING then keeps_if (size == 8)
    else (if kind == GOAWAY then keeps_if (nat_le 8 size)
    else Keeps)))))

-- the payload has a size of its type (sections 4.2 and 6.1 to 6.9)
abbrev pub has_size_of_kind : List ℕ → Verdict
has_size_of_kind bytes = with_kind bytes (fits_kind (kind_of bytes) (length_with 0 bytes) bytes)

-- the pad length is at most the room for padding, which 255 bytes always are
abbrev pub pads_within : ℕ → List ℕ → Verdict
pads_within room bytes = if nat_le 255 room then Keeps else (if nat_lt (length bytes) 10 then Undecided else keeps_if (nat_le (slice_index_or bytes 9 0) room))

-- the room for padding is what follows the pad length and the priority fields
abbrev pub pads_fields : ℕ → ℕ → List ℕ → Verdict
pads_fields kind size bytes = if nat_le (fields_size kind 255 + 255) size then Keeps
    else with_flags bytes (if has_flag PADDED (flags_of bytes) then pads_within (size - fields_size kind (flags_of bytes)) bytes else Keeps)

-- DATA and HEADERS have padding
abbrev pub pads_kind : ℕ → ℕ → List ℕ → Verdict
pads_kind kind size bytes = if kind == DATA || kind == HEADERS then pads_fields kind size bytes else Keeps

-- the padding of DATA and HEADERS fits into what follows its length byte and the priority fields (sections 6.1 and 6.2); a payload of 261 bytes has room for any
abbrev pub has_padding_within : List ℕ → Verdict
has_padding_within bytes = if nat_le 261 (length_with 0 bytes) then Keeps else with_kind bytes (pads_kind (kind_of bytes) (length_with 0 bytes) bytes)

-- the rules in order: not decided yet, all kept, or the code of the first that is broken
pub data Judgement : Type 0 where
  Open : Judgement
  Fine : Judgement
  Fault : (code : ℕ) → Judgement

-- a rule counts once it and every rule before it are decided
abbrev pub first_broken : Verdict → ℕ → Judgement → Judgement
first_broken Undecided code rest = Open
first_broken Breaks code rest = Fault code
first_broken Keeps code rest = rest

-- the first broken rule of a frame, of which these bytes have come
abbrev pub judge : Context → List ℕ → Judgement
judge at bytes =
    first_broken (begins_with_settings at bytes) PROTOCOL_ERROR
    (first_broken (is_within_limit bytes) FRAME_SIZE_ERROR
    (first_broken (continues_block at.block bytes) PROTOCOL_ERROR
    (first_broken (is_on_its_stream bytes) PROTOCOL_ERROR
    (first_broken (is_no_push bytes) PROTOCOL_ERROR
    (first_broken (has_size_of_kind bytes) FRAME_SIZE_ERROR
    (first_broken (has_padding_within bytes) PROTOCOL_ERROR Fine))))))
