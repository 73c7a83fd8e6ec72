-- Length-prefixed messages (gRPC over HTTP/2, "Length-Prefixed-Message"): a flag of one byte, the
-- length of the message in four bytes, the high byte first, and the message. Flag 0 says that the
-- message is as it is, flag 1 that it is compressed; no other flag is given a meaning.
use Rattle.std.specs.Prelude.{◌==◌, ◌+◌, ◌++◌, ◌≡◌, ℕ, suc, zero, List, [], ◌∷◌, length, take, drop, if◌then◌else◌, nat_lt, Option, Some, None}
use Rattle.std.specs.Int.{w32, to_be_bytes, from_be_bytes}
use Rattle.std.specs.List.{flat_map}

-- a message on the stream
abbrev pub length_prefixed : List ℕ → List ℕ
length_prefixed message = 0 ∷ (to_be_bytes w32 (length message) ++ message)

-- messages on the stream, one after another
abbrev pub all_length_prefixed : List (List ℕ) → List ℕ
all_length_prefixed messages = flat_map length_prefixed messages

-- what is wrong at a flag: the flag is 1, it is over 1, or the length is over the limit
pub data FramingError : Type 0 where
  CompressedFlag : FramingError
  ReservedFlag : FramingError
  LengthOverLimit : (size : ℕ) → FramingError

-- what the bytes from a flag on say of its message: nothing yet, what is wrong, or its length
pub data Prefix : Type 0 where
  Open : Prefix
  BadPrefix : (error : FramingError) → Prefix
  Sized : (size : ℕ) → Prefix

-- the number of four bytes, the high one first
abbrev pub big_endian : ℕ → ℕ → ℕ → ℕ → ℕ
big_endian a b c d = from_be_bytes w32 (a ∷ b ∷ c ∷ d ∷ [])

-- the bytes behind a flag of 0
abbrev pub sized_prefix : ℕ → List ℕ → Prefix
sized_prefix limit (a ∷ b ∷ c ∷ d ∷ bytes) = if nat_lt limit (big_endian a b c d) then BadPrefix (LengthOverLimit (big_endian a b c d)) else Sized (big_endian a b c d)
sized_prefix limit bytes = Open

-- the bytes from a flag on
abbrev pub prefix_of : ℕ → List ℕ → Prefix
prefix_of limit [] = Open
prefix_of limit (flag ∷ bytes) = if flag == 0 then sized_prefix limit bytes else (if flag == 1 then BadPrefix CompressedFlag else BadPrefix ReservedFlag)

-- what stands at the front of bytes that begin with a flag: less than a message, an error, or a
-- whole message and the bytes behind it
pub data Front : Type 0 where
  Incomplete : Front
  Malformed : (error : FramingError) → Front
  Complete : (message rest : List ℕ) → Front

-- the same, by what the prefix says
abbrev pub front_from : Prefix → List ℕ → Front
front_from Open bytes = Incomplete
front_from (BadPrefix e) bytes = Malformed e
front_from (Sized n) bytes = if nat_lt (length bytes) (5 + n) then Incomplete else Complete (take n (drop 5 bytes)) (drop (5 + n) bytes)

-- what stands at the front of bytes, under a limit on the length of messages
abbrev pub front : ℕ → List ℕ → Front
front limit bytes = front_from (prefix_of limit bytes) bytes

-- the whole messages of a stream, the bytes behind the last of them, and what is wrong at the first
-- of those bytes
pub record MessageStream : Type 0 where
  pub messages : List (List ℕ)
  pub rest : List ℕ
  pub error : Option FramingError

-- a stream with messages put before it
abbrev pub after_messages : List (List ℕ) → MessageStream → MessageStream
after_messages ms d = record { messages = ms ++ d.messages; rest = d.rest; error = d.error }

-- the stream of bytes with this front, by the stream of the bytes behind it
abbrev pub continued : (List ℕ → MessageStream) → List ℕ → Front → MessageStream
continued go bytes Incomplete = record { messages = []; rest = bytes; error = None }
continued go bytes (Malformed e) = record { messages = []; rest = bytes; error = Some e }
continued go bytes (Complete m rest) = after_messages (m ∷ []) (go rest)

-- the stream of bytes, up to k messages
unfoldable pub deframed_within : ℕ → ℕ → List ℕ → MessageStream
deframed_within zero limit bytes = record { messages = []; rest = bytes; error = None }
deframed_within (suc k) limit bytes = continued (deframed_within k limit) bytes (front limit bytes)

-- the stream of bytes, under a limit on the length of messages: each message has five bytes at
-- least, so there are no more messages than bytes
unfoldable pub deframed_of : ℕ → List ℕ → MessageStream
deframed_of limit bytes = deframed_within (length bytes) limit bytes

-- a list begins with less than a message where nothing is wrong, else with what is wrong
abbrev pub BeginsBy : ℕ → Option FramingError → List ℕ → Type 0
BeginsBy limit None rest = front limit rest ≡ Incomplete
BeginsBy limit (Some e) rest = front limit rest ≡ Malformed e
