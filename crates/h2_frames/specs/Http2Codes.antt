-- The numbers of frames in RFC 9113, by their names there, stated once more for the definitions: those of the
-- code are proved against them.
use Rattle.std.specs.Prelude.{ℕ}

-- the largest payload in bytes: the initial value of SETTINGS_MAX_FRAME_SIZE (section 6.5.2)
abbrev pub MAX_FRAME_SIZE : ℕ
MAX_FRAME_SIZE = 16384

-- DATA (section 6.1)
abbrev pub DATA : ℕ
DATA = 0

-- HEADERS (section 6.2)
abbrev pub HEADERS : ℕ
HEADERS = 1

-- PRIORITY (section 6.3)
abbrev pub PRIORITY : ℕ
PRIORITY = 2

-- RST_STREAM (section 6.4)
abbrev pub RST_STREAM : ℕ
RST_STREAM = 3

-- SETTINGS (section 6.5)
abbrev pub SETTINGS : ℕ
SETTINGS = 4

-- PUSH_PROMISE (section 6.6)
abbrev pub PUSH_PROMISE : ℕ
PUSH_PROMISE = 5

-- PING (section 6.7)
abbrev pub PING : ℕ
PING = 6

-- GOAWAY (section 6.8)
abbrev pub GOAWAY : ℕ
GOAWAY = 7

-- WINDOW_UPDATE (section 6.9)
abbrev pub WINDOW_UPDATE : ℕ
WINDOW_UPDATE = 8

-- CONTINUATION (section 6.10)
abbrev pub CONTINUATION : ℕ
CONTINUATION = 9

-- the flag ACK of SETTINGS (section 6.5)
abbrev pub ACK : ℕ
ACK = 1

-- the flag END_HEADERS of HEADERS and CONTINUATION (sections 6.2 and 6.10)
abbrev pub END_HEADERS : ℕ
END_HEADERS = 4

-- the flag PADDED of DATA and HEADERS (sections 6.1 and 6.2)
abbrev pub PADDED : ℕ
PADDED = 8

-- the flag PRIORITY of HEADERS (section 6.2)
abbrev pub PRIORITY_FLAG : ℕ
PRIORITY_FLAG = 32

-- the error code PROTOCOL_ERROR (section 7)
abbrev pub PROTOCOL_ERROR : ℕ
PROTOCOL_ERROR = 1

-- the error code FRAME_SIZE_ERROR (section 7)
abbrev pub FRAME_SIZE_ERROR : ℕ
FRAME_SIZE_ERROR = 6
