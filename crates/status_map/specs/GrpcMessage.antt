-- The value of the field grpc-message (gRPC over HTTP/2, "Status-Message", "Percent-Encoded").
use Rattle.std.specs.Prelude.{◌==◌, ◌&&◌, ◌+◌, ◌/◌, ◌%◌, ℕ, List, [], ◌∷◌, Bool, not, if◌then◌else◌, nat_le, nat_lt}
use Rattle.std.specs.List.{flat_map}
use Rattle.percent_encoding.specs.Percent.{percent_decode}

-- a byte that stands for itself: a space or a visible character of ASCII, but not `%`
abbrev pub is_unencoded : ℕ → Bool
is_unencoded b = nat_le 32 b && (nat_le b 126 && not (b == 37))

-- the upper-case hexadecimal digit of a number below 16
abbrev pub upper_hex_digit : ℕ → ℕ
upper_hex_digit n = if nat_lt n 10 then 48 + n else 55 + n

-- one byte of a message: as it is, or as `%` and its two digits
abbrev pub encoded_byte : ℕ → List ℕ
encoded_byte b = if is_unencoded b then b ∷ [] else 37 ∷ upper_hex_digit (b / 16) ∷ upper_hex_digit (b % 16) ∷ []

-- a message as it is sent
abbrev pub encoded_message : List ℕ → List ℕ
encoded_message text = flat_map encoded_byte text

-- a message as it is read: `%` and two hexadecimal digits of either case are the byte that they
-- write, and any other byte stands for itself, a `%` without two digits too
abbrev pub decoded_message : List ℕ → List ℕ
decoded_message value = percent_decode value
