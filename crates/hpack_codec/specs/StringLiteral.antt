-- String literals (RFC 7541, section 5.2): a bit that says that the string is Huffman-coded, a length of seven bits, and so many bytes.
use Rattle.std.specs.Prelude.{◌+◌, ◌++◌, ℕ, List, [], ◌∷◌, length, take, drop, if◌then◌else◌, nat_lt, Option, Some, None}
use Rattle.std.specs.Option.{option_and_then, option_map}
use Rattle.hpack_codec.specs.PrefixInteger.{integer_in, integer_bytes}
use Rattle.hpack_codec.specs.Huffman.{huffman_text}

-- what bytes spell, where the first byte of the string is `b`
abbrev pub text_of : ℕ → List ℕ → Option (List ℕ)
text_of b coded = if nat_lt b 128 then Some coded else huffman_text coded

-- the text of `size` bytes behind the length, which takes `len` bytes, and how many bytes it all takes
abbrev pub sized_text : ℕ → ℕ → ℕ → List ℕ → Option (List ℕ × ℕ)
sized_text b size len rest = if nat_lt (length rest) size then None else option_map (λ (text : List ℕ). (text, len + size)) (text_of b (take size rest))

-- the string at the front, and how many bytes it takes
abbrev pub string_in : List ℕ → Option (List ℕ × ℕ)
string_in [] = None
string_in (b ∷ bs) = option_and_then (λ (n : ℕ × ℕ). sized_text b n.0 n.1 (drop n.1 (b ∷ bs))) (integer_in 127 (b ∷ bs))

-- a string that is not Huffman-coded
abbrev pub string_bytes_of : List ℕ → List ℕ
string_bytes_of text = integer_bytes 0 127 (length text) ++ text
