-- How a text with escapes of slashes is decoded whole, and but for them (RFC 3986, section 2.1).
use Rattle.std.specs.Prelude.{◌≡◌, ℕ, ◌+◌, ◌*◌, false, List, [], ◌∷◌, codes, drop, None, if◌then◌else◌}
use Rattle.std.specs.Char.{digit_value}
use Rattle.percent_encoding.specs.Percent.{percent_decode, is_escape}
use Rattle.http_rules.specs.PercentDecoding.{begins_slash_escape, captured, is_slash_escape}
use Rattle.http_rules.specs.declared.template.Segment.TheVariants.{One, Rest}
use Rattle.http_rules.specs.declared.template.Template.{Template}

-- no `%2F` and no `%2f` stands in a text
abbrev pub HasNoSlashEscape : List ℕ → Type 0
HasNoSlashEscape text = (i : ℕ) → begins_slash_escape (drop i text) ≡ false

-- what a text is made of: a byte that stands or that an escape stands for, and the escape of a slash with this last
-- digit
pub data Decoded : Type 0 where
  byte : ℕ → Decoded
  slash : ℕ → Decoded

-- the bytes and the escaped slashes of a text, in order; a `%` that begins no escape is a byte
unfoldable pub decoded_parts : List ℕ → List Decoded
decoded_parts [] = []
decoded_parts (b ∷ []) = byte b ∷ []
decoded_parts (b ∷ c ∷ []) = byte b ∷ byte c ∷ []
decoded_parts (b ∷ high ∷ low ∷ rest) =
    if is_slash_escape b high low then slash low ∷ decoded_parts rest
    else (if is_escape b high low then byte (16 * digit_value high + digit_value low) ∷ decoded_parts rest
    else byte b ∷ decoded_parts (high ∷ low ∷ rest))

-- a part with its slash decoded
abbrev pub part_whole : Decoded → List ℕ
part_whole (byte b) = b ∷ []
part_whole (slash low) = 47 ∷ []

-- a part with the escape of its slash as it stands
abbrev pub part_escaped : Decoded → List ℕ
part_escaped (byte b) = b ∷ []
part_escaped (slash low) = 37 ∷ 50 ∷ low ∷ []

-- `/{a}`: a variable of one segment
abbrev pub one_segment : Template
one_segment = record {
  segments = One ∷ [];
  variables =
      record { path = codes "a" ∷ []; from = 0; to = 1 } ∷ [];
  verb = None;
}

-- `/{a=**}`: a variable of several segments
abbrev pub several_segments : Template
several_segments = record {
  segments = Rest ∷ [];
  variables = record { path = codes "a" ∷ []; from = 0; to = 1 }
      ∷ [];
  verb = None;
}

-- an escaped slash is decoded in one segment, and stays in several; what an escaped `%` and two digits become is a
-- text that looks like an escape, and is decoded no second time: that would give a slash that the path has not
pub record DecodingExamplesHold : Type 0 where
  pub slash_in_one : captured one_segment 0 (codes "a%2Fb") ≡ codes "a/b"
  pub slash_in_several : captured several_segments 0 (codes "a%2Fb%2f") ≡ codes "a%2Fb%2f"
  pub once_in_one : captured one_segment 0 (codes "%252F") ≡ codes "%2F"
  pub once_in_several : captured several_segments 0 (codes "%252F") ≡ codes "%2F"
  pub twice : percent_decode (captured one_segment 0 (codes "%252F")) ≡ codes "/"
