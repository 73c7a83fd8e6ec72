-- Huffman-coded strings (RFC 7541, section 5.2 and appendix B). The code is canonical: codes run by rising
-- length, and within one length by rising symbol; each is one more than the one before, with zeros appended
-- where the length grows. So the symbols of each length are the whole code. Symbol 256 is the end of a string.
use Rattle.std.specs.Prelude.{◌==◌, ◌+◌, ◌-◌, ◌*◌, ◌/◌, ◌%◌, ◌&&◌, ℕ, Bool, true, List, [], ◌∷◌, ◌++◌, length, if◌then◌else◌, nat_lt, nat_le, slice_get, slice_index_or, Option, Some, None}
use Rattle.std.specs.Option.{option_map}

-- the symbols whose codes have 1, 2, 3 bits and so on
abbrev pub symbols_by_length : List (List ℕ)
symbols_by_length =
    []
    ∷ []
    ∷ []
    ∷ []
    ∷ (48 ∷ 49 ∷ 50 ∷ 97 ∷ 99 ∷ 101 ∷ 105 ∷ 111 ∷ 115 ∷ 116 ∷ [])
    ∷ (32 ∷ 37 ∷ 45 ∷ 46 ∷ 47 ∷ 51 ∷ 52 ∷ 53 ∷ 54 ∷ 55 ∷ 56 ∷ 57 ∷ 61 ∷ 65 ∷ 95 ∷ 98 ∷ 100 ∷ 102 ∷ 103 ∷ 104 ∷ 108 ∷ 109 ∷ 110 ∷ 112 ∷ 114 ∷ 117 ∷ [])
    ∷ (58 ∷ 66 ∷ 67 ∷ 68 ∷ 69 ∷ 70 ∷ 71 ∷ 72 ∷ 73 ∷ 74 ∷ 75 ∷ 76 ∷ 77 ∷ 78 ∷ 79 ∷ 80 ∷ 81 ∷ 82 ∷ 83 ∷ 84 ∷ 85 ∷ 86 ∷ 87 ∷ 89 ∷ 106 ∷ 107 ∷ 113 ∷ 118 ∷ 119 ∷ 120 ∷ 121 ∷ 122 ∷ [])
    ∷ (38 ∷ 42 ∷ 44 ∷ 59 ∷ 88 ∷ 90 ∷ [])
    ∷ []
    ∷ (33 ∷ 34 ∷ 40 ∷ 41 ∷ 63 ∷ [])
    ∷ (39 ∷ 43 ∷ 124 ∷ [])
    ∷ (35 ∷ 62 ∷ [])
    ∷ (0 ∷ 36 ∷ 64 ∷ 91 ∷ 93 ∷ 126 ∷ [])
    ∷ (94 ∷ 125 ∷ [])
    ∷ (60 ∷ 96 ∷ 123 ∷ [])
    ∷ []
    ∷ []
    ∷ []
    ∷ (92 ∷ 195 ∷ 208 ∷ [])
    ∷ (128 ∷ 130 ∷ 131 ∷ 162 ∷ 184 ∷ 194 ∷ 224 ∷ 226 ∷ [])
    ∷ (153 ∷ 161 ∷ 167 ∷ 172 ∷ 176 ∷ 177 ∷ 179 ∷ 209 ∷ 216 ∷ 217 ∷ 227 ∷ 229 ∷ 230 ∷ [])
    ∷ (129 ∷ 132 ∷ 133 ∷ 134 ∷ 136 ∷ 146 ∷ 154 ∷ 156 ∷ 160 ∷ 163 ∷ 164 ∷ 169 ∷ 170 ∷ 173 ∷ 178 ∷ 181 ∷ 185 ∷ 186 ∷ 187 ∷ 189 ∷ 190 ∷ 196 ∷ 198 ∷ 228 ∷ 232 ∷ 233 ∷ [])
    ∷ (1 ∷ 135 ∷ 137 ∷ 138 ∷ 139 ∷ 140 ∷ 141 ∷ 143 ∷ 147 ∷ 149 ∷ 150 ∷ 151 ∷ 152 ∷ 155 ∷ 157 ∷ 158 ∷ 165 ∷ 166 ∷ 168 ∷ 174 ∷ 175 ∷ 180 ∷ 182 ∷ 183 ∷ 188 ∷ 191 ∷ 197 ∷ 231 ∷ 239 ∷ [])
    ∷ (9 ∷ 142 ∷ 144 ∷ 145 ∷ 148 ∷ 159 ∷ 171 ∷ 206 ∷ 215 ∷ 225 ∷ 236 ∷ 237 ∷ [])
    ∷ (199 ∷ 207 ∷ 234 ∷ 235 ∷ [])
    ∷ (192 ∷ 193 ∷ 200 ∷ 201 ∷ 202 ∷ 205 ∷ 210 ∷ 213 ∷ 218 ∷ 219 ∷ 238 ∷ 240 ∷ 242 ∷ 243 ∷ 255 ∷ [])
    ∷ (203 ∷ 204 ∷ 211 ∷ 212 ∷ 214 ∷ 221 ∷ 222 ∷ 223 ∷ 241 ∷ 244 ∷ 245 ∷ 246 ∷ 247 ∷ 248 ∷ 250 ∷ 251 ∷ 252 ∷ 253 ∷ 254 ∷ [])
    ∷ (2 ∷ 3 ∷ 4 ∷ 5 ∷ 6 ∷ 7 ∷ 8 ∷ 11 ∷ 12 ∷ 14 ∷ 15 ∷ 16 ∷ 17 ∷ 18 ∷ 19 ∷ 20 ∷ 21 ∷ 23 ∷ 24 ∷ 25 ∷ 26 ∷ 27 ∷ 28 ∷ 29 ∷ 30 ∷ 31 ∷ 127 ∷ 220 ∷ 249 ∷ [])
    ∷ []
    ∷ (10 ∷ 13 ∷ 22 ∷ 256 ∷ [])
    ∷ []

-- bits that are not yet a code: how many, how far they are past the codes of that length, and that all are ones
pub record CodePrefix : Type 0 where
  pub bits : ℕ
  pub offset : ℕ
  pub ones : Bool

-- no bits
abbrev pub no_bits : CodePrefix
no_bits = record { bits = 0; offset = 0; ones = true }

-- one more bit, where so many codes have the length that it gives
abbrev pub longer : CodePrefix → ℕ → ℕ → CodePrefix
longer p b codes = record { bits = p.bits + 1; offset = 2 * p.offset + b - codes; ones = p.ones && b == 1 }

-- one more bit, with the symbols whose codes have the length that it gives: the symbol whose code it ends, and the bits that are not yet a code
abbrev pub ends_code : CodePrefix → ℕ → List ℕ → Option ℕ × CodePrefix
ends_code p b symbols = if nat_lt (2 * p.offset + b) (length symbols) then (slice_get symbols (2 * p.offset + b), no_bits) else (None, longer p b (length symbols))

-- one more bit
abbrev pub next_bit : CodePrefix → ℕ → Option ℕ × CodePrefix
next_bit p b = ends_code p b (slice_index_or symbols_by_length p.bits [])

-- a symbol, if there is one, before what goes on
abbrev pub spelled : Option ℕ → Option (List ℕ) → Option (List ℕ)
spelled None text = text
spelled (Some s) text = if s == 256 then None else option_map (λ (xs : List ℕ). s ∷ xs) text

-- bits that are left at the end are padding: at most seven, all of them ones
abbrev pub is_padding : CodePrefix → Bool
is_padding p = p.ones && nat_le p.bits 7

-- the text that bits spell, behind bits that are not yet a code
abbrev pub text_from : CodePrefix → List ℕ → Option (List ℕ)
text_from p [] = if is_padding p then Some [] else None
text_from p (b ∷ bs) = spelled (next_bit p b).0 (text_from (next_bit p b).1 bs)

-- the four bits of a number below 16, the highest first
abbrev pub four_bits : ℕ → List ℕ
four_bits n = n / 8 ∷ n / 4 % 2 ∷ n / 2 % 2 ∷ n % 2 ∷ []

-- the bits of bytes, the highest of each first
abbrev pub bits_of : List ℕ → List ℕ
bits_of [] = []
bits_of (b ∷ bs) = four_bits (b / 16) ++ (four_bits (b % 16) ++ bits_of bs)

-- the text that coded bytes spell
unfoldable pub huffman_text : List ℕ → Option (List ℕ)
huffman_text coded = text_from no_bits (bits_of coded)
