-- The states of a reader of Huffman-coded strings that goes by four bits: each is the bits of a code that is not
-- yet whole. The states below 8 are so many ones.
use Rattle.std.specs.Prelude.{◌≡◌, ◌==◌, ◌<◌, nat_lt, ◌++◌, ℕ, Bool, true, false, List, [], ◌∷◌, if◌then◌else◌, get_or, Option, None}
use Rattle.std.specs.Option.{option_map}
use Rattle.hpack_codec.specs.Huffman.{CodePrefix, no_bits, four_bits, bits_of, text_from}

-- so many bits, so far past the codes of that length, and whether all are ones
abbrev pub at : ℕ → ℕ → Bool → CodePrefix
at bits offset ones = record { bits = bits; offset = offset; ones = ones }

-- the bits of each state
unfoldable pub states : List CodePrefix
states =
    at 0 0 true
    ∷ at 1 1 true
    ∷ at 2 3 true
    ∷ at 3 7 true
    ∷ at 4 15 true
    ∷ at 5 21 true
    ∷ at 6 17 true
    ∷ at 7 3 true
    ∷ at 1 0 false
    ∷ at 2 0 false
    ∷ at 2 1 false
    ∷ at 2 2 false
    ∷ at 3 0 false
    ∷ at 3 1 false
    ∷ at 3 2 false
    ∷ at 3 3 false
    ∷ at 3 4 false
    ∷ at 3 5 false
    ∷ at 3 6 false
    ∷ at 4 0 false
    ∷ at 4 1 false
    ∷ at 4 2 false
    ∷ at 4 3 false
    ∷ at 4 4 false
    ∷ at 4 5 false
    ∷ at 4 6 false
    ∷ at 4 7 false
    ∷ at 4 8 false
    ∷ at 4 9 false
    ∷ at 4 10 false
    ∷ at 4 11 false
    ∷ at 4 12 false
    ∷ at 4 13 false
    ∷ at 4 14 false
    ∷ at 5 0 false
    ∷ at 5 1 false
    ∷ at 5 2 false
    ∷ at 5 3 false
    ∷ at 5 4 false
    ∷ at 5 5 false
    ∷ at 5 6 false
    ∷ at 5 7 false
    ∷ at 5 8 false
    ∷ at 5 9 false
    ∷ at 5 10 false
    ∷ at 5 11 false
    ∷ at 5 12 false
    ∷ at 5 13 false
    ∷ at 5 14 false
    ∷ at 5 15 false
    ∷ at 5 16 false
    ∷ at 5 17 false
    ∷ at 5 18 false
    ∷ at 5 19 false
    ∷ at 5 20 false
    ∷ at 6 0 false
    ∷ at 6 1 false
    ∷ at 6 2 false
    ∷ at 6 3 false
    ∷ at 6 4 false
    ∷ at 6 5 false
    ∷ at 6 6 false
    ∷ at 6 7 false
    ∷ at 6 8 false
    ∷ at 6 9 false
    ∷ at 6 10 false
    ∷ at 6 11 false
    ∷ at 6 12 false
    ∷ at 6 13 false
    ∷ at 6 14 false
    ∷ at 6 15 false
    ∷ at 6 16 false
    ∷ at 7 0 false
    ∷ at 7 1 false
    ∷ at 7 2 false
    ∷ at 8 0 false
    ∷ at 8 1 true
    ∷ at 9 0 false
    ∷ at 9 1 false
    ∷ at 9 2 false
    ∷ at 9 3 true
    ∷ at 10 0 false
    ∷ at 10 1 false
    ∷ at 10 2 true
    ∷ at 11 0 false
    ∷ at 11 1 false
    ∷ at 11 2 true
    ∷ at 12 0 false
    ∷ at 12 1 false
    ∷ at 12 2 false
    ∷ at 12 3 true
    ∷ at 13 0 false
    ∷ at 13 1 true
    ∷ at 14 0 false
    ∷ at 14 1 true
    ∷ at 15 0 true
    ∷ at 16 0 false
    ∷ at 16 1 true
    ∷ at 17 0 false
    ∷ at 17 1 false
    ∷ at 17 2 false
    ∷ at 17 3 true
    ∷ at 18 0 false
    ∷ at 18 1 false
    ∷ at 18 2 false
    ∷ at 18 3 false
    ∷ at 18 4 false
    ∷ at 18 5 false
    ∷ at 18 6 false
    ∷ at 18 7 true
    ∷ at 19 0 false
    ∷ at 19 1 false
    ∷ at 19 2 false
    ∷ at 19 3 false
    ∷ at 19 4 false
    ∷ at 19 5 false
    ∷ at 19 6 false
    ∷ at 19 7 false
    ∷ at 19 8 false
    ∷ at 19 9 false
    ∷ at 19 10 false
    ∷ at 19 11 false
    ∷ at 19 12 true
    ∷ at 20 0 false
    ∷ at 20 1 false
    ∷ at 20 2 false
    ∷ at 20 3 false
    ∷ at 20 4 false
    ∷ at 20 5 false
    ∷ at 20 6 false
    ∷ at 20 7 false
    ∷ at 20 8 false
    ∷ at 20 9 false
    ∷ at 20 10 false
    ∷ at 20 11 false
    ∷ at 20 12 false
    ∷ at 20 13 false
    ∷ at 20 14 false
    ∷ at 20 15 false
    ∷ at 20 16 false
    ∷ at 20 17 true
    ∷ at 21 0 false
    ∷ at 21 1 false
    ∷ at 21 2 false
    ∷ at 21 3 false
    ∷ at 21 4 false
    ∷ at 21 5 false
    ∷ at 21 6 false
    ∷ at 21 7 false
    ∷ at 21 8 false
    ∷ at 21 9 false
    ∷ at 21 10 false
    ∷ at 21 11 false
    ∷ at 21 12 false
    ∷ at 21 13 false
    ∷ at 21 14 false
    ∷ at 21 15 false
    ∷ at 21 16 false
    ∷ at 21 17 false
    ∷ at 21 18 false
    ∷ at 21 19 false
    ∷ at 21 20 false
    ∷ at 21 21 false
    ∷ at 21 22 true
    ∷ at 22 0 false
    ∷ at 22 1 false
    ∷ at 22 2 false
    ∷ at 22 3 false
    ∷ at 22 4 false
    ∷ at 22 5 false
    ∷ at 22 6 false
    ∷ at 22 7 false
    ∷ at 22 8 false
    ∷ at 22 9 false
    ∷ at 22 10 false
    ∷ at 22 11 false
    ∷ at 22 12 false
    ∷ at 22 13 false
    ∷ at 22 14 false
    ∷ at 22 15 false
    ∷ at 22 16 false
    ∷ at 22 17 false
    ∷ at 22 18 false
    ∷ at 22 19 true
    ∷ at 23 0 false
    ∷ at 23 1 false
    ∷ at 23 2 false
    ∷ at 23 3 false
    ∷ at 23 4 false
    ∷ at 23 5 false
    ∷ at 23 6 false
    ∷ at 23 7 false
    ∷ at 23 8 false
    ∷ at 23 9 false
    ∷ at 23 10 true
    ∷ at 24 0 false
    ∷ at 24 1 false
    ∷ at 24 2 false
    ∷ at 24 3 false
    ∷ at 24 4 false
    ∷ at 24 5 false
    ∷ at 24 6 false
    ∷ at 24 7 false
    ∷ at 24 8 false
    ∷ at 24 9 true
    ∷ at 25 0 false
    ∷ at 25 1 false
    ∷ at 25 2 false
    ∷ at 25 3 false
    ∷ at 25 4 false
    ∷ at 25 5 false
    ∷ at 25 6 false
    ∷ at 25 7 false
    ∷ at 25 8 false
    ∷ at 25 9 false
    ∷ at 25 10 false
    ∷ at 25 11 false
    ∷ at 25 12 false
    ∷ at 25 13 false
    ∷ at 25 14 false
    ∷ at 25 15 true
    ∷ at 26 0 false
    ∷ at 26 1 false
    ∷ at 26 2 false
    ∷ at 26 3 false
    ∷ at 26 4 false
    ∷ at 26 5 false
    ∷ at 26 6 false
    ∷ at 26 7 false
    ∷ at 26 8 false
    ∷ at 26 9 false
    ∷ at 26 10 false
    ∷ at 26 11 false
    ∷ at 26 12 false
    ∷ at 26 13 false
    ∷ at 26 14 false
    ∷ at 26 15 false
    ∷ at 26 16 true
    ∷ at 27 0 false
    ∷ at 27 1 false
    ∷ at 27 2 false
    ∷ at 27 3 false
    ∷ at 27 4 false
    ∷ at 27 5 false
    ∷ at 27 6 false
    ∷ at 27 7 false
    ∷ at 27 8 false
    ∷ at 27 9 false
    ∷ at 27 10 false
    ∷ at 27 11 false
    ∷ at 27 12 false
    ∷ at 27 13 false
    ∷ at 27 14 true
    ∷ at 28 0 true
    ∷ at 29 0 false
    ∷ at 29 1 true
    ∷ []

-- the bits of the state of this number
abbrev pub state_of : ℕ → CodePrefix
state_of s = get_or states s no_bits

-- the text behind an entry of the table: 256 ends no code, 257 ends a string, and others are the symbol whose code ends
abbrev pub spelled_by : ℕ → Option (List ℕ) → Option (List ℕ)
spelled_by y text = if y == 256 then text else (if y == 257 then None else option_map (λ (xs : List ℕ). y ∷ xs) text)

-- what four bits do behind a state: an entry of the table, and the next state
pub record IsStep (state four symbol next : ℕ) : Type 0 where
  pub small : symbol < 258
  pub spells : (more : List ℕ) → text_from (state_of state) (four_bits four ++ more) ≡ spelled_by symbol (text_from (state_of next) more)

-- the text that bits spell behind a state, where so much was spelled before
abbrev pub after_text : List ℕ → Option (List ℕ) → Option (List ℕ)
after_text front text = option_map (λ (xs : List ℕ). front ++ xs) text

-- the text of an entry that ends no string
abbrev pub symbol_text : ℕ → List ℕ
symbol_text y = if nat_lt y 256 then y ∷ [] else []

-- what two steps do, of the bits of one byte: two entries of the table, and the next state
pub record IsByteStep (state byte first second next : ℕ) : Type 0 where
  pub first_small : first < 258
  pub second_small : second < 258
  pub spells : (more : List ℕ) → text_from (state_of state) (bits_of (byte ∷ more)) ≡ spelled_by first (spelled_by second (text_from (state_of next) (bits_of more)))
