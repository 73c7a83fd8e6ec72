-- What is kept of a word is UTF-8, but for a character that has not ended.
use Rattle.std.specs.Prelude.{◌≡◌, ℕ, zero, suc, ◌-◌, List, [], ◌∷◌, ◌++◌, IsTrue, Option, Some, None, ⊤}
use Rattle.std.specs.Str.{IsUtf8}
use Rattle.json_events.specs.declared.state.StringState.{StringState}
use Rattle.json_events.specs.declared.state.StringState.TheVariants.{Plain, Continuation, Escape, Hex, LowSolidus, LowU, Low, Closed}
use Rattle.json_events.specs.declared.state.WordState.{WordState}
use Rattle.json_events.specs.declared.state.WordState.TheVariants.{Open, Close, Comma, Colon, Literal, Inside, Minus, Zero, Whole, Point, Fraction, Exponent, Sign, Power}
use Rattle.json_events.specs.StringSteps.{within}

-- the bytes that end a character: the first is within these, and so many follow it
abbrev pub IsTail : ℕ → ℕ → ℕ → List ℕ → Type 0
IsTail low high zero bs = (b : ℕ) × (bs ≡ b ∷ []) × IsTrue (within low high b)
IsTail low high (suc n) bs = (b : ℕ) × (rest : List ℕ) × (bs ≡ b ∷ rest) × IsTrue (within low high b) × IsTail 128 191 n rest

-- what is kept of a string, by its state
abbrev pub HoldsText : StringState → List ℕ → Type 0
HoldsText Plain held = IsUtf8 held
HoldsText (Continuation low high n) held = (bs : List ℕ) → IsTail low high n bs → IsUtf8 (held ++ bs)
HoldsText Escape held = IsUtf8 held
HoldsText (Hex k v) held = IsUtf8 held
HoldsText (LowSolidus h) held = IsUtf8 held
HoldsText (LowU h) held = IsUtf8 held
HoldsText (Low h k v) held = IsUtf8 held
HoldsText Closed held = IsUtf8 held

-- what is kept of a word
abbrev pub HoldsWord : WordState → List ℕ → Type 0
HoldsWord (Open b) held = ⊤
HoldsWord (Close b) held = ⊤
HoldsWord Comma held = ⊤
HoldsWord Colon held = ⊤
HoldsWord (Literal n k) held = ⊤
HoldsWord (Inside s) held = HoldsText s held
HoldsWord Minus held = IsUtf8 held
HoldsWord Zero held = IsUtf8 held
HoldsWord Whole held = IsUtf8 held
HoldsWord Point held = IsUtf8 held
HoldsWord Fraction held = IsUtf8 held
HoldsWord Exponent held = IsUtf8 held
HoldsWord Sign held = IsUtf8 held
HoldsWord Power held = IsUtf8 held

-- what is kept where a word may have begun; nothing is said of no word
abbrev pub HoldsAt : Option WordState → List ℕ → Type 0
HoldsAt None held = ⊤
HoldsAt (Some l) held = HoldsWord l held

-- what is kept of the word that has begun, and nothing where none has
abbrev pub HoldsOnly : Option WordState → List ℕ → Type 0
HoldsOnly None held = held ≡ []
HoldsOnly (Some l) held = HoldsWord l held

-- how many of the bytes that came of a string are not kept, at least
abbrev pub unkept : StringState → ℕ
unkept Plain = 1
unkept (Continuation low high n) = 1
unkept Escape = 2
unkept (Hex k v) = 7 - k
unkept (LowSolidus h) = 7
unkept (LowU h) = 8
unkept (Low h k v) = 13 - k
unkept Closed = 0

-- the same of a word
abbrev pub unkept_of : WordState → ℕ
unkept_of (Open b) = 0
unkept_of (Close b) = 0
unkept_of Comma = 0
unkept_of Colon = 0
unkept_of (Literal n k) = 0
unkept_of (Inside s) = unkept s
unkept_of Minus = 0
unkept_of Zero = 0
unkept_of Whole = 0
unkept_of Point = 0
unkept_of Fraction = 0
unkept_of Exponent = 0
unkept_of Sign = 0
unkept_of Power = 0
