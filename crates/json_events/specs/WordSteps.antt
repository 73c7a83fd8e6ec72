-- The words of a text as a machine that takes one byte at a time.
use Rattle.std.specs.Prelude.{ℕ, ◌+◌, List, [], ◌∷◌, ◌++◌, length, Bool, true, false, Option, Some, None, option_map, if◌then◌else◌, nat_le, ◌==◌, ◌&&◌, ◌||◌, slice_get}
use Rattle.json_events.specs.declared.state.Bracket.TheVariants.{Array, Object}
use Rattle.json_events.specs.declared.state.Name.{Name}
use Rattle.json_events.specs.declared.state.Name.TheVariants as names
use Rattle.json_events.specs.declared.state.StringState.TheVariants.{Plain}
use Rattle.json_events.specs.declared.state.WordState.{WordState}
use Rattle.json_events.specs.declared.state.WordState.TheVariants.{Open, Close, Comma, Colon, Literal, Inside, Minus, Zero, Whole, Point, Fraction, Exponent, Sign, Power}
use Rattle.json_events.specs.declared.state.Kind.{Kind}
use Rattle.json_events.specs.declared.state.Kind.TheVariants.{Opening, Closing, Separator, Between, Naming, Scalar}
use Rattle.json_events.specs.JsonTree.{Mark, opens, closes, comma, colon, key, text, digits, name}
use Rattle.json_events.specs.JsonText.{spelling}
use Rattle.json_events.specs.StringSteps.{more_string, string_adds, string_end}

-- a decimal digit
abbrev pub is_digit : ℕ → Bool
is_digit b = nat_le 48 b && nat_le b 57

-- the letter of an exponent
abbrev pub is_e : ℕ → Bool
is_e b = b == 101 || b == 69

-- a plus or a minus
abbrev pub is_sign : ℕ → Bool
is_sign b = b == 43 || b == 45

-- a word so far: its state, whether it stands where a key is wanted, and what is kept of it
pub record Word : Type 0 where
  pub state : WordState
  pub is_key : Bool
  pub held : List ℕ

-- a word that there is
abbrev pub word : WordState → Bool → List ℕ → Option Word
word l in_key held = Some (record { state = l; is_key = in_key; held = held })

-- the word that a byte begins
abbrev pub begin : Bool → ℕ → Option Word
begin in_key b =
    if b == 34 then word (Inside Plain) in_key []
    else (if b == 91 then word (Open Array) in_key []
    else (if b == 93 then word (Close Array) in_key []
    else (if b == 123 then word (Open Object) in_key []
    else (if b == 125 then word (Close Object) in_key []
    else (if b == 44 then word Comma in_key []
    else (if b == 58 then word Colon in_key []
    else (if b == 45 then word Minus in_key (b ∷ [])
    else (if b == 48 then word Zero in_key (b ∷ [])
    else (if is_digit b then word Whole in_key (b ∷ [])
    else (if b == 116 then word (Literal names.True 1) in_key []
    else (if b == 102 then word (Literal names.False 1) in_key []
    else (if b == 110 then word (Literal names.Null 1) in_key []
    else None))))))))))))

-- behind an integer part
abbrev pub after_int : ℕ → Option WordState
after_int b = if b == 46 then Some Point else (if is_e b then Some Exponent else None)

-- to this state by a digit
abbrev pub some_digit : WordState → ℕ → Option WordState
some_digit l b = if is_digit b then Some l else None

-- the next letter of a literal name
abbrev pub letter : Name → ℕ → Option ℕ → ℕ → Option WordState
letter n k None b = None
letter n k (Some c) b = if b == c then Some (Literal n (k + 1)) else None

-- the state behind one more byte, where the word may have it
abbrev pub more_state : WordState → ℕ → Option WordState
more_state (Open k) b = None
more_state (Close k) b = None
more_state Comma b = None
more_state Colon b = None
more_state (Literal n k) b = letter n k (slice_get (spelling n) k) b
more_state (Inside s) b = option_map Inside (more_string s b)
more_state Minus b = if b == 48 then Some Zero else some_digit Whole b
more_state Zero b = after_int b
more_state Whole b = if is_digit b then Some Whole else after_int b
more_state Point b = some_digit Fraction b
more_state Fraction b = if is_digit b then Some Fraction else (if is_e b then Some Exponent else None)
more_state Exponent b = if is_sign b then Some Sign else some_digit Power b
more_state Sign b = some_digit Power b
more_state Power b = some_digit Power b

-- the words that end only where something else follows
abbrev pub is_number : WordState → Bool
is_number (Open k) = false
is_number (Close k) = false
is_number Comma = false
is_number Colon = false
is_number (Literal n k) = false
is_number (Inside s) = false
is_number Minus = true
is_number Zero = true
is_number Whole = true
is_number Point = true
is_number Fraction = true
is_number Exponent = true
is_number Sign = true
is_number Power = true

-- what is kept with one more byte: the bytes of a number, the text of a string
abbrev pub held_on : WordState → List ℕ → ℕ → List ℕ
held_on (Open k) held b = held
held_on (Close k) held b = held
held_on Comma held b = held
held_on Colon held b = held
held_on (Literal n k) held b = held
held_on (Inside s) held b = held ++ string_adds s b
held_on Minus held b = held ++ b ∷ []
held_on Zero held b = held ++ b ∷ []
held_on Whole held b = held ++ b ∷ []
held_on Point held b = held ++ b ∷ []
held_on Fraction held b = held ++ b ∷ []
held_on Exponent held b = held ++ b ∷ []
held_on Sign held b = held ++ b ∷ []
held_on Power held b = held ++ b ∷ []

-- the word with one more byte, where it may have it
abbrev pub more : Word → ℕ → Option Word
more w b = option_map (λ l. record { state = l; is_key = w.is_key; held = held_on w.state w.held b }) (more_state w.state b)

-- what is held behind the first byte
abbrev pub first_held : WordState → ℕ → List ℕ
first_held l b = if is_number l then b ∷ [] else []

-- a string, where a key is wanted or not
abbrev pub text_mark : Bool → List ℕ → Mark
text_mark in_key s = if in_key then key s else text s

-- what the word is, where it is whole
abbrev pub mark_of : WordState → Bool → List ℕ → Option Mark
mark_of (Open k) in_key held = Some (opens k)
mark_of (Close k) in_key held = Some (closes k)
mark_of Comma in_key held = Some comma
mark_of Colon in_key held = Some colon
mark_of (Literal n k) in_key held = if k == length (spelling n) then Some (name n) else None
mark_of (Inside s) in_key held = option_map (text_mark in_key) (string_end s held)
mark_of Minus in_key held = None
mark_of Zero in_key held = Some (digits held)
mark_of Whole in_key held = Some (digits held)
mark_of Point in_key held = None
mark_of Fraction in_key held = Some (digits held)
mark_of Exponent in_key held = None
mark_of Sign in_key held = None
mark_of Power in_key held = Some (digits held)

-- the kind of mark that the word becomes
abbrev pub kind_state : WordState → Bool → Kind
kind_state (Open k) in_key = Opening k
kind_state (Close k) in_key = Closing k
kind_state Comma in_key = Separator
kind_state Colon in_key = Between
kind_state (Literal n k) in_key = Scalar
kind_state (Inside s) in_key = if in_key then Naming else Scalar
kind_state Minus in_key = Scalar
kind_state Zero in_key = Scalar
kind_state Whole in_key = Scalar
kind_state Point in_key = Scalar
kind_state Fraction in_key = Scalar
kind_state Exponent in_key = Scalar
kind_state Sign in_key = Scalar
kind_state Power in_key = Scalar

-- what the word is once these bytes came, where it is whole then
abbrev pub word_from : Option Word → List ℕ → Option Mark
word_from None t = None
word_from (Some w) [] = mark_of w.state w.is_key w.held
word_from (Some w) (b ∷ t) = word_from (more w b) t
