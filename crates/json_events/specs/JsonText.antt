-- JSON texts (RFC 8259, section 2): white space, and the spelled marks of a tree.
use Rattle.std.specs.Prelude.{◌≡◌, ℕ, ◌+◌, List, [], ◌∷◌, ◌++◌, length, Bool, IsTrue, ◌==◌, ◌||◌, codes}
use Rattle.std.specs.List.{list_all}
use Rattle.json_events.specs.declared.state.Bracket.TheVariants.{Array, Object}
use Rattle.json_events.specs.declared.state.Name.{Name}
use Rattle.json_events.specs.declared.state.Name.TheVariants as names
use Rattle.json_events.specs.JsonStrings.{IsString}
use Rattle.json_events.specs.JsonNumbers.{IsNumber}
use Rattle.json_events.specs.JsonTree.{Json, Mark, opens, closes, comma, colon, key, text, digits, name, with_value}

-- white space: space, tab, line feed and carriage return
abbrev pub is_blank : ℕ → Bool
is_blank b = b == 32 || (b == 9 || (b == 10 || b == 13))

-- the bytes are white space alone
abbrev pub IsBlank : List ℕ → Type 0
IsBlank s = IsTrue (list_all is_blank s)

-- the letters of the literal names (section 3)
abbrev pub spelling : Name → List ℕ
spelling names.True = codes "true"
spelling names.False = codes "false"
spelling names.Null = codes "null"

-- the bytes spell the mark: a structural character (section 2), a literal name (section 3), a number
-- (section 6), which keeps its spelling, or a string (section 7), which is what it stands for
abbrev pub IsWord : Mark → List ℕ → Type 0
IsWord (opens Array) w = w ≡ 91 ∷ []
IsWord (opens Object) w = w ≡ 123 ∷ []
IsWord (closes Array) w = w ≡ 93 ∷ []
IsWord (closes Object) w = w ≡ 125 ∷ []
IsWord comma w = w ≡ 44 ∷ []
IsWord colon w = w ≡ 58 ∷ []
IsWord (key s) w = IsString s w
IsWord (text s) w = IsString s w
IsWord (digits s) w = (w ≡ s) × IsNumber s
IsWord (name n) w = w ≡ spelling n

-- some bytes spell the mark
abbrev pub HasWord : Mark → Type 0
HasWord m = (w : List ℕ) × IsWord m w

-- a token, with the offsets where it begins and ends
pub record Span : Type 0 where
  pub mark : Mark
  pub from : ℕ
  pub to : ℕ

-- the marks of tokens
abbrev pub marks_of : List Span → List Mark
marks_of [] = []
marks_of (t ∷ ts) = t.mark ∷ marks_of ts

-- commas and colons are no tokens
abbrev pub with_token : Mark → ℕ → ℕ → List Span → List Span
with_token (opens b) from to ts = record { mark = opens b; from = from; to = to } ∷ ts
with_token (closes b) from to ts = record { mark = closes b; from = from; to = to } ∷ ts
with_token comma from to ts = ts
with_token colon from to ts = ts
with_token (key s) from to ts = record { mark = key s; from = from; to = to } ∷ ts
with_token (text s) from to ts = record { mark = text s; from = from; to = to } ∷ ts
with_token (digits s) from to ts = record { mark = digits s; from = from; to = to } ∷ ts
with_token (name n) from to ts = record { mark = name n; from = from; to = to } ∷ ts

-- from an offset on, the bytes are these marks, each spelled, with white space around them, and
-- these are the tokens
abbrev pub Spells : ℕ → List Mark → List ℕ → List Span → Type 0
Spells at [] s ts = IsBlank s × (ts ≡ [])
Spells at (m ∷ ms) s ts =
    (blank word rest : List ℕ) × (more : List Span) × (s ≡ blank ++ (word ++ rest)) × IsBlank blank × IsWord m word
    × Spells (at + length blank + length word) ms rest more
    × (ts ≡ with_token m (at + length blank) (at + length blank + length word) more)

-- the bytes are a text of the tree, and these are its tokens
abbrev pub IsTextWith : Json → List ℕ → List Span → Type 0
IsTextWith j s ts = Spells 0 (with_value j []) s ts

-- the bytes are a text of the tree
abbrev pub IsTextOf : Json → List ℕ → Type 0
IsTextOf j s = (ts : List Span) × IsTextWith j s ts

-- some bytes complete it
abbrev pub BeginsText : List ℕ → Type 0
BeginsText s = (more : List ℕ) × (j : Json) × IsTextOf j (s ++ more)
