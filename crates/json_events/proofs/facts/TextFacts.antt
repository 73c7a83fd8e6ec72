-- Worked texts, computed, and that a text has its tokens in one way.
use Rattle.std.proofs.Common.{◌≡◌, ℕ, List, [], ◌∷◌, None, refl}
use Rattle.std.specs.Prelude.{codes}
use Rattle.std.specs.Char.{encode_utf8}
use Rattle.json_events.specs.declared.state.Bracket.TheVariants.{Array, Object}
use Rattle.json_events.specs.declared.state.Name.TheVariants as names
use Rattle.json_events.specs.JsonTree.{Json, Mark, opens, closes, key, text, digits, name}
use Rattle.json_events.specs.JsonText.{Span, IsTextWith}
use Rattle.json_events.specs.ReadingSteps.{reads, start}
use Rattle.json_events.proofs.texts.TokenLemmas.{text_of_reads}
use Rattle.json_events.proofs.texts.TokenRuns.{reads_of_text}

-- a text has its tokens in one way
pub one_way : (j k : Json) (s : List ℕ) (ts us : List Span) → IsTextWith j s ts → IsTextWith k s us → ts ≡ us
one_way j k s ts us x y = let a = reads_of_text j s ts x in let b = reads_of_text k s us y in cc (a, b)

-- what the machine refuses is no text
no_text : (s : List ℕ) → reads start s ≡ None → (j : Json) (ts : List Span) → IsTextWith j s ts → ⊥
no_text s e j ts x = let a = reads_of_text j s ts x in absurd (cc (a, e))

abbrev span : Mark → ℕ → ℕ → Span
span m from to = record { mark = m; from = from; to = to }

abbrev IsText : List ℕ → List Span → Type 0
IsText s ts = (j : Json) × IsTextWith j s ts

abbrev IsNoText : List ℕ → Type 0
IsNoText s = (j : Json) (ts : List Span) → IsTextWith j s ts → ⊥

-- white space, signs and numbers with their offsets
array_of_numbers : IsText (codes " [1,-2.5e+3]") (span (opens Array) 1 2 ∷ span (digits (codes "1")) 2 3 ∷ span (digits (codes "-2.5e+3")) 4 11 ∷ span (closes Array) 11 12 ∷ [])
array_of_numbers = text_of_reads (codes " [1,-2.5e+3]") _ refl

-- an object with a key, names and an empty string
object_of_names : IsText (codes "{\"a\" : [true,null,\"\"]}") (span (opens Object) 0 1 ∷ span (key (codes "a")) 1 4 ∷ span (opens Array) 7 8 ∷ span (name names.True) 8 12 ∷ span (name names.Null) 13 17 ∷ span (text []) 18 20 ∷ span (closes Array) 20 21 ∷ span (closes Object) 21 22 ∷ [])
object_of_names = text_of_reads (codes "{\"a\" : [true,null,\"\"]}") _ refl

-- the G clef, U+1D11E, as a surrogate pair (section 7)
g_clef_text : IsText (codes "\"\\uD834\\uDD1E\"") (span (text (240 ∷ 157 ∷ 132 ∷ 158 ∷ [])) 0 14 ∷ [])
unfolding encode_utf8
g_clef_text = text_of_reads (codes "\"\\uD834\\uDD1E\"") _ refl

-- a value of any kind is a text (section 2)
scalar_text : IsText (codes "false") (span (name names.False) 0 5 ∷ [])
scalar_text = text_of_reads (codes "false") _ refl

-- no text: nothing, a leading zero, a point without digits, a comma at the end, a name in capitals
empty_is_no_text : IsNoText []
empty_is_no_text = no_text [] refl

leading_zero_is_no_text : IsNoText (codes "01")
leading_zero_is_no_text = no_text (codes "01") refl

point_alone_is_no_text : IsNoText (codes "1.")
point_alone_is_no_text = no_text (codes "1.") refl

trailing_comma_is_no_text : IsNoText (codes "[1,]")
trailing_comma_is_no_text = no_text (codes "[1,]") refl

capitals_are_no_text : IsNoText (codes "True")
capitals_are_no_text = no_text (codes "True") refl

-- nor half of a surrogate pair, a control character in a string, a byte that continues nothing, or a byte
-- order mark (section 8.1)
lone_half_is_no_text : IsNoText (codes "\"\\uDC00\"")
lone_half_is_no_text = no_text (codes "\"\\uDC00\"") refl

first_half_is_no_text : IsNoText (codes "\"\\uD834\"")
unfolding encode_utf8
first_half_is_no_text = no_text (codes "\"\\uD834\"") refl

control_is_no_text : IsNoText (34 ∷ 31 ∷ 34 ∷ [])
control_is_no_text = no_text (34 ∷ 31 ∷ 34 ∷ []) refl

cut_character_is_no_text : IsNoText (34 ∷ 195 ∷ 34 ∷ [])
cut_character_is_no_text = no_text (34 ∷ 195 ∷ 34 ∷ []) refl

overlong_is_no_text : IsNoText (34 ∷ 192 ∷ 175 ∷ 34 ∷ [])
overlong_is_no_text = no_text (34 ∷ 192 ∷ 175 ∷ 34 ∷ []) refl

byte_order_mark_is_no_text : IsNoText (239 ∷ 187 ∷ 191 ∷ 49 ∷ [])
byte_order_mark_is_no_text = no_text (239 ∷ 187 ∷ 191 ∷ 49 ∷ []) refl
