-- The level of a place: how many brackets are open there.
use Rattle.std.proofs.Common.{◌≡◌, ℕ, ◌+◌, ◌-◌, Bool, true, false, cond, eqb, List, [], ◌∷◌, length, Option, Some, None, refl, sym, ap, arith}
use Rattle.std.specs.Prelude.{⊤, option_map}
use Rattle.json_events.specs.declared.state.Bracket.{Bracket}
use Rattle.json_events.specs.declared.state.Bracket.TheVariants.{Array, Object}
use Rattle.json_events.specs.declared.state.Want.{Want}
use Rattle.json_events.specs.declared.state.Want.TheVariants as want
use Rattle.json_events.specs.declared.state.WordState.{WordState}
use Rattle.json_events.specs.declared.state.WordState.TheVariants.{Open, Close, Comma, Colon, Literal, Inside, Minus, Zero, Whole, Point, Fraction, Exponent, Sign, Power}
use Rattle.json_events.specs.declared.state.Kind.{Kind}
use Rattle.json_events.specs.declared.state.Kind.TheVariants.{Opening, Closing, Separator, Between, Naming, Scalar}
use Rattle.json_events.specs.JsonTree.{Mark, opens, closes, comma, colon, key, text, digits, name}
use Rattle.json_events.specs.JsonText.{with_token, spelling}
use Rattle.json_events.specs.StringSteps.{string_end}
use Rattle.json_events.specs.WordSteps.{text_mark, mark_of, kind_state}
use Rattle.json_events.specs.WordStates.{IsOpen}
use Rattle.json_events.specs.NestingSteps.{Place, kind_of, next_in}
use Rattle.json_events.specs.JsonTokens.{level_behind, level_from, level_in}
use Rattle.json_events.proofs.numbers.NumberWords.{from_choice}

-- how many brackets are open behind a mark of the kind
abbrev pub kind_level : Kind → ℕ → ℕ
kind_level (Opening b) n = n + 1
kind_level (Closing b) n = n - 1
kind_level Separator n = n
kind_level Between n = n
kind_level Naming n = n
kind_level Scalar n = n

-- a mark opens and closes as its kind does
pub mark_level : (m : Mark) (n : ℕ) → level_behind m n ≡ kind_level (kind_of m) n
mark_level (opens b) n = refl
mark_level (closes b) n = refl
mark_level comma n = refl
mark_level colon n = refl
mark_level (key s) n = refl
mark_level (text s) n = refl
mark_level (digits s) n = refl
mark_level (name s) n = refl

-- one token changes the level by its mark
pub token_level : (m : Mark) (from to n : ℕ) → level_from n (with_token m from to []) ≡ level_behind m n
token_level (opens b) from to n = refl
token_level (closes b) from to n = refl
token_level comma from to n = refl
token_level colon from to n = refl
token_level (key s) from to n = refl
token_level (text s) from to n = refl
token_level (digits s) from to n = refl
token_level (name s) from to n = refl

-- a mark that may come changes the level of the place
abbrev pub LevelAt : Option Place → ℕ → Type 0
LevelAt None n = ⊤
LevelAt (Some q) n = level_in q.want q.around ≡ n

-- the place behind a mark has the level behind its kind
pub next_level : (w : Want) (st : List Bracket) (k : Kind) → LevelAt (next_in w st k) (kind_level k (level_in w st))
next_level want.Value st (Opening Array) = refl
next_level want.Value st (Opening Object) = refl
next_level want.Value st (Closing b) = tt
next_level want.Value st Separator = tt
next_level want.Value st Between = tt
next_level want.Value st Naming = tt
next_level want.Value st Scalar = refl
next_level want.FirstItem st (Opening Array) = omega arith
next_level want.FirstItem st (Opening Object) = omega arith
next_level want.FirstItem st (Closing Array) = omega arith
next_level want.FirstItem st (Closing Object) = tt
next_level want.FirstItem st Separator = tt
next_level want.FirstItem st Between = tt
next_level want.FirstItem st Naming = tt
next_level want.FirstItem st Scalar = omega arith
next_level want.FirstKey st (Opening b) = tt
next_level want.FirstKey st (Closing Array) = tt
next_level want.FirstKey st (Closing Object) = omega arith
next_level want.FirstKey st Separator = tt
next_level want.FirstKey st Between = tt
next_level want.FirstKey st Naming = refl
next_level want.FirstKey st Scalar = tt
next_level want.Key st (Opening b) = tt
next_level want.Key st (Closing b) = tt
next_level want.Key st Separator = tt
next_level want.Key st Between = tt
next_level want.Key st Naming = refl
next_level want.Key st Scalar = tt
next_level want.Colon st (Opening b) = tt
next_level want.Colon st (Closing b) = tt
next_level want.Colon st Separator = tt
next_level want.Colon st Between = omega arith
next_level want.Colon st Naming = tt
next_level want.Colon st Scalar = tt
next_level want.After [] k = tt
next_level want.After (b ∷ st) (Opening c) = tt
next_level want.After (Array ∷ st) (Closing Array) = omega arith
next_level want.After (Array ∷ st) (Closing Object) = tt
next_level want.After (Object ∷ st) (Closing Array) = tt
next_level want.After (Object ∷ st) (Closing Object) = omega arith
next_level want.After (Array ∷ st) Separator = refl
next_level want.After (Object ∷ st) Separator = omega arith
next_level want.After (b ∷ st) Between = tt
next_level want.After (b ∷ st) Naming = tt
next_level want.After (b ∷ st) Scalar = tt

-- the mark of a whole word has its kind
text_kind : (i : Bool) (o : Option (List ℕ)) (m : Mark) → option_map (text_mark i) o ≡ Some m → kind_of m ≡ cond i Naming Scalar
text_kind i None m h = absurd (cc)
text_kind true (Some s) m h = let same : key s ≡ m = cc in ap kind_of (sym same)
text_kind false (Some s) m h = let same : text s ≡ m = cc in ap kind_of (sym same)

the_kind : (m n : Mark) → Some m ≡ Some n → kind_of n ≡ kind_of m
the_kind m n h = let same : m ≡ n = cc in ap kind_of (sym same)

-- the mark of a word has the kind of its state
pub mark_kind : (l : WordState) (i : Bool) (held : List ℕ) (m : Mark) → mark_of l i held ≡ Some m → kind_of m ≡ kind_state l i
mark_kind (Open b) i held m h = the_kind (opens b) m h
mark_kind (Close b) i held m h = the_kind (closes b) m h
mark_kind Comma i held m h = the_kind comma m h
mark_kind Colon i held m h = the_kind colon m h
mark_kind (Literal n k) i held m h =
    from_choice {X = Option Mark} (λ o. o ≡ Some m) (eqb k (length (spelling n))) (Some (name n)) None (λ _ x. the_kind (name n) m x) (λ _ x. absurd (cc)) h
mark_kind (Inside s) i held m h = text_kind i (string_end s held) m h
mark_kind Minus i held m h = absurd (cc)
mark_kind Zero i held m h = the_kind (digits held) m h
mark_kind Whole i held m h = the_kind (digits held) m h
mark_kind Point i held m h = absurd (cc)
mark_kind Fraction i held m h = the_kind (digits held) m h
mark_kind Exponent i held m h = absurd (cc)
mark_kind Sign i held m h = absurd (cc)
mark_kind Power i held m h = the_kind (digits held) m h

-- a word that goes on, or has gone on, is no bracket
abbrev pub NoBracket : WordState → Type 0
NoBracket (Open b) = ⊥
NoBracket (Close b) = ⊥
NoBracket Comma = ⊤
NoBracket Colon = ⊤
NoBracket (Literal n k) = ⊤
NoBracket (Inside s) = ⊤
NoBracket Minus = ⊤
NoBracket Zero = ⊤
NoBracket Whole = ⊤
NoBracket Point = ⊤
NoBracket Fraction = ⊤
NoBracket Exponent = ⊤
NoBracket Sign = ⊤
NoBracket Power = ⊤

-- a word that is no bracket keeps the level
pub no_bracket_level : (l : WordState) (i : Bool) (n : ℕ) → NoBracket l → kind_level (kind_state l i) n ≡ n
no_bracket_level (Open b) i n h = absurd h
no_bracket_level (Close b) i n h = absurd h
no_bracket_level Comma i n h = refl
no_bracket_level Colon i n h = refl
no_bracket_level (Literal a k) i n h = refl
no_bracket_level (Inside s) true n h = refl
no_bracket_level (Inside s) false n h = refl
no_bracket_level Minus i n h = refl
no_bracket_level Zero i n h = refl
no_bracket_level Whole i n h = refl
no_bracket_level Point i n h = refl
no_bracket_level Fraction i n h = refl
no_bracket_level Exponent i n h = refl
no_bracket_level Sign i n h = refl
no_bracket_level Power i n h = refl

-- a word that has not ended is no bracket
pub open_no_bracket : (l : WordState) → IsOpen l → NoBracket l
open_no_bracket (Open b) h = absurd h
open_no_bracket (Close b) h = absurd h
open_no_bracket Comma h = tt
open_no_bracket Colon h = tt
open_no_bracket (Literal n k) h = tt
open_no_bracket (Inside s) h = tt
open_no_bracket Minus h = tt
open_no_bracket Zero h = tt
open_no_bracket Whole h = tt
open_no_bracket Point h = tt
open_no_bracket Fraction h = tt
open_no_bracket Exponent h = tt
open_no_bracket Sign h = tt
open_no_bracket Power h = tt
