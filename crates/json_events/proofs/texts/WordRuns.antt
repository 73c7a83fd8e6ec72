-- Each spelled mark is a word of the machine.
use Rattle.std.proofs.Common.{◌≡◌, ℕ, Bool, true, false, eqb, List, [], ◌∷◌, ◌++◌, Some, None, ⊎_elim, refl, sym, subst, arith}
use Rattle.std.specs.Prelude.{⊤, ◌||◌}
use Rattle.std.proofs.lemmas.Bool.{or_cases, cases_Bool, eqb-true}
use Rattle.std.proofs.lemmas.Bool.Decides.{nat_tests}
use Rattle.json_events.specs.declared.state.Bracket.TheVariants.{Array, Object}
use Rattle.json_events.specs.declared.state.Name.TheVariants as names
use Rattle.json_events.specs.declared.state.WordState.{WordState}
use Rattle.json_events.specs.declared.state.WordState.TheVariants.{Open, Close, Comma, Colon, Literal, Inside, Minus, Zero, Whole, Point, Fraction, Exponent, Sign, Power}
use Rattle.json_events.specs.declared.state.StringState.TheVariants.{Plain}
use Rattle.json_events.specs.JsonStrings.{IsString}
use Rattle.json_events.specs.JsonTree.{Mark, opens, closes, comma, colon, key, text, digits, name}
use Rattle.json_events.specs.NestingSteps.{kind_of}
use Rattle.json_events.specs.declared.state.Kind.TheVariants.{Scalar}
use Rattle.json_events.specs.WordSteps.{is_digit}
use Rattle.json_events.specs.JsonText.{is_blank, IsWord}
use Rattle.json_events.specs.JsonNumbers.{IsMinus, IsNumber}
use Rattle.json_events.proofs.numbers.NumberWords.{IsUnsigned}
use Rattle.json_events.specs.WordSteps.{Word, word, begin, some_digit, more_state, is_number, text_mark, mark_of, kind_state, word_from}
use Rattle.json_events.proofs.numbers.NumberWords.{Accepts, from_choice, minus_accepts, unsigned_of_number}
use Rattle.json_events.proofs.strings.StringRuns.{machine_of_string}
use Rattle.json_events.proofs.texts.WordLemmas.{of, number_complete, text_complete}

-- the flag fits the mark
abbrev pub FitsKey : Mark → Bool → Type 0
FitsKey (opens b) k = ⊤
FitsKey (closes b) k = ⊤
FitsKey comma k = ⊤
FitsKey colon k = ⊤
FitsKey (key s) k = k ≡ true
FitsKey (text s) k = k ≡ false
FitsKey (digits s) k = ⊤
FitsKey (name n) k = ⊤

-- the machine reads the word
abbrev pub Reads : Bool → Mark → List ℕ → Type 0
Reads k m w = (b : ℕ) × (t : List ℕ) × (x : Word) × (w ≡ b ∷ t) × (begin k b ≡ Some x) × (word_from (Some x) t ≡ Some m) × (kind_of m ≡ kind_state x.state x.is_key)

begins_zero : (k : Bool) (b : ℕ) → eqb b 48 ≡ true → begin k b ≡ word Zero k (b ∷ [])
begins_zero k b z = let e : b ≡ 48 = eqb-true b 48 z in subst (λ x. begin k x ≡ word Zero k (x ∷ [])) (sym e) refl

begins_whole : (k : Bool) (b : ℕ) → eqb b 48 ≡ false → is_digit b ≡ true → begin k b ≡ word Whole k (b ∷ [])
begins_whole k b n d = grind (arith, nat_tests)

unsigned_read : (k : Bool) (s : List ℕ) → Accepts (Some Minus) s → Reads k (digits s) s
unsigned_read k [] a = absurd a
unsigned_read k (b ∷ t) a =
    from_choice (λ o. Accepts o t) (eqb b 48) (Some Zero) (some_digit Whole b)
    (λ z x. (b, t, of Zero k (b ∷ []), refl, begins_zero k b z, number_complete t Zero k (b ∷ []) refl x, refl))
    (λ n r. from_choice (λ o. Accepts o t) (is_digit b) (Some Whole) None
    (λ d x. (b, t, of Whole k (b ∷ []), refl, begins_whole k b n d, number_complete t Whole k (b ∷ []) refl x, refl))
    (λ _ x. absurd x)
    r)
    a

minus_read : (k : Bool) (minus s : List ℕ) → IsMinus minus → IsUnsigned s → Reads k (digits (minus ++ s)) (minus ++ s)
minus_read k minus s m u = ⊎_elim
    (λ e. subst (λ (x : List ℕ). Reads k (digits (x ++ s)) (x ++ s)) (sym e) (unsigned_read k s (minus_accepts s u)))
    (λ e. subst (λ (x : List ℕ). Reads k (digits (x ++ s)) (x ++ s)) (sym e)
    (45, s, of Minus k (45 ∷ []), refl, refl, number_complete s Minus k (45 ∷ []) refl (minus_accepts s u), refl))
    m

number_read : (k : Bool) (s : List ℕ) → IsNumber s → Reads k (digits s) s
number_read k s n =
    let u = unsigned_of_number s n in
    subst (λ (x : List ℕ). Reads k (digits x) x) (sym u.2) (minus_read k u.0 u.1 u.3 u.4)

text_read : (k : Bool) (s w : List ℕ) → IsString s w → Reads k (text_mark k s) w
text_read k s w h =
    let r = machine_of_string s w h in
    (34, r.0, of (Inside Plain) k [], r.1, refl, text_complete r.0 Plain k [] s r.2, kind k)
  where
    kind : (k : Bool) → kind_of (text_mark k s) ≡ kind_state (Inside Plain) k
    kind true = refl
    kind false = refl

-- the machine reads each spelling of a mark
pub words_complete : (k : Bool) (m : Mark) (w : List ℕ) → FitsKey m k → IsWord m w → Reads k m w
words_complete k (opens Array) w f h = (91, [], of (Open Array) k [], h, refl, refl, refl)
words_complete k (opens Object) w f h = (123, [], of (Open Object) k [], h, refl, refl, refl)
words_complete k (closes Array) w f h = (93, [], of (Close Array) k [], h, refl, refl, refl)
words_complete k (closes Object) w f h = (125, [], of (Close Object) k [], h, refl, refl, refl)
words_complete k comma w f h = (44, [], of Comma k [], h, refl, refl, refl)
words_complete k colon w f h = (58, [], of Colon k [], h, refl, refl, refl)
words_complete k (key s) w f h = subst (λ c. Reads c (key s) w) (sym f) (text_read true s w h)
words_complete k (text s) w f h = subst (λ c. Reads c (text s) w) (sym f) (text_read false s w h)
words_complete k (digits s) w f h = subst (Reads k (digits s)) (sym h.0) (number_read k s h.1)
words_complete k (name names.True) w f h = (116, 114 ∷ 117 ∷ 101 ∷ [], of (Literal names.True 1) k [], h, refl, refl, refl)
words_complete k (name names.False) w f h = (102, 97 ∷ 108 ∷ 115 ∷ 101 ∷ [], of (Literal names.False 1) k [], h, refl, refl, refl)
words_complete k (name names.Null) w f h = (110, 117 ∷ 108 ∷ 108 ∷ [], of (Literal names.Null 1) k [], h, refl, refl, refl)

-- white space
blank_cases : (P : ℕ → Type 0) (b : ℕ) → is_blank b ≡ true → P 32 → P 9 → P 10 → P 13 → P b
blank_cases P b h p q r s =
    ⊎_elim (λ e. subst P (sym (eqb-true b 32 e)) p) (λ h. ⊎_elim (λ e. subst P (sym (eqb-true b 9 e)) q) (λ h.
    ⊎_elim (λ e. subst P (sym (eqb-true b 10 e)) r) (λ e. subst P (sym (eqb-true b 13 e)) s) (or_cases _ _ h)) (or_cases _ _ h)) (or_cases _ _ h)

-- a byte that begins a word is no white space
pub word_not_blank : (k : Bool) (b : ℕ) (x : Word) → begin k b ≡ Some x → is_blank b ≡ false
word_not_blank k b x h = ⊎_elim
    (λ (e : is_blank b ≡ true). let none : begin k b ≡ None = blank_cases (λ c. begin k c ≡ None) b e refl refl refl refl in absurd (cc))
    (λ e. e)
    (cases_Bool (is_blank b))

-- what may stand after a number
abbrev pub is_after : ℕ → Bool
is_after b = is_blank b || (eqb b 44 || (eqb b 93 || eqb b 125))

after_cases : (P : ℕ → Type 0) (b : ℕ) → is_after b ≡ true → P 32 → P 9 → P 10 → P 13 → P 44 → P 93 → P 125 → P b
after_cases P b h p q r s t u v = ⊎_elim (λ e. blank_cases P b e p q r s) (λ h.
    ⊎_elim (λ e. subst P (sym (eqb-true b 44 e)) t) (λ h.
    ⊎_elim (λ e. subst P (sym (eqb-true b 93 e)) u) (λ e. subst P (sym (eqb-true b 125 e)) v) (or_cases _ _ h)) (or_cases _ _ h)) (or_cases _ _ h)

-- a whole number takes none of it
pub number_stops : (l : WordState) (i : Bool) (held : List ℕ) (b : ℕ) (m : Mark) → is_number l ≡ true → mark_of l i held ≡ Some m → is_after b ≡ true → more_state l b ≡ None
number_stops (Open k) i held b m n h a = absurd (cc)
number_stops (Close k) i held b m n h a = absurd (cc)
number_stops Comma i held b m n h a = absurd (cc)
number_stops Colon i held b m n h a = absurd (cc)
number_stops (Literal x k) i held b m n h a = absurd (cc)
number_stops (Inside s) i held b m n h a = absurd (cc)
number_stops Minus i held b m n h a = absurd (cc)
number_stops Zero i held b m n h a = after_cases (λ c. more_state Zero c ≡ None) b a refl refl refl refl refl refl refl
number_stops Whole i held b m n h a = after_cases (λ c. more_state Whole c ≡ None) b a refl refl refl refl refl refl refl
number_stops Point i held b m n h a = absurd (cc)
number_stops Fraction i held b m n h a = after_cases (λ c. more_state Fraction c ≡ None) b a refl refl refl refl refl refl refl
number_stops Exponent i held b m n h a = absurd (cc)
number_stops Sign i held b m n h a = absurd (cc)
number_stops Power i held b m n h a = after_cases (λ c. more_state Power c ≡ None) b a refl refl refl refl refl refl refl

-- a number is a value without brackets
pub number_kind : (l : WordState) (i : Bool) → is_number l ≡ true → kind_state l i ≡ Scalar
number_kind (Open k) i n = absurd (cc)
number_kind (Close k) i n = absurd (cc)
number_kind Comma i n = absurd (cc)
number_kind Colon i n = absurd (cc)
number_kind (Literal x k) i n = absurd (cc)
number_kind (Inside s) i n = absurd (cc)
number_kind Minus i n = refl
number_kind Zero i n = refl
number_kind Whole i n = refl
number_kind Point i n = refl
number_kind Fraction i n = refl
number_kind Exponent i n = refl
number_kind Sign i n = refl
number_kind Power i n = refl
