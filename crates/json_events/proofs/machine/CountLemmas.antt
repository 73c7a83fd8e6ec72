-- A step counts its byte, and keeps as many brackets as the tokens leave open.
use Rattle.std.proofs.Common.{◌≡◌, ℕ, ◌+◌, Bool, true, false, cond, eqb, List, [], ◌∷◌, ◌++◌, length, Option, Some, None, refl, sym, ap, ◌∙◌, subst, arith}
use Rattle.base.proofs.EachLemmas.{each_joined}
use Rattle.std.specs.Prelude.{⊤, option_map, slice_get}
use Rattle.std.proofs.lemmas.List.{length-append}
use Rattle.json_events.specs.declared.state.Name.{Name}
use Rattle.json_events.specs.declared.state.StringState.{StringState}
use Rattle.json_events.specs.declared.state.WordState.{WordState}
use Rattle.json_events.specs.declared.state.WordState.TheVariants.{Open, Close, Comma, Colon, Literal, Inside, Minus, Zero, Whole, Point, Fraction, Exponent, Sign, Power}
use Rattle.json_events.specs.JsonTree.{Mark}
use Rattle.json_events.specs.JsonText.{Span, with_token, spelling, is_blank}
use Rattle.json_events.specs.StringSteps.{more_string}
use Rattle.json_events.specs.WordSteps.{Word, begin, letter, more_state, more, is_number, held_on, mark_of, kind_state}
use Rattle.json_events.specs.NestingSteps.{Place, next}
use Rattle.json_events.specs.ReadingSteps.{Config, Out, leaves, gap, whole, on_word, enters, begins, wants_key, out_gap, ended, out_word, out_from, out}
use Rattle.json_events.specs.JsonTokens.{level_from, level, level_in, IsSound, IsCounted, IsWithin}
use Rattle.json_events.proofs.numbers.NumberWords.{from_choice}
use Rattle.json_events.proofs.machine.PrefixLemmas.{level_from-append, level_append}
use Rattle.json_events.proofs.machine.WithinLemmas.{AreWithin, within_more, out_within}
use Rattle.json_events.proofs.machine.StepLemmas.{IsNear, IsNearAt, begin_near, Kept, kept, near_open}
use Rattle.json_events.proofs.texts.WordLemmas.{NumberAt, stays}
use Rattle.json_events.proofs.machine.LevelLemmas.{kind_level, mark_level, token_level, LevelAt, next_level, mark_kind, NoBracket, no_bracket_level, open_no_bracket}

-- a byte more makes no bracket of a word, where there is one
abbrev NoBracketAt : Option WordState → Type 0
NoBracketAt None = ⊤
NoBracketAt (Some l) = NoBracket l

number_no_bracket : (l : WordState) → is_number l ≡ true → NoBracket l
number_no_bracket (Open b) n = absurd (cc)
number_no_bracket (Close b) n = absurd (cc)
number_no_bracket Comma n = tt
number_no_bracket Colon n = tt
number_no_bracket (Literal a k) n = tt
number_no_bracket (Inside s) n = tt
number_no_bracket Minus n = tt
number_no_bracket Zero n = tt
number_no_bracket Whole n = tt
number_no_bracket Point n = tt
number_no_bracket Fraction n = tt
number_no_bracket Exponent n = tt
number_no_bracket Sign n = tt
number_no_bracket Power n = tt

number_goes_on : (o : Option WordState) → NumberAt o → NoBracketAt o
number_goes_on None h = tt
number_goes_on (Some l) h = number_no_bracket l h

letter_goes_on : (n : Name) (k : ℕ) (o : Option ℕ) (b : ℕ) → NoBracketAt (letter n k o b)
letter_goes_on n k None b = tt
letter_goes_on n k (Some c) b = by_test (eqb b c)
  where
    by_test : (t : Bool) → NoBracketAt (cond t (Some (Literal n (k + 1))) None)
    by_test true = tt
    by_test false = tt

text_goes_on : (o : Option StringState) → NoBracketAt (option_map Inside o)
text_goes_on None = tt
text_goes_on (Some s) = tt

-- a byte more makes no bracket of a word
goes_on : (l : WordState) (b : ℕ) → NoBracketAt (more_state l b)
goes_on (Open k) b = tt
goes_on (Close k) b = tt
goes_on Comma b = tt
goes_on Colon b = tt
goes_on (Literal n k) b = letter_goes_on n k (slice_get (spelling n) k) b
goes_on (Inside s) b = text_goes_on (more_string s b)
goes_on Minus b = number_goes_on (more_state Minus b) (stays Minus b refl)
goes_on Zero b = number_goes_on (more_state Zero b) (stays Zero b refl)
goes_on Whole b = number_goes_on (more_state Whole b) (stays Whole b refl)
goes_on Point b = number_goes_on (more_state Point b) (stays Point b refl)
goes_on Fraction b = number_goes_on (more_state Fraction b) (stays Fraction b refl)
goes_on Exponent b = number_goes_on (more_state Exponent b) (stays Exponent b refl)
goes_on Sign b = number_goes_on (more_state Sign b) (stays Sign b refl)
goes_on Power b = number_goes_on (more_state Power b) (stays Power b refl)

-- so many bytes were taken, and so many brackets are open
abbrev pub CountsAt : Option Config → ℕ → ℕ → Type 0
CountsAt None at n = ⊤
CountsAt (Some c) at n = (c.at ≡ at) × (level_in c.place.want c.place.around ≡ n)

abbrev Counts : Out → ℕ → ℕ → Type 0
Counts o at n = CountsAt o.next at (level_from n o.given)

token_kind : (w : Word) (m : Mark) (from to n : ℕ) → mark_of w.state w.is_key w.held ≡ Some m → level_from n (with_token m from to []) ≡ kind_level (kind_state w.state w.is_key) n
token_kind w m from to n e = token_level m from to n ∙ mark_level m n ∙ ap (λ k. kind_level k n) (mark_kind w.state w.is_key w.held m e)

on_word_counts : (w : Word) (p : Place) (from at n : ℕ) → IsNear w.state → level_in p.want p.around ≡ kind_level (kind_state w.state w.is_key) n → Counts (on_word w p from at) at n
on_word_counts w p from at n near h = by_mark (cond (is_number w.state) None (mark_of w.state w.is_key w.held)) refl
  where
    by_mark : (o : Option Mark) → cond (is_number w.state) None (mark_of w.state w.is_key w.held) ≡ o → Counts (whole o w p from at) at n
    by_mark None e = (refl, h ∙ no_bracket_level w.state w.is_key n (open_no_bracket w.state (near_open w.state w.is_key w.held near e)))
    by_mark (Some m) e = (refl, h ∙ sym (token_kind w m from at n (from_choice {X = Option Mark} (λ o. o ≡ Some m) (is_number w.state) None (mark_of w.state w.is_key w.held) (λ _ x. absurd (cc)) (λ _ x. x) e)))

begins_counts : (o : Option Word) (p : Place) (at : ℕ) → IsNearAt o → Counts (begins o p at) (at + 1) (level_in p.want p.around)
begins_counts None p at h = tt
begins_counts (Some w) p at h = by_place (next p (kind_state w.state w.is_key)) (next_level p.want p.around (kind_state w.state w.is_key))
  where
    by_place : (q : Option Place) → LevelAt q (kind_level (kind_state w.state w.is_key) (level_in p.want p.around)) → Counts (enters w q at) (at + 1) (level_in p.want p.around)
    by_place None e = tt
    by_place (Some q) e = on_word_counts w q at (at + 1) (level_in p.want p.around) h e

gap_counts : (p : Place) (at b : ℕ) → Counts (out_gap p at b) (at + 1) (level_in p.want p.around)
gap_counts p at b = by_test (is_blank b)
  where
    by_test : (t : Bool) → Counts (cond t (leaves (gap p (at + 1)) []) (begins (begin (wants_key p.want) b) p at)) (at + 1) (level_in p.want p.around)
    by_test true = (refl, refl)
    by_test false = begins_counts (begin (wants_key p.want) b) p at (begin_near (wants_key p.want) b)

word_counts : (w : Word) (p : Place) (from at b : ℕ) → IsSound (Some w) p → Counts (out_word (more w b) w p from at b) (at + 1) (level_in p.want p.around)
word_counts w p from at b h = by_state (more_state w.state b) (kept w.state b h.0) (goes_on w.state b)
  where
    by_mark : (m : Option Mark) → mark_of w.state w.is_key w.held ≡ m → Counts (ended m p from at b) (at + 1) (level_in p.want p.around)
    by_mark None e = tt
    by_mark (Some m) e =
        let o = out_gap p at b in
        let same : level_from (level_in p.want p.around) (with_token m from at []) ≡ level_in p.want p.around = token_kind w m from at (level_in p.want p.around) e ∙ no_bracket_level w.state w.is_key (level_in p.want p.around) (open_no_bracket w.state h.0) in
        subst (λ k. CountsAt o.next (at + 1) k) (sym (level_from-append (level_in p.want p.around) (with_token m from at []) o.given ∙ ap (λ k. level_from k o.given) same)) (gap_counts p at b)

    by_state : (o : Option WordState) → Kept w.state o → NoBracketAt o → Counts (out_word (option_map (λ l. record { state = l; is_key = w.is_key; held = held_on w.state w.held b }) o) w p from at b) (at + 1) (level_in p.want p.around)
    by_state None k z = by_mark (mark_of w.state w.is_key w.held) refl
    by_state (Some v) k z = on_word_counts (record { state = v; is_key = w.is_key; held = held_on w.state w.held b }) p from (at + 1) (level_in p.want p.around) k.0 (sym (no_bracket_level v w.is_key (level_in p.want p.around) z))

-- a step counts the byte and the brackets
pub out_counts : (w : Option Word) (p : Place) (from at b : ℕ) → IsSound w p → Counts (out_from w p from at b) (at + 1) (level_in p.want p.around)
out_counts None p from at b h = gap_counts p at b
out_counts (Some w) p from at b h = word_counts w p from at b h

counted_next : (o : Option Config) (bytes : List ℕ) (b : ℕ) (ts given : List Span) (at : ℕ) → at ≡ length bytes → CountsAt o (at + 1) (level_from (level ts) given) → AreWithin (length bytes) ts → AreWithin (at + 1) given → IsCounted o (bytes ++ b ∷ []) (ts ++ given)
counted_next None bytes b ts given at e h x y = tt
counted_next (Some c) bytes b ts given at e h x y =
    let long : length (bytes ++ b ∷ []) ≡ length bytes + 1 = length-append bytes (b ∷ []) in
    let here : at + 1 ≡ length (bytes ++ b ∷ []) = ap (λ k. k + 1) e ∙ sym long in
    let before = within_more ts (length bytes) (length (bytes ++ b ∷ [])) (omega (arith, long)) x in
    let now : AreWithin (length (bytes ++ b ∷ [])) given = subst (λ n. AreWithin n given) here y in
    (h.0 ∙ here, h.1 ∙ sym (level_append ts given), each_joined (IsWithin (length (bytes ++ b ∷ []))) ts given before now)

-- a step keeps the count
pub counted_out : (c : Config) (b : ℕ) (bytes : List ℕ) (ts : List Span) → IsSound c.word c.place → IsCounted (Some c) bytes ts → IsCounted (out c b).next (bytes ++ b ∷ []) (ts ++ (out c b).given)
counted_out c b bytes ts v h =
    let o = out c b in
    counted_next o.next bytes b ts o.given c.at h.0 (subst (λ n. CountsAt o.next (c.at + 1) (level_from n o.given)) h.1 (out_counts c.word c.place c.from c.at b v)) h.2 (out_within c.word c.place c.from c.at b)
