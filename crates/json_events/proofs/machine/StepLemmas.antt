-- A word that has not ended goes on in states from which some bytes complete it.
use Rattle.std.proofs.Common.{◌≡◌, ℕ, ◌+◌, ◌<◌, ◌≤◌, Bool, true, false, cond, eqb, List, [], length, Option, Some, None, refl, sym, ap, ◌∙◌, arith}
use Rattle.std.specs.Prelude.{⊤, slice_get, option_map}
use Rattle.std.proofs.lemmas.Bool.{cond_both, eqb-false}
use Rattle.json_events.specs.declared.state.Name.{Name}
use Rattle.json_events.specs.declared.state.Want.TheVariants as want
use Rattle.json_events.specs.declared.state.WordState.{WordState}
use Rattle.json_events.specs.declared.state.WordState.TheVariants.{Open, Close, Comma, Colon, Literal, Inside, Minus, Zero, Whole, Point, Fraction, Exponent, Sign, Power}
use Rattle.json_events.specs.declared.state.StringState.{StringState}
use Rattle.json_events.specs.StringSteps.{more_string, string_end}
use Rattle.json_events.specs.JsonTree.{Mark, name}
use Rattle.json_events.specs.NestingSteps.{Place, at, next}
use Rattle.json_events.specs.JsonText.{spelling, is_blank}
use Rattle.json_events.specs.WordSteps.{is_digit}
use Rattle.json_events.specs.WordSteps.{Word, begin, letter, more_state, is_number, held_on, more, text_mark, mark_of, kind_state}
use Rattle.json_events.specs.ReadingSteps.{leaves, gap, whole, on_word, enters, begins, wants_key, out_gap, ended, out_word, out_from}
use Rattle.json_events.specs.WordStates.{IsOpenString, IsOpen}
use Rattle.json_events.specs.JsonTokens.{IsSound, IsValid}
use Rattle.json_events.proofs.numbers.NumberWords.{from_choice}
use Rattle.json_events.proofs.strings.StringStates.{IsNearString, NearAt, string_near, string_open}
use Rattle.json_events.proofs.texts.WordLemmas.{NumberAt, stays}
use Rattle.json_events.proofs.texts.WordRuns.{number_kind}
use Rattle.json_events.proofs.texts.TokenRuns.{scalar_after}

-- the states of a word that has just taken a byte
abbrev pub IsNear : WordState → Type 0
IsNear (Open b) = ⊤
IsNear (Close b) = ⊤
IsNear Comma = ⊤
IsNear Colon = ⊤
IsNear (Literal n k) = k ≤ length (spelling n)
IsNear (Inside s) = IsNearString s
IsNear Minus = ⊤
IsNear Zero = ⊤
IsNear Whole = ⊤
IsNear Point = ⊤
IsNear Fraction = ⊤
IsNear Exponent = ⊤
IsNear Sign = ⊤
IsNear Power = ⊤

-- the word, where there is one, has just taken a byte
abbrev pub IsNearAt : Option Word → Type 0
IsNearAt None = ⊤
IsNearAt (Some w) = IsNear w.state

number_near : (l : WordState) → is_number l ≡ true → IsNear l
number_near (Literal n k) h = absurd (cc)
number_near (Inside s) h = absurd (cc)
number_near (Open b) h = tt
number_near (Close b) h = tt
number_near Comma h = tt
number_near Colon h = tt
number_near Minus h = tt
number_near Zero h = tt
number_near Whole h = tt
number_near Point h = tt
number_near Fraction h = tt
number_near Exponent h = tt
number_near Sign h = tt
number_near Power h = tt

-- a first byte leads to such a state
pub begin_near : (k : Bool) (b : ℕ) → IsNearAt (begin k b)
begin_near k b =
    cond_both (eqb b 34) _ _ IsNearAt (λ _. tt) (λ _. (cond_both (eqb b 91) _ _ IsNearAt (λ _. tt) (λ _. (cond_both (eqb b 93) _ _ IsNearAt (λ _. tt) (λ _. (cond_both (eqb b 123) _ _ IsNearAt (λ _. tt) (λ _. (cond_both (eqb b 125) _ _ IsNearAt (λ _. tt) (λ _. (cond_both (eqb b 44) _ _ IsNearAt (λ _. tt) (λ _. (cond_both (eqb b 58) _ _ IsNearAt (λ _. tt) (λ _. (cond_both (eqb b 45) _ _ IsNearAt (λ _. tt) (λ _. (cond_both (eqb b 48) _ _ IsNearAt (λ _. tt) (λ _. (cond_both (is_digit b) _ _ IsNearAt (λ _. tt) (λ _. (cond_both (eqb b 116) _ _ IsNearAt (λ _. (omega arith)) (λ _. (cond_both (eqb b 102) _ _ IsNearAt (λ _. (omega arith)) (λ _. (cond_both (eqb b 110) _ _ IsNearAt (λ _. (omega arith)) (λ _. tt)))))))))))))))))))))))))

-- a further byte leads to such a state, and a number stays a number
abbrev pub Kept : WordState → Option WordState → Type 0
Kept l None = ⊤
Kept l (Some v) = IsNear v × (is_number v ≡ is_number l)

number_kept : (l : WordState) (o : Option WordState) → is_number l ≡ true → NumberAt o → Kept l o
number_kept l None n h = tt
number_kept l (Some v) n h = (number_near v h, h ∙ sym n)

letter_kept : (n : Name) (k : ℕ) (o : Option ℕ) (b : ℕ) → k < length (spelling n) → Kept (Literal n k) (letter n k o b)
letter_kept n k None b h = tt
letter_kept n k (Some c) b h = by_test (eqb b c)
  where
    by_test : (t : Bool) → Kept (Literal n k) (cond t (Some (Literal n (k + 1))) None)
    by_test true = (omega (arith, h), refl)
    by_test false = tt

text_kept : (s : StringState) (o : Option StringState) → NearAt o → Kept (Inside s) (option_map Inside o)
text_kept s None h = tt
text_kept s (Some v) h = (h, refl)

-- a further byte does so
pub kept : (l : WordState) (b : ℕ) → IsOpen l → Kept l (more_state l b)
kept (Open k) b h = tt
kept (Close k) b h = tt
kept Comma b h = tt
kept Colon b h = tt
kept (Literal n k) b h = letter_kept n k (slice_get (spelling n) k) b h
kept (Inside s) b h = text_kept s (more_string s b) (string_near s b h)
kept Minus b h = number_kept Minus _ refl (stays Minus b refl)
kept Zero b h = number_kept Zero _ refl (stays Zero b refl)
kept Whole b h = number_kept Whole _ refl (stays Whole b refl)
kept Point b h = number_kept Point _ refl (stays Point b refl)
kept Fraction b h = number_kept Fraction _ refl (stays Fraction b refl)
kept Exponent b h = number_kept Exponent _ refl (stays Exponent b refl)
kept Sign b h = number_kept Sign _ refl (stays Sign b refl)
kept Power b h = number_kept Power _ refl (stays Power b refl)

-- a word that has not ended by itself is open
near_text : (s : StringState) (i : Bool) (held : List ℕ) → IsNearString s → option_map (text_mark i) (string_end s held) ≡ None → IsOpenString s
near_text s i held h e = string_open s held h (by_end (string_end s held) e)
  where
    by_end : (o : Option (List ℕ)) → option_map (text_mark i) o ≡ None → o ≡ None
    by_end None x = refl
    by_end (Some all) x = absurd (cc)

-- a word that is not whole has not ended
pub near_open : (l : WordState) (i : Bool) (held : List ℕ) → IsNear l → cond (is_number l) None (mark_of l i held) ≡ None → IsOpen l
near_open (Open b) i held h e = absurd (cc)
near_open (Close b) i held h e = absurd (cc)
near_open Comma i held h e = absurd (cc)
near_open Colon i held h e = absurd (cc)
near_open (Literal n k) i held h e =
    from_choice {X = Option Mark} (λ o. o ≡ None) (eqb k (length (spelling n))) (Some (name n)) None
    (λ _ x. absurd (cc)) (λ f _. omega (arith, eqb-false k (length (spelling n)) f)) e
near_open (Inside s) i held h e = near_text s i held h e
near_open Minus i held h e = tt
near_open Zero i held h e = tt
near_open Whole i held h e = tt
near_open Point i held h e = tt
near_open Fraction i held h e = tt
near_open Exponent i held h e = tt
near_open Sign i held h e = tt
near_open Power i held h e = tt

on_word_valid : (w : Word) (p : Place) (from at : ℕ) → IsNear w.state → (is_number w.state ≡ true → p.want ≡ want.After) → IsValid (on_word w p from at).next
on_word_valid w p from at h f = by_mark (cond (is_number w.state) None (mark_of w.state w.is_key w.held)) refl
  where
    by_mark : (o : Option Mark) → cond (is_number w.state) None (mark_of w.state w.is_key w.held) ≡ o → IsValid (whole o w p from at).next
    by_mark None e = (near_open w.state w.is_key w.held h e, f)
    by_mark (Some m) e = tt

begins_valid : (o : Option Word) (p : Place) (at : ℕ) → IsNearAt o → IsValid (begins o p at).next
begins_valid None p at h = tt
begins_valid (Some w) p at h = by_place (next p (kind_state w.state w.is_key)) refl
  where
    by_place : (q : Option Place) → next p (kind_state w.state w.is_key) ≡ q → IsValid (enters w q at).next
    by_place None e = tt
    by_place (Some q) e = on_word_valid w q at (at + 1) h (λ n. scalar_after p.want p.around q (ap (next p) (sym (number_kind w.state w.is_key n)) ∙ e))

gap_valid : (p : Place) (at b : ℕ) → IsValid (out_gap p at b).next
gap_valid p at b = by_test (is_blank b)
  where
    by_test : (t : Bool) → IsValid (cond t (leaves (gap p (at + 1)) []) (begins (begin (wants_key p.want) b) p at)).next
    by_test true = tt
    by_test false = begins_valid (begin (wants_key p.want) b) p at (begin_near (wants_key p.want) b)

ended_valid : (m : Option Mark) (p : Place) (from at b : ℕ) → IsValid (ended m p from at b).next
ended_valid None p from at b = tt
ended_valid (Some m) p from at b = gap_valid p at b

word_valid : (w : Word) (p : Place) (from at b : ℕ) → IsSound (Some w) p → IsValid (out_word (more w b) w p from at b).next
word_valid w p from at b h = by_lex (more_state w.state b) (kept w.state b h.0)
  where
    by_lex : (o : Option WordState) → Kept w.state o → IsValid (out_word (option_map (λ l. record { state = l; is_key = w.is_key; held = held_on w.state w.held b }) o) w p from at b).next
    by_lex None k = ended_valid (mark_of w.state w.is_key w.held) p from at b
    by_lex (Some v) k = on_word_valid (record { state = v; is_key = w.is_key; held = held_on w.state w.held b }) p from (at + 1) k.0 (λ n. h.1 (sym k.1 ∙ n))

-- a step keeps it
pub valid_out : (w : Option Word) (p : Place) (from at b : ℕ) → IsSound w p → IsValid (out_from w p from at b).next
valid_out None p from at b h = gap_valid p at b
valid_out (Some w) p from at b h = word_valid w p from at b h
