-- The tokens that a step gives have ended in the bytes that were taken by then.
use Rattle.std.proofs.Common.{◌≡◌, ℕ, ◌+◌, ◌≤◌, Bool, true, false, cond, eqb, List, [], length, Option, Some, None, refl, ◌∙◌, arith}
use Rattle.base.proofs.EachLemmas.{each_weaker, each_joined}
use Rattle.std.specs.Prelude.{option_map}
use Rattle.std.specs.List.{AllByRecursion}
use Rattle.json_events.specs.declared.state.WordState.{WordState}
use Rattle.json_events.specs.declared.state.WordState.TheVariants.{Open, Close, Comma, Colon, Literal, Inside, Minus, Zero, Whole, Point, Fraction, Exponent, Sign, Power}
use Rattle.json_events.specs.JsonTree.{Mark, opens, closes, comma, colon, key, text, digits, name}
use Rattle.json_events.specs.JsonText.{Span, with_token, spelling, is_blank}
use Rattle.json_events.specs.StringSteps.{string_end}
use Rattle.json_events.specs.WordSteps.{Word, begin, more, is_number, text_mark, mark_of, kind_state}
use Rattle.json_events.specs.NestingSteps.{Place, next}
use Rattle.json_events.specs.ReadingSteps.{leaves, gap, whole, on_word, enters, begins, wants_key, out_gap, ended, out_word, out_from}
use Rattle.json_events.specs.JsonTokens.{EndsPast, HasEnded, IsWithin}
use Rattle.json_events.proofs.numbers.NumberWords.{from_choice}
use Rattle.json_events.proofs.machine.WithinLemmas.{AreWithin}
use Rattle.json_events.proofs.machine.CompletionLemmas.{no_digits}

-- each of the tokens has ended within the first bytes, so many
abbrev pub AllEnded : ℕ → List Span → Type 0
AllEnded n ts = AllByRecursion (HasEnded n) ts

mark_later : (m : Mark) (n k to : ℕ) → n ≤ k → EndsPast k m to → EndsPast n m to
mark_later (opens b) n k to h x = omega (arith, h, x)
mark_later (closes b) n k to h x = omega (arith, h, x)
mark_later comma n k to h x = omega (arith, h, x)
mark_later colon n k to h x = omega (arith, h, x)
mark_later (key s) n k to h x = omega (arith, h, x)
mark_later (text s) n k to h x = omega (arith, h, x)
mark_later (digits s) n k to h x = omega (arith, h, x)
mark_later (name s) n k to h x = omega (arith, h, x)

-- what has ended in fewer bytes has in more
pub ended_later : (ts : List Span) (n k : ℕ) → n ≤ k → AllEnded n ts → AllEnded k ts
ended_later ts n k h a = each_weaker (HasEnded n) (HasEnded k) (λ t x y. x (mark_later t.mark n k t.to h y)) ts a

mark_next : (m : Mark) (n to : ℕ) → to ≤ n → EndsPast (n + 1) m to → ⊥
mark_next (opens b) n to h x = omega (arith, h, x)
mark_next (closes b) n to h x = omega (arith, h, x)
mark_next comma n to h x = omega (arith, h, x)
mark_next colon n to h x = omega (arith, h, x)
mark_next (key s) n to h x = omega (arith, h, x)
mark_next (text s) n to h x = omega (arith, h, x)
mark_next (digits s) n to h x = omega (arith, h, x)
mark_next (name s) n to h x = omega (arith, h, x)

-- what ends within so many bytes has ended in one more
pub within_ended : (ts : List Span) (n : ℕ) → AreWithin n ts → AllEnded (n + 1) ts
within_ended ts n a = each_weaker (IsWithin n) (HasEnded (n + 1)) (λ t x y. mark_next t.mark n t.to x y) ts a

-- what is no number has ended where it ends
pub mark_here : (m : Mark) (n : ℕ) → ((d : List ℕ) → m ≡ digits d → ⊥) → EndsPast n m n → ⊥
mark_here (opens b) n h x = omega (arith, x)
mark_here (closes b) n h x = omega (arith, x)
mark_here comma n h x = omega (arith, x)
mark_here colon n h x = omega (arith, x)
mark_here (key s) n h x = omega (arith, x)
mark_here (text s) n h x = omega (arith, x)
mark_here (digits s) n h x = h s refl
mark_here (name s) n h x = omega (arith, x)

text_no_digits : (i : Bool) (o : Option (List ℕ)) (m : Mark) → option_map (text_mark i) o ≡ Some m → (d : List ℕ)
    → m ≡ digits d → ⊥
text_no_digits i None m e d x = cc (e)
text_no_digits i (Some t) m e d x = let same : text_mark i t ≡ m = cc (e) in no_digits i t d (same ∙ x)

-- a word that is no number becomes none
other_mark : (l : WordState) (i : Bool) (held : List ℕ) (m : Mark) → is_number l ≡ false → mark_of l i held ≡ Some m
    → (d : List ℕ) → m ≡ digits d → ⊥
other_mark (Open b) i held m n e d x = cc (e, x)
other_mark (Close b) i held m n e d x = cc (e, x)
other_mark Comma i held m n e d x = cc (e, x)
other_mark Colon i held m n e d x = cc (e, x)
other_mark (Literal a k) i held m n e d x =
    from_choice {X = Option Mark} (λ o. o ≡ Some m) (eqb k (length (spelling a))) (Some (name a)) None
    (λ _ y. cc (y, x)) (λ _ y. cc (y)) e
other_mark (Inside s) i held m n e d x = text_no_digits i (string_end s held) m e d x
other_mark Minus i held m n e d x = cc (n)
other_mark Zero i held m n e d x = cc (n)
other_mark Whole i held m n e d x = cc (n)
other_mark Point i held m n e d x = cc (n)
other_mark Fraction i held m n e d x = cc (n)
other_mark Exponent i held m n e d x = cc (n)
other_mark Sign i held m n e d x = cc (n)
other_mark Power i held m n e d x = cc (n)

token_ended : (m : Mark) (from to n : ℕ) → (EndsPast n m to → ⊥) → AllEnded n (with_token m from to [])
token_ended (opens b) from to n h = (h, tt)
token_ended (closes b) from to n h = (h, tt)
token_ended comma from to n h = tt
token_ended colon from to n h = tt
token_ended (key s) from to n h = (h, tt)
token_ended (text s) from to n h = (h, tt)
token_ended (digits s) from to n h = (h, tt)
token_ended (name s) from to n h = (h, tt)

on_word_ended : (w : Word) (p : Place) (from at : ℕ) → AllEnded at (on_word w p from at).given
on_word_ended w p from at = by_number (is_number w.state) refl
  where
    by_mark : (o : Option Mark) → is_number w.state ≡ false → mark_of w.state w.is_key w.held ≡ o
        → AllEnded at (whole o w p from at).given
    by_mark None n e = tt
    by_mark (Some m) n e = token_ended m from at at (mark_here m at (other_mark w.state w.is_key w.held m n e))

    by_number : (t : Bool) → is_number w.state ≡ t
        → AllEnded at (whole (cond t None (mark_of w.state w.is_key w.held)) w p from at).given
    by_number true n = tt
    by_number false n = by_mark (mark_of w.state w.is_key w.held) n refl

begins_ended : (o : Option Word) (p : Place) (at : ℕ) → AllEnded (at + 1) (begins o p at).given
begins_ended None p at = tt
begins_ended (Some w) p at = by_place (next p (kind_state w.state w.is_key))
  where
    by_place : (q : Option Place) → AllEnded (at + 1) (enters w q at).given
    by_place None = tt
    by_place (Some q) = on_word_ended w q at (at + 1)

gap_ended : (p : Place) (at b : ℕ) → AllEnded (at + 1) (out_gap p at b).given
gap_ended p at b = by_test (is_blank b)
  where
    by_test : (t : Bool)
        → AllEnded (at + 1) (cond t (leaves (gap p (at + 1)) []) (begins (begin (wants_key p.want) b) p at)).given
    by_test true = tt
    by_test false = begins_ended (begin (wants_key p.want) b) p at

word_ended : (o : Option Word) (w : Word) (p : Place) (from at b : ℕ)
    → AllEnded (at + 1) (out_word o w p from at b).given
word_ended None w p from at b = by_mark (mark_of w.state w.is_key w.held)
  where
    by_mark : (m : Option Mark) → AllEnded (at + 1) (ended m p from at b).given
    by_mark None = tt
    by_mark (Some m) =
        each_joined (HasEnded (at + 1)) (with_token m from at []) (out_gap p at b).given
        (token_ended m from at (at + 1) (mark_next m at at (omega arith))) (gap_ended p at b)
word_ended (Some x) w p from at b = on_word_ended x p from (at + 1)

-- a step
pub out_ended : (w : Option Word) (p : Place) (from at b : ℕ) → AllEnded (at + 1) (out_from w p from at b).given
out_ended None p from at b = gap_ended p at b
out_ended (Some w) p from at b = word_ended (more w b) w p from at b
