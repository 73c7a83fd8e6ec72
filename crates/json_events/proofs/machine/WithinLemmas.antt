-- The tokens that a step gives end within the bytes that were taken by then.
use Rattle.std.proofs.Common.{ℕ, ◌+◌, ◌≤◌, Bool, true, false, cond, List, [], Option, Some, None, arith}
use Rattle.base.proofs.EachLemmas.{each_weaker, each_joined}
use Rattle.std.specs.List.{AllByRecursion}
use Rattle.json_events.specs.JsonTree.{Mark, opens, closes, comma, colon, key, text, digits, name}
use Rattle.json_events.specs.JsonText.{Span, with_token, is_blank}
use Rattle.json_events.specs.WordSteps.{Word, begin, more, is_number, mark_of, kind_state}
use Rattle.json_events.specs.NestingSteps.{Place, next}
use Rattle.json_events.specs.ReadingSteps.{leaves, gap, whole, on_word, enters, begins, wants_key, out_gap, ended, out_word, out_from}
use Rattle.json_events.specs.JsonTokens.{IsWithin}

-- all tokens end within the first bytes, so many
abbrev pub AreWithin : ℕ → List Span → Type 0
AreWithin n ts = AllByRecursion (IsWithin n) ts

-- what ends within fewer bytes does within more
pub within_more : (ts : List Span) (n m : ℕ) → n ≤ m → AreWithin n ts → AreWithin m ts
within_more ts n m e h = each_weaker (IsWithin n) (IsWithin m) (λ t x. omega (arith, x, e)) ts h

token_within : (m : Mark) (from to n : ℕ) → to ≤ n → AreWithin n (with_token m from to [])
token_within (opens b) from to n h = (h, tt)
token_within (closes b) from to n h = (h, tt)
token_within comma from to n h = tt
token_within colon from to n h = tt
token_within (key s) from to n h = (h, tt)
token_within (text s) from to n h = (h, tt)
token_within (digits s) from to n h = (h, tt)
token_within (name s) from to n h = (h, tt)

on_word_within : (w : Word) (p : Place) (from at : ℕ) → AreWithin at (on_word w p from at).given
on_word_within w p from at = by_mark (cond (is_number w.state) None (mark_of w.state w.is_key w.held))
  where
    by_mark : (o : Option Mark) → AreWithin at (whole o w p from at).given
    by_mark None = tt
    by_mark (Some m) = token_within m from at at (omega arith)

begins_within : (o : Option Word) (p : Place) (at : ℕ) → AreWithin (at + 1) (begins o p at).given
begins_within None p at = tt
begins_within (Some w) p at = by_place (next p (kind_state w.state w.is_key))
  where
    by_place : (q : Option Place) → AreWithin (at + 1) (enters w q at).given
    by_place None = tt
    by_place (Some q) = on_word_within w q at (at + 1)

gap_within : (p : Place) (at b : ℕ) → AreWithin (at + 1) (out_gap p at b).given
gap_within p at b = by_test (is_blank b)
  where
    by_test : (t : Bool) → AreWithin (at + 1) (cond t (leaves (gap p (at + 1)) []) (begins (begin (wants_key p.want) b) p at)).given
    by_test true = tt
    by_test false = begins_within (begin (wants_key p.want) b) p at

word_within : (o : Option Word) (w : Word) (p : Place) (from at b : ℕ) → AreWithin (at + 1) (out_word o w p from at b).given
word_within None w p from at b = by_mark (mark_of w.state w.is_key w.held)
  where
    by_mark : (m : Option Mark) → AreWithin (at + 1) (ended m p from at b).given
    by_mark None = tt
    by_mark (Some m) = each_joined (IsWithin (at + 1)) (with_token m from at []) (out_gap p at b).given (token_within m from at (at + 1) (omega arith)) (gap_within p at b)
word_within (Some x) w p from at b = on_word_within x p from (at + 1)

-- a step
pub out_within : (w : Option Word) (p : Place) (from at b : ℕ) → AreWithin (at + 1) (out_from w p from at b).given
out_within None p from at b = gap_within p at b
out_within (Some w) p from at b = word_within (more w b) w p from at b
