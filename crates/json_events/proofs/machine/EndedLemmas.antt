-- The tokens that a reader has not given have not ended in the bytes that it took.
use Rattle.std.proofs.Common.{◌≡◌, ℕ, ◌+◌, ◌<◌, Bool, true, false, cond, List, [], ◌∷◌, ◌++◌, length, Option, Some, None, refl, sym, subst, arith}
use Rattle.base.proofs.EachLemmas.{each_weaker, each_joined}
use Rattle.std.specs.List.{AllByRecursion}
use Rattle.json_events.specs.JsonTree.{Json, Mark, opens, closes, comma, colon, key, text, digits, name}
use Rattle.json_events.specs.JsonText.{Span, with_token, is_blank, IsTextWith}
use Rattle.json_events.specs.WordSteps.{Word, begin, more, is_number, mark_of, kind_state}
use Rattle.json_events.specs.NestingSteps.{Place, next}
use Rattle.json_events.specs.ReadingSteps.{Config, leaves, gap, whole, on_word, enters, begins, wants_key, out_gap, ended, out_word, out_from, out, end_word, end_from, reads}
use Rattle.json_events.specs.JsonTokens.{EndsPast, HasNotEnded, level_from, level_in, IsSound, IsValid, Awaits}
use Rattle.json_events.proofs.texts.WordLemmas.{last_mark}
use Rattle.json_events.proofs.texts.TokenLemmas.{map_given, done_with}
use Rattle.json_events.proofs.machine.StepLemmas.{valid_out}
use Rattle.json_events.proofs.machine.CountLemmas.{CountsAt, out_counts}
use Rattle.json_events.proofs.reading.FeedLemmas.{open_mark}

-- none of the tokens has ended within the first bytes, so many
abbrev pub AllLate : ℕ → List Span → Type 0
AllLate n ts = AllByRecursion (HasNotEnded n) ts

mark_earlier : (m : Mark) (n to : ℕ) → EndsPast (n + 1) m to → EndsPast n m to
mark_earlier (opens b) n to h = omega (arith, h)
mark_earlier (closes b) n to h = omega (arith, h)
mark_earlier comma n to h = omega (arith, h)
mark_earlier colon n to h = omega (arith, h)
mark_earlier (key s) n to h = omega (arith, h)
mark_earlier (text s) n to h = omega (arith, h)
mark_earlier (digits s) n to h = omega (arith, h)
mark_earlier (name s) n to h = omega (arith, h)

-- what has not ended in more bytes has not in fewer
all_earlier : (ts : List Span) (n : ℕ) → AllLate (n + 1) ts → AllLate n ts
all_earlier ts n h = each_weaker (HasNotEnded (n + 1)) (HasNotEnded n) (λ t x. mark_earlier t.mark n t.to x) ts h

token_late : (m : Mark) (from to n : ℕ) → n < to → AllLate n (with_token m from to [])
token_late (opens b) from to n h = (h, tt)
token_late (closes b) from to n h = (h, tt)
token_late comma from to n h = tt
token_late colon from to n h = tt
token_late (key s) from to n h = (h, tt)
token_late (text s) from to n h = (h, tt)
token_late (digits s) from to n h = (omega (arith, h), tt)
token_late (name s) from to n h = (h, tt)

-- a number that a further byte, or the end, shows to have ended
number_late : (w : Word) (p : Place) (from n : ℕ) (m : Mark) → IsSound (Some w) p → mark_of w.state w.is_key w.held ≡ Some m → AllLate n (with_token m from n [])
number_late w p from n m h e =
    let number = open_mark w.state w.is_key w.held m h.0 e in
    let same : m ≡ digits w.held = (last_mark w.state w.is_key w.held m number e).1 in
    subst (λ x. AllLate n (with_token x from n [])) (sym same) (omega arith, tt)

on_word_late : (w : Word) (p : Place) (from at n : ℕ) → n < at → AllLate n (on_word w p from at).given
on_word_late w p from at n h = by_mark (cond (is_number w.state) None (mark_of w.state w.is_key w.held))
  where
    by_mark : (o : Option Mark) → AllLate n (whole o w p from at).given
    by_mark None = tt
    by_mark (Some m) = token_late m from at n h

begins_late : (o : Option Word) (p : Place) (at : ℕ) → AllLate at (begins o p at).given
begins_late None p at = tt
begins_late (Some w) p at = by_place (next p (kind_state w.state w.is_key))
  where
    by_place : (q : Option Place) → AllLate at (enters w q at).given
    by_place None = tt
    by_place (Some q) = on_word_late w q at (at + 1) at (omega arith)

gap_late : (p : Place) (at b : ℕ) → AllLate at (out_gap p at b).given
gap_late p at b = by_test (is_blank b)
  where
    by_test : (t : Bool) → AllLate at (cond t (leaves (gap p (at + 1)) []) (begins (begin (wants_key p.want) b) p at)).given
    by_test true = tt
    by_test false = begins_late (begin (wants_key p.want) b) p at

word_late : (o : Option Word) (w : Word) (p : Place) (from at b : ℕ) → IsSound (Some w) p → AllLate at (out_word o w p from at b).given
word_late None w p from at b h = by_mark (mark_of w.state w.is_key w.held) refl
  where
    by_mark : (m : Option Mark) → mark_of w.state w.is_key w.held ≡ m → AllLate at (ended m p from at b).given
    by_mark None e = tt
    by_mark (Some m) e = each_joined (HasNotEnded at) (with_token m from at []) (out_gap p at b).given (number_late w p from at m h e) (gap_late p at b)
word_late (Some x) w p from at b h = on_word_late x p from (at + 1) at (omega arith)

out_late : (w : Option Word) (p : Place) (from at b : ℕ) → IsSound w p → AllLate at (out_from w p from at b).given
out_late None p from at b h = gap_late p at b
out_late (Some w) p from at b h = word_late (more w b) w p from at b h

end_late : (w : Option Word) (p : Place) (from at : ℕ) (ts : List Span) → IsSound w p → end_from w p from at ≡ Some ts → AllLate at ts
end_late None p from at ts v h = subst (AllLate at) (sym (done_with p.want p.around [] ts h).0) tt
end_late (Some w) p from at ts v h = by_mark (mark_of w.state w.is_key w.held) refl h
  where
    by_mark : (m : Option Mark) → mark_of w.state w.is_key w.held ≡ m → end_word m p from at ≡ Some ts → AllLate at ts
    by_mark None e x = absurd (cc)
    by_mark (Some m) e x = subst (AllLate at) (sym (done_with p.want p.around (with_token m from at []) ts x).0) (number_late w p from at m v e)

-- no token that is read from there has ended before
pub reads_late : (s : List ℕ) (c : Config) (others : List Span) → IsSound c.word c.place → reads (Some c) s ≡ Some others → AllLate c.at others
reads_late [] c others v h = end_late c.word c.place c.from c.at others v h
reads_late (b ∷ s) c others v h =
    let o = out c b in
    let r = map_given o.given (reads o.next s) others h in
    subst (AllLate c.at) (sym r.2) (each_joined (HasNotEnded c.at) o.given r.0 (out_late c.word c.place c.from c.at b v)
    (by_next (λ d. reads_late s d) o.next r.0 (valid_out c.word c.place c.from c.at b v) (level_from (level_in c.place.want c.place.around) o.given) (out_counts c.word c.place c.from c.at b v) r.1))
  where
    by_next : ((d : Config) (us : List Span) → IsSound d.word d.place → reads (Some d) s ≡ Some us → AllLate d.at us) → (n : Option Config) (us : List Span) → IsValid n → (k : ℕ) → CountsAt n (c.at + 1) k → reads n s ≡ Some us → AllLate c.at us
    by_next ih None us x k y e = absurd (cc)
    by_next ih (Some d) us x k y e = all_earlier us c.at (subst (λ n. AllLate n us) y.0 (ih d us x e))

-- whatever completes the bytes with the tokens so far: no other token has ended in them
pub late : (c : Config) (bytes : List ℕ) (ts : List Span) → Awaits (Some c) bytes ts → (s : List ℕ) (others : List Span) (j : Json) → IsTextWith j (bytes ++ s) (ts ++ others) → AllByRecursion (HasNotEnded (length bytes)) others
late c bytes ts h s others j x = subst (λ n. AllLate n others) h.counted.0 (reads_late s c others h.valid ((h.completes s others).0 (j, x)))
