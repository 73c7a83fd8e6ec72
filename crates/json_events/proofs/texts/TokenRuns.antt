-- The machine reads each text with its tokens.
use Rattle.std.proofs.Common.{◌≡◌, ℕ, suc, ◌+◌, Bool, true, false, cond, List, [], ◌∷◌, ◌++◌, length, Option, Some, None, refl, sym, ap, ◌∙◌, subst, arith}
use Rattle.std.proofs.lemmas.Iterator.Adapters.{option_map_id}
use Rattle.std.specs.Prelude.{⊤, option_map}
use Rattle.std.proofs.lemmas.Bool.{and_parts, or_left}
use Rattle.std.proofs.lemmas.List.{append-nil}
use Rattle.json_events.specs.declared.state.Bracket.{Bracket}
use Rattle.json_events.specs.declared.state.Bracket.TheVariants.{Array, Object}
use Rattle.json_events.specs.declared.state.Want.{Want}
use Rattle.json_events.specs.declared.state.Want.TheVariants as want
use Rattle.json_events.specs.JsonTree.{Json, Mark, opens, closes, comma, colon, key, text, digits, name, with_value}
use Rattle.json_events.specs.NestingSteps.{Place, kind_of, next, next_in, Leads}
use Rattle.json_events.specs.declared.state.Kind.TheVariants.{Scalar}
use Rattle.json_events.specs.JsonText.{is_blank, IsWord}
use Rattle.json_events.specs.WordSteps.{Word, begin, more, is_number, held_on, mark_of, word_from}
use Rattle.json_events.specs.JsonText.{Span, with_token, IsBlank, Spells, IsTextWith}
use Rattle.json_events.specs.ReadingSteps.{Config, config, leaves, gap, whole, on_word, enters, begins, wants_key, out_gap, ended, out_word, end_word, reads, start}
use Rattle.json_events.proofs.texts.TokenLemmas.{reads_out, given_token, map_twice, done_with, if_done_from}
use Rattle.json_events.proofs.texts.MarkLemmas.{leads_of_tree}
use Rattle.json_events.proofs.texts.WordLemmas.{last_mark, closed_ends}
use Rattle.json_events.proofs.texts.WordRuns.{FitsKey, words_complete, word_not_blank, is_after, number_stops}

-- a number may end before these bytes
abbrev pub Follows : List ℕ → Type 0
Follows [] = ⊤
Follows (b ∷ s) = is_after b ≡ true

-- a step that gives nothing
pub leaves_none : (c : Option Config) (s : List ℕ) → reads_out (leaves c []) s ≡ reads c s
leaves_none c s = option_map_id (reads c s)

-- the end of a word, before what is read after it
pub ends_word : (w : Word) (p : Place) (from at : ℕ) (m : Mark) (s : List ℕ) (ts : List Span) → mark_of w.state w.is_key w.held ≡ Some m → ((held : List ℕ) → m ≡ digits held → Follows s) → reads (gap p at) s ≡ Some ts → reads_out (on_word w p from at) s ≡ Some (with_token m from at ts)
ends_word w p from at m s ts e f h = by_number (is_number w.state) refl
  where
    given : (xs : List Span) (o : Option (List Span)) → o ≡ Some ts → option_map (λ ys. with_token m from at [] ++ ys) o ≡ Some (with_token m from at ts)
    given xs o r = ap (option_map (λ ys. with_token m from at [] ++ ys)) r ∙ ap Some (given_token m from at ts)

    at_end : (t : List ℕ) → reads (gap p at) t ≡ Some ts → is_number w.state ≡ true → Follows t → reads (config (Some w) p from at) t ≡ Some (with_token m from at ts)
    at_end [] r n a =
        let d = done_with p.want p.around [] ts r in
        ap (λ o. end_word o p from at) e ∙ if_done_from p.want p.around (with_token m from at []) d.1 d.2 ∙ ap (λ l. Some (with_token m from at l)) (sym d.0)
    at_end (b ∷ t) r n a =
        let stops : more w b ≡ None = ap (λ o. option_map (λ l. record { state = l; is_key = w.is_key; held = held_on w.state w.held b }) o) (number_stops w.state w.is_key w.held b m n e a) in
        let o = out_gap p at b in
        ap (λ x. reads_out (out_word x w p from at b) t) stops
        ∙ ap (λ x. reads_out (ended x p from at b) t) e
        ∙ map_twice (with_token m from at []) o.given (reads o.next t)
        ∙ given [] (reads_out o t) r

    by_number : (n : Bool) → is_number w.state ≡ n → reads_out (on_word w p from at) s ≡ Some (with_token m from at ts)
    by_number true n =
        ap (λ x. reads_out (whole (cond x None (mark_of w.state w.is_key w.held)) w p from at) s) n
        ∙ leaves_none (config (Some w) p from at) s ∙ at_end s h n (f w.held (last_mark w.state w.is_key w.held m n e).1)
    by_number false n =
        ap (λ x. reads_out (whole (cond x None (mark_of w.state w.is_key w.held)) w p from at) s) n
        ∙ ap (λ x. reads_out (whole x w p from at) s) e
        ∙ given [] (reads (gap p at) s) h

-- a word that has more is not whole by itself
stays_open : (w : Word) (p : Place) (from at b : ℕ) (t : List ℕ) (m : Mark) → word_from (Some w) (b ∷ t) ≡ Some m → on_word w p from at ≡ leaves (config (Some w) p from at) []
stays_open w p from at b t m h = by_number (is_number w.state) refl
  where
    by_mark : (o : Option Mark) → mark_of w.state w.is_key w.held ≡ o → is_number w.state ≡ false → whole o w p from at ≡ leaves (config (Some w) p from at) []
    by_mark None e n = refl
    by_mark (Some x) e n = let r = closed_ends w.state w.is_key w.held (b ∷ t) x m n e h in absurd (cc (r.0))

    by_number : (n : Bool) → is_number w.state ≡ n → on_word w p from at ≡ leaves (config (Some w) p from at) []
    by_number true n = ap (λ x. whole (cond x None (mark_of w.state w.is_key w.held)) w p from at) n
    by_number false n = ap (λ x. whole (cond x None (mark_of w.state w.is_key w.held)) w p from at) n ∙ by_mark (mark_of w.state w.is_key w.held) refl n

-- the rest of a word, and what is read after it
pub word_reads : (t : List ℕ) (w : Word) (p : Place) (from at : ℕ) (m : Mark) (s : List ℕ) (ts : List Span) → word_from (Some w) t ≡ Some m → ((held : List ℕ) → m ≡ digits held → Follows s) → reads (gap p (at + length t)) s ≡ Some ts → reads_out (on_word w p from at) (t ++ s) ≡ Some (with_token m from (at + length t) ts)
word_reads [] w p from at m s ts h f r =
    let same : at + 0 ≡ at = omega arith in
    ends_word w p from at m s ts h f (subst (λ n. reads (gap p n) s ≡ Some ts) same r) ∙ ap (λ n. Some (with_token m from n ts)) (sym same)
word_reads (b ∷ t) w p from at m s ts h f r =
    let same : at + suc (length t) ≡ at + 1 + length t = omega arith in
    ap (λ x. reads_out x (b ∷ (t ++ s))) (stays_open w p from at b t m h)
    ∙ leaves_none (config (Some w) p from at) (b ∷ (t ++ s))
    ∙ by_more (λ v e. word_reads t v p from (at + 1) m s ts e f (subst (λ n. reads (gap p n) s ≡ Some ts) same r)) (more w b) h
    ∙ ap (λ n. Some (with_token m from n ts)) (sym same)
  where
    by_more : ((v : Word) → word_from (Some v) t ≡ Some m → reads_out (on_word v p from (at + 1)) (t ++ s) ≡ Some (with_token m from (at + 1 + length t) ts)) → (o : Option Word) → word_from o t ≡ Some m → reads_out (out_word o w p from at b) (t ++ s) ≡ Some (with_token m from (at + 1 + length t) ts)
    by_more ih None e = absurd (cc)
    by_more ih (Some v) e = ih v e

-- white space
blank_reads : (blank : List ℕ) (p : Place) (at : ℕ) (s : List ℕ) → IsBlank blank → reads (gap p at) (blank ++ s) ≡ reads (gap p (at + length blank)) s
blank_reads [] p at s h = ap (λ n. reads (gap p n) s) (omega arith)
blank_reads (b ∷ blank) p at s h =
    let same : at + 1 + length blank ≡ at + suc (length blank) = omega arith in
    let x = and_parts _ _ h in
    ap (λ t. reads_out (cond t (leaves (gap p (at + 1)) []) (begins (begin (wants_key p.want) b) p at)) (blank ++ s)) x.0
    ∙ leaves_none (gap p (at + 1)) (blank ++ s)
    ∙ blank_reads blank p (at + 1) s x.1
    ∙ ap (λ n. reads (gap p n) s) same

-- the flag fits where the mark may come
fits_key : (w : Want) (st : List Bracket) (m : Mark) (q : Place) → next_in w st (kind_of m) ≡ Some q → FitsKey m (wants_key w)
fits_key w st (opens b) q e = tt
fits_key w st (closes b) q e = tt
fits_key w st comma q e = tt
fits_key w st colon q e = tt
fits_key want.Value st (key k) q e = absurd (cc)
fits_key want.FirstItem st (key k) q e = absurd (cc)
fits_key want.FirstKey st (key k) q e = refl
fits_key want.Key st (key k) q e = refl
fits_key want.Colon st (key k) q e = absurd (cc)
fits_key want.After [] (key k) q e = absurd (cc)
fits_key want.After (b ∷ st) (key k) q e = absurd (cc)
fits_key want.Value st (text s) q e = refl
fits_key want.FirstItem st (text s) q e = refl
fits_key want.FirstKey st (text s) q e = absurd (cc)
fits_key want.Key st (text s) q e = absurd (cc)
fits_key want.Colon st (text s) q e = refl
fits_key want.After st (text s) q e = refl
fits_key w st (digits s) q e = tt
fits_key w st (name n) q e = tt

-- after a number stands what may follow a value
pub scalar_after : (w : Want) (st : List Bracket) (q : Place) → next_in w st Scalar ≡ Some q → q.want ≡ want.After
scalar_after want.Value st q e = let x : record { want = want.After; around = st } ≡ q = cc in sym (ap (λ (y : Place). y.want) x)
scalar_after want.FirstItem st q e = let x : record { want = want.After; around = Array ∷ st } ≡ q = cc in sym (ap (λ (y : Place). y.want) x)
scalar_after want.FirstKey st q e = absurd (cc)
scalar_after want.Key st q e = absurd (cc)
scalar_after want.Colon st q e = absurd (cc)
scalar_after want.After [] q e = absurd (cc)
scalar_after want.After (b ∷ st) q e = absurd (cc)

-- a mark may follow a value only where its first byte may follow a number
first_after : (st : List Bracket) (m : Mark) (ms : List Mark) (w s : List ℕ) → Leads (next_in want.After st (kind_of m)) ms → IsWord m w → Follows (w ++ s)
first_after [] m ms w s l h = absurd l
first_after (b ∷ st) (opens c) ms w s l h = absurd l
first_after (b ∷ st) (closes Array) ms w s l h = subst (λ x. Follows (x ++ s)) (sym h) refl
first_after (b ∷ st) (closes Object) ms w s l h = subst (λ x. Follows (x ++ s)) (sym h) refl
first_after (b ∷ st) comma ms w s l h = subst (λ x. Follows (x ++ s)) (sym h) refl
first_after (b ∷ st) colon ms w s l h = absurd l
first_after (b ∷ st) (key k) ms w s l h = absurd l
first_after (b ∷ st) (text t) ms w s l h = absurd l
first_after (b ∷ st) (digits t) ms w s l h = absurd l
first_after (b ∷ st) (name n) ms w s l h = absurd l

blank_follows : (b : ℕ) (s t : List ℕ) → IsBlank (b ∷ s) → Follows (b ∷ t)
blank_follows b s t h = or_left (is_blank b) _ (and_parts _ _ h).0

-- what follows a value begins so
pub follows : (p : Place) (ms : List Mark) (at : ℕ) (s : List ℕ) (ts : List Span) → p.want ≡ want.After → Leads (Some p) ms → Spells at ms s ts → Follows s
follows p [] at [] ts e l x = tt
follows p [] at (b ∷ s) ts e l x = blank_follows b s s x.0
follows p (m ∷ ms) at s ts e l x = subst Follows (sym x.4) (by_blank x.0 x.5)
  where
    by_blank : (blank : List ℕ) → IsBlank blank → Follows (blank ++ (x.1 ++ x.2))
    by_blank [] h = first_after p.around m ms x.1 x.2 (subst (λ w. Leads (next_in w p.around (kind_of m)) ms) e l) x.6
    by_blank (b ∷ blank) h = blank_follows b blank (blank ++ (x.1 ++ x.2)) h

-- where marks lead on there is a place
pub next_is : (o : Option Place) (ms : List Mark) → Leads o ms → (q : Place) × (o ≡ Some q) × Leads (Some q) ms
next_is None ms l = absurd l
next_is (Some q) ms l = (q, refl, l)

-- a word at a place where it may come, and what is read after it
begin_reads : (p q : Place) (m : Mark) (w : List ℕ) (at : ℕ) (s : List ℕ) (ts : List Span) → next p (kind_of m) ≡ Some q → IsWord m w → ((held : List ℕ) → m ≡ digits held → Follows s) → reads (gap q (at + length w)) s ≡ Some ts → reads (gap p at) (w ++ s) ≡ Some (with_token m at (at + length w) ts)
begin_reads p q m w at s ts e h f r =
    let x = words_complete (wants_key p.want) m w (fits_key p.want p.around m q e) h in
    let b = x.0 in
    let t = x.1 in
    let v = x.2 in
    let long : length w ≡ suc (length t) = ap length x.3 in
    let same : at + length w ≡ at + 1 + length t = omega arith in
    ap (λ (l : List ℕ). reads (gap p at) (l ++ s)) x.3
    ∙ ap (λ c. reads_out (cond c (leaves (gap p (at + 1)) []) (begins (begin (wants_key p.want) b) p at)) (t ++ s)) (word_not_blank (wants_key p.want) b v x.4)
    ∙ ap (λ o. reads_out (begins o p at) (t ++ s)) x.4
    ∙ ap (λ o. reads_out (enters v o at) (t ++ s)) (ap (next p) (sym x.6) ∙ e)
    ∙ word_reads t v q at (at + 1) m s ts x.5 f (subst (λ n. reads (gap q n) s ≡ Some ts) same r)
    ∙ ap (λ n. Some (with_token m at n ts)) (sym same)

-- behind a number a value has ended
pub after_digits : (p q : Place) (m : Mark) (held : List ℕ) → m ≡ digits held → next p (kind_of m) ≡ Some q → q.want ≡ want.After
after_digits p q m held d e = scalar_after p.want p.around q (ap (λ x. next p (kind_of x)) (sym d) ∙ e)

-- spelled marks that lead to the end are read
pub goes_reads : (ms : List Mark) (p : Place) (at : ℕ) (s : List ℕ) (ts : List Span) → Leads (Some p) ms → Spells at ms s ts → reads (gap p at) s ≡ Some ts
goes_reads [] p at s ts l x =
    ap (reads (gap p at)) (sym (append-nil s)) ∙ blank_reads s p at [] x.0 ∙ if_done_from p.want p.around [] l.0 l.1 ∙ ap Some (sym x.1)
goes_reads (m ∷ ms) p at s ts l x =
    let n = next_is (next p (kind_of m)) ms l in
    let q = n.0 in
    let start_at = at + length x.0 in
    let rest = goes_reads ms q (start_at + length x.1) x.2 x.3 n.2 x.7 in
    ap (reads (gap p at)) x.4
    ∙ blank_reads x.0 p at (x.1 ++ x.2) x.5
    ∙ begin_reads p q m x.1 start_at x.2 x.3 n.1 x.6 (λ held d. follows q ms (start_at + length x.1) x.2 x.3 (after_digits p q m held d n.1) n.2 x.7) rest
    ∙ ap Some (sym x.8)

-- a text with these tokens is read so
pub reads_of_text : (j : Json) (s : List ℕ) (ts : List Span) → IsTextWith j s ts → reads start s ≡ Some ts
reads_of_text j s ts h = goes_reads (with_value j []) (record { want = want.Value; around = [] }) 0 s ts (leads_of_tree j) h
