-- The tokens of a text stand one behind another and end within it, and each that stands before an opening bracket has
-- ended there.
use Rattle.std.proofs.Common.{◌≡◌, ℕ, ◌+◌, ◌<◌, ◌≤◌, ◌⊎◌, Bool, true, false, List, [], ◌∷◌, ◌++◌, length, Some, inl, inr, refl, sym, ap, ◌∙◌, subst, arith}
use Rattle.std.specs.List.{AllByRecursion}
use Rattle.std.proofs.lemmas.List.{length-append}
use Rattle.base.proofs.EachLemmas.{each_weaker, each_both, each_part}
use Rattle.json_events.specs.declared.state.Bracket.{Bracket}
use Rattle.json_events.specs.declared.state.Want.{Want}
use Rattle.json_events.specs.declared.state.Want.TheVariants as want
use Rattle.json_events.specs.declared.state.Kind.TheVariants.{Opening}
use Rattle.json_events.specs.JsonTree.{Json, Mark, opens, closes, comma, colon, key, text, digits, name, with_value}
use Rattle.json_events.specs.JsonText.{Span, with_token, IsWord, Spells, IsTextWith}
use Rattle.json_events.specs.NestingSteps.{Place, kind_of, next, next_in, Leads}
use Rattle.json_events.specs.JsonTokens.{StandInOrder, EndsPast, IsPending, HasNotEnded, HasEnded, IsWithin}
use Rattle.json_events.proofs.texts.MarkLemmas.{leads_of_tree}
use Rattle.json_events.proofs.texts.TokenRuns.{next_is, after_digits}
use Rattle.json_events.proofs.texts.WordRuns.{Reads, words_complete}

read_long : (k : Bool) (m : Mark) (w : List ℕ) → Reads k m w → 0 < length w
read_long k m w r = omega (arith, ap length r.3)

-- no word is empty
word_long : (m : Mark) (w : List ℕ) → IsWord m w → 0 < length w
word_long (opens b) w h = read_long false (opens b) w (words_complete false (opens b) w tt h)
word_long (closes b) w h = read_long false (closes b) w (words_complete false (closes b) w tt h)
word_long comma w h = read_long false comma w (words_complete false comma w tt h)
word_long colon w h = read_long false colon w (words_complete false colon w tt h)
word_long (key s) w h = read_long true (key s) w (words_complete true (key s) w refl h)
word_long (text s) w h = read_long false (text s) w (words_complete false (text s) w refl h)
word_long (digits s) w h = read_long false (digits s) w (words_complete false (digits s) w tt h)
word_long (name n) w h = read_long false (name n) w (words_complete false (name n) w tt h)

earlier_order : (ts : List Span) (at k : ℕ) → at ≤ k → StandInOrder k ts → StandInOrder at ts
earlier_order [] at k h x = tt
earlier_order (t ∷ ts) at k h x = (omega (arith, h, x.0), x.1, x.2)

token_order : (m : Mark) (at from to : ℕ) (more : List Span) → at ≤ from → from < to → StandInOrder to more
    → StandInOrder at (with_token m from to more)
token_order (opens b) at from to more h l x = (h, l, x)
token_order (closes b) at from to more h l x = (h, l, x)
token_order comma at from to more h l x = earlier_order more at to (omega (arith, h, l)) x
token_order colon at from to more h l x = earlier_order more at to (omega (arith, h, l)) x
token_order (key s) at from to more h l x = (h, l, x)
token_order (text s) at from to more h l x = (h, l, x)
token_order (digits s) at from to more h l x = (h, l, x)
token_order (name n) at from to more h l x = (h, l, x)

spells_order : (ms : List Mark) (at : ℕ) (s : List ℕ) (ts : List Span) → Spells at ms s ts → StandInOrder at ts
spells_order [] at s ts x = subst (StandInOrder at) (sym x.1) tt
spells_order (m ∷ ms) at s ts x =
    let from = at + length x.0 in
    let to = from + length x.1 in
    subst (StandInOrder at) (sym x.8)
    (token_order m at from to x.3 (omega arith) (omega (arith, word_long m x.1 x.6)) (spells_order ms to x.2 x.3 x.7))

-- those of a text do
pub text_order : (j : Json) (s : List ℕ) (ts : List Span) → IsTextWith j s ts → StandInOrder 0 ts
text_order j s ts x = spells_order (with_value j []) 0 s ts x

token_within : (m : Mark) (from to n : ℕ) (more : List Span) → to ≤ n → AllByRecursion (IsWithin n) more
    → AllByRecursion (IsWithin n) (with_token m from to more)
token_within (opens b) from to n more h x = (h, x)
token_within (closes b) from to n more h x = (h, x)
token_within comma from to n more h x = x
token_within colon from to n more h x = x
token_within (key s) from to n more h x = (h, x)
token_within (text s) from to n more h x = (h, x)
token_within (digits s) from to n more h x = (h, x)
token_within (name n) from to k more h x = (h, x)

spells_within : (ms : List Mark) (at : ℕ) (s : List ℕ) (ts : List Span) (n : ℕ) → at + length s ≡ n → Spells at ms s ts
    → AllByRecursion (IsWithin n) ts
spells_within [] at s ts n e x = subst (AllByRecursion (IsWithin n)) (sym x.1) tt
spells_within (m ∷ ms) at s ts n e x =
    let from = at + length x.0 in
    let to = from + length x.1 in
    let whole = ap length x.4 in
    let parts : length (x.0 ++ (x.1 ++ x.2)) ≡ length x.0 + (length x.1 + length x.2) =
    omega (arith, length-append x.0 (x.1 ++ x.2), length-append x.1 x.2) in
    let rest : to + length x.2 ≡ n = omega (arith, e, whole, parts) in
    subst (AllByRecursion (IsWithin n)) (sym x.8)
    (token_within m from to n x.3 (omega (arith, rest)) (spells_within ms to x.2 x.3 n rest x.7))

-- those of a text end within it
pub text_within : (j : Json) (s : List ℕ) (ts : List Span) → IsTextWith j s ts → AllByRecursion (IsWithin (length s)) ts
text_within j s ts x = spells_within (with_value j []) 0 s ts (length s) (omega arith) x

-- the first of tokens that stand in order do
pub order_front : (ts us : List Span) (at : ℕ) → StandInOrder at (ts ++ us) → StandInOrder at ts
order_front [] us at x = tt
order_front (t ∷ ts) us at x = (x.0, x.1, order_front ts us t.to x.2)

-- and the others
pub order_behind : (ts us : List Span) (at : ℕ) → StandInOrder at (ts ++ us) → (k : ℕ) × StandInOrder k us
order_behind [] us at x = (at, x)
order_behind (t ∷ ts) us at x = order_behind ts us t.to x.2

-- no two tokens end at one place
pub one_pending : (n k : ℕ) (ts : List Span) → AllByRecursion (IsPending n) ts → StandInOrder k ts → length ts ≤ 1
one_pending n k [] h x = omega arith
one_pending n k (t ∷ []) h x = omega arith
one_pending n k (t ∷ (u ∷ ts)) h x = absurd (omega (arith, h.0.2, h.1.0.2, x.2.0, x.2.1))

-- what ends within the bytes and has not ended in them is a number at their end
mark_pending : (m : Mark) (n to : ℕ) → EndsPast n m to → to ≤ n → (s : List ℕ) × (m ≡ digits s) × (to ≡ n)
mark_pending (opens b) n to x h = absurd (omega (arith, x, h))
mark_pending (closes b) n to x h = absurd (omega (arith, x, h))
mark_pending comma n to x h = absurd (omega (arith, x, h))
mark_pending colon n to x h = absurd (omega (arith, x, h))
mark_pending (key s) n to x h = absurd (omega (arith, x, h))
mark_pending (text s) n to x h = absurd (omega (arith, x, h))
mark_pending (digits s) n to x h = (s, refl, omega (arith, x, h))
mark_pending (name s) n to x h = absurd (omega (arith, x, h))

-- of tokens in order that end within the bytes, those that have not ended in them are one number at most
pub late_pending : (n : ℕ) (ts us : List Span) → StandInOrder 0 (ts ++ us) → AllByRecursion (IsWithin n) (ts ++ us)
    → AllByRecursion (HasNotEnded n) us → AllByRecursion (IsPending n) us × (length us ≤ 1)
late_pending n ts us order within late =
    let both = each_both (HasNotEnded n) (IsWithin n) us late (each_part (IsWithin n) ts us within).1 in
    let numbers = each_weaker (λ t. HasNotEnded n t × IsWithin n t) (IsPending n)
    (λ t x. mark_pending t.mark n t.to x.0 x.1) us both in
    let last = order_behind ts us 0 order in
    (numbers, one_pending n last.0 us numbers last.1)

-- in order, a token begins behind the offset, however many stand before it
order_reaches : (ts others : List Span) (t : Span) (at : ℕ) → StandInOrder at (ts ++ t ∷ others) → at ≤ t.from
order_reaches [] others t at x = x.0
order_reaches (u ∷ ts) others t at x = omega (arith, x.0, x.1, order_reaches ts others t u.to x.2)

-- behind a value no bracket opens at once
no_opening : (w : Want) (st : List Bracket) (c : Bracket) (ms : List Mark) → w ≡ want.After
    → Leads (next_in w st (Opening c)) ms → ⊥
no_opening want.Value st c ms e l = cc (e)
no_opening want.FirstItem st c ms e l = cc (e)
no_opening want.FirstKey st c ms e l = cc (e)
no_opening want.Key st c ms e l = cc (e)
no_opening want.Colon st c ms e l = cc (e)
no_opening want.After [] c ms e l = l
no_opening want.After (b ∷ st) c ms e l = l

-- a token behind a word begins behind the word's first byte
behind_word : (m : Mark) (ms : List Mark) (at : ℕ) (blank word rest : List ℕ) (t : Span) (others : List Span)
    → IsWord m word → Spells (at + length blank + length word) ms rest (t ∷ others) → at < t.from
behind_word m ms at blank word rest t others w x =
    let order = spells_order ms (at + length blank + length word) rest (t ∷ others) x in
    omega (arith, word_long m word w, order.0)

same_parts : (t u : Span) (ts us : List Span) → t ∷ ts ≡ u ∷ us → (t ≡ u) × (ts ≡ us)
same_parts t u ts us e =
    let first : t ≡ u = cc (e) in
    let others : ts ≡ us = cc (e) in
    (first, others)

-- the first mark is the first token, or it is a comma or a colon
abbrev IsOff : Mark → ℕ → ℕ → Span → List Span → List Span → Type 0
IsOff m from to t ts more = ((t ≡ record { mark = m; from = from; to = to }) × (ts ≡ more)) ⊎ (t ∷ ts ≡ more)

token_off : (m : Mark) (from to : ℕ) (t : Span) (ts more : List Span) → t ∷ ts ≡ with_token m from to more
    → IsOff m from to t ts more
token_off (opens b) from to t ts more e = inl (same_parts t _ ts more e)
token_off (closes b) from to t ts more e = inl (same_parts t _ ts more e)
token_off comma from to t ts more e = inr e
token_off colon from to t ts more e = inr e
token_off (key s) from to t ts more e = inl (same_parts t _ ts more e)
token_off (text s) from to t ts more e = inl (same_parts t _ ts more e)
token_off (digits s) from to t ts more e = inl (same_parts t _ ts more e)
token_off (name n) from to t ts more e = inl (same_parts t _ ts more e)

-- so between a value and a bracket that opens stands a comma
comma_between : (ms : List Mark) (p : Place) (at : ℕ) (s : List ℕ) (t : Span) (others : List Span) (c : Bracket)
    → p.want ≡ want.After → t.mark ≡ opens c → Leads (Some p) ms → Spells at ms s (t ∷ others) → at < t.from
comma_between [] p at s t others c w e l x = absurd (cc (x.1))
comma_between (m ∷ ms) p at s t others c w e l x =
    by_token (token_off m (at + length x.0) (at + length x.0 + length x.1) t others x.3 x.8)
  where
    by_token : IsOff m (at + length x.0) (at + length x.0 + length x.1) t others x.3 → at < t.from
    by_token (inl y) =
        let opens_first : m ≡ opens c = sym (ap (λ (u : Span). u.mark) y.0) ∙ e in
        absurd (no_opening p.want p.around c ms w (subst (λ k. Leads (next p (kind_of k)) ms) opens_first l))
    by_token (inr y) =
        behind_word m ms at x.0 x.1 x.2 t others x.6
        (subst (Spells (at + length x.0 + length x.1) ms x.2) (sym y) x.7)

-- a token before a bracket has ended where that begins, as a number ends before it
ends_before_opening : (u t : Span) (ts others : List Span) → StandInOrder u.to (ts ++ t ∷ others)
    → ((d : List ℕ) → u.mark ≡ digits d → ts ≡ [] → u.to < t.from) → HasEnded t.from u
ends_before_opening u t [] others x gap z =
    let r = mark_pending u.mark t.from u.to z x.0 in
    let ends_before = gap r.0 r.1 refl in
    omega (arith, r.2, ends_before)
ends_before_opening u t (v ∷ ts) others x gap z =
    let reaches = order_reaches ts others t v.to x.2 in
    let r = mark_pending u.mark t.from u.to z (omega (arith, x.0, x.1, reaches)) in
    omega (arith, r.2, x.0, x.1, reaches)

-- what stands before an opening bracket has ended where that begins
before_opening : (ms : List Mark) (p : Place) (at : ℕ) (s : List ℕ) (ts others : List Span) (t : Span) (c : Bracket)
    → t.mark ≡ opens c → Leads (Some p) ms → Spells at ms s (ts ++ t ∷ others) → AllByRecursion (HasEnded t.from) ts
before_opening ms p at s [] others t c e l x = tt
before_opening [] p at s (u ∷ ts) others t c e l x = absurd (cc (x.1))
before_opening (m ∷ ms) p at s (u ∷ ts) others t c e l x =
    let from = at + length x.0 in
    let q = next_is (next p (kind_of m)) ms l in
    by_token q.0 q.1 q.2 (from + length x.1) x.7
    (λ us y. before_opening ms q.0 (from + length x.1) x.2 us others t c e q.2 y)
    (token_off m from (from + length x.1) u (ts ++ t ∷ others) x.3 x.8)
  where
    by_token : (q : Place) → next p (kind_of m) ≡ Some q → Leads (Some q) ms → (to : ℕ) → Spells to ms x.2 x.3
        → ((us : List Span) → Spells to ms x.2 (us ++ t ∷ others) → AllByRecursion (HasEnded t.from) us)
        → IsOff m (at + length x.0) to u (ts ++ t ∷ others) x.3
        → AllByRecursion (HasEnded t.from) (u ∷ ts)
    by_token q is_q leads to rest ih (inr y) = ih (u ∷ ts) (subst (Spells to ms x.2) (sym y) rest)
    by_token q is_q leads to rest ih (inl y) =
        let spelled = subst (Spells to ms x.2) (sym y.1) rest in
        let ends : u.to ≡ to = ap (λ (v : Span). v.to) y.0 in
        let marks : u.mark ≡ m = ap (λ (v : Span). v.mark) y.0 in
        let order = subst (λ n. StandInOrder n (ts ++ t ∷ others)) (sym ends)
        (spells_order ms to x.2 (ts ++ t ∷ others) spelled) in
        let gap : (d : List ℕ) → u.mark ≡ digits d → ts ≡ [] → u.to < t.from = λ d is_digits none.
        subst (λ n. n < t.from) (sym ends)
        (comma_between ms q to x.2 t others c (after_digits p q m d (sym marks ∙ is_digits) is_q) e leads
        (subst (λ us. Spells to ms x.2 (us ++ t ∷ others)) none spelled)) in
        (ends_before_opening u t ts others order gap, ih ts spelled)

-- the same of a text
pub text_before_opening : (j : Json) (s : List ℕ) (ts others : List Span) (t : Span) (c : Bracket) → t.mark ≡ opens c
    → IsTextWith j s (ts ++ t ∷ others) → AllByRecursion (HasEnded t.from) ts
text_before_opening j s ts others t c e x =
    before_opening (with_value j []) (record { want = want.Value; around = [] }) 0 s ts others t c e (leads_of_tree j) x
