-- The tokens of a list of bytes: there is one list of them, a longer list of bytes goes on from it, and a reader
-- has given it.
use Rattle.std.proofs.Common.{◌≡◌, ℕ, ◌+◌, ◌<◌, ◌≤◌, ◌⊎◌, List, [], ◌∷◌, ◌++◌, length, get_or, take, drop, None, inl, inr, refl, sym, ap, ◌∙◌, subst, arith, append_assoc}
use Rattle.std.specs.List.{AllByRecursion}
use Rattle.std.proofs.lemmas.List.{append-nil, append_cancel_left, length-append, length-take-le, take_all, take_more, take-append-drop, take-take}
use Rattle.std.proofs.lemmas.Bool.{cases_lt}
use Rattle.base.proofs.EachLemmas.{each_part}
use Rattle.json_events.specs.JsonTree.{Json, opens}
use Rattle.json_events.specs.JsonText.{Span, IsTextWith, BeginsText}
use Rattle.json_events.specs.JsonTokens.{BeginsWith, StandInOrder, IsPending, HasNotEnded, HasEnded, IsWithin, AreTokensOf, HaveEndedIn}
use Rattle.json_events.specs.ReaderState.{ReaderState, Stands, IsBroken, IsTooDeep}
use Rattle.json_events.proofs.texts.TokenRuns.{reads_of_text}
use Rattle.json_events.proofs.texts.OrderLemmas.{text_order, text_within, order_front, late_pending, text_before_opening}
use Rattle.json_events.proofs.machine.EndedLemmas.{AllLate}
use Rattle.json_events.proofs.machine.GivenLemmas.{AllEnded, ended_later}
use Rattle.json_events.proofs.reading.FrontLemmas.{begin_front, ended_first, ended_are_same, front_begins, longest_front, reader_begins, reader_given, reader_others}

-- what begins a text with these tokens begins one
pub begins_text : (b : List ℕ) (ts : List Span) → BeginsWith b ts → BeginsText b
begins_text b ts h = (h.0, h.2, (ts ++ h.1, h.3))

-- a front of what begins such a text begins one
pub begins_shorter : (p s : List ℕ) (ts : List Span) → BeginsWith (p ++ s) ts → BeginsWith p ts
begins_shorter p s ts h =
    (s ++ h.0, h.1, h.2, subst (λ (l : List ℕ). IsTextWith h.2 l (ts ++ h.1)) (append_assoc p s h.0) h.3)

-- what begins a text has a list of tokens
pub have_tokens : (p : List ℕ) → BeginsText p → (ts : List Span) × AreTokensOf p ts
have_tokens p h =
    let f = begin_front p in
    let zero_more : 0 + length p ≡ length p = omega arith in
    let a = f.others h.0 h.2.0 (reads_of_text h.1 (p ++ h.0) h.2.0 h.2.1) in (
      f.given,
      record {
        begins = (h.0, a.0, h.1, subst (λ l. IsTextWith h.1 (p ++ h.0) l) a.1 h.2.1);
        ended = subst (λ n. AllEnded n f.given) zero_more f.ended;
        no_other = λ s others j x.
            let r = f.others s (f.given ++ others) (reads_of_text j (p ++ s) (f.given ++ others) x) in
            subst (λ l. AllLate (length p) l) (sym (append_cancel_left f.given others r.0 r.1))
            (subst (λ n. AllLate n r.0) zero_more r.2);
      },
    )

-- what has ended is none of those that have not
no_more : (n : ℕ) (xs ys : List Span) → AllEnded n xs → AllLate n (xs ++ ys) → xs ≡ []
no_more n [] ys h l = refl
no_more n (x ∷ xs) ys h l = absurd (h.0 l.0)

-- a text whose tokens begin with these goes on with tokens that have not ended
pub text_goes_on : (p s : List ℕ) (j : Json) (ts all : List Span) → AreTokensOf p ts → IsTextWith j (p ++ s) all
    → (rest : List Span) × (all ≡ ts ++ rest) × AllLate (length p) rest
text_goes_on p s j ts all a x =
    let u = a.begins in
    let r = ended_are_same p u.0 s u.2 j ts u.1 all u.3 a.ended x in
    (r.0, r.1, a.no_other s r.0 j (subst (λ l. IsTextWith j (p ++ s) l) r.1 x))

-- there is one list of tokens
pub one_list : (p : List ℕ) (ts us : List Span) → AreTokensOf p ts → AreTokensOf p us → ts ≡ us
one_list p ts us a b =
    let t = b.begins in
    let n = length p in
    let r = text_goes_on p t.0 t.2 ts (us ++ t.1) a t.3 in
    let e = ended_first n us ts t.1 r.0 r.1 b.ended r.2 in
    let more_ended : AllEnded n e.0 = (each_part (HasEnded n) us e.0 (subst (AllEnded n) e.1 a.ended)).1 in
    let split : us ++ t.1 ≡ us ++ (e.0 ++ r.0) = r.1 ∙ ap (λ l. l ++ r.0) e.1 ∙ append_assoc us e.0 r.0 in
    let others : t.1 ≡ e.0 ++ r.0 = append_cancel_left us t.1 (e.0 ++ r.0) split in
    let nothing : e.0 ≡ [] = no_more n e.0 r.0 more_ended (subst (AllLate n) others (b.no_other t.0 t.1 t.2 t.3)) in
    e.1 ∙ ap (λ l. us ++ l) nothing ∙ append-nil us

-- tokens that have ended in a list are the first of those of a longer one
early_tokens : (p q : List ℕ) (ts us : List Span) → BeginsWith p ts → AllEnded (length p) ts → AreTokensOf (p ++ q) us
    → (rest : List Span) × (us ≡ ts ++ rest)
early_tokens p q ts us a ended b =
    let t = b.begins in
    let n = length (p ++ q) in
    let whole = subst (λ (l : List ℕ). IsTextWith t.2 l (us ++ t.1)) (append_assoc p q t.0) t.3 in
    let r = ended_are_same p a.0 (q ++ t.0) a.2 t.2 ts a.1 (us ++ t.1) a.3 ended whole in
    let later : AllEnded n ts = ended_later ts (length p) n (omega (arith, length-append p q)) ended in
    ended_first n ts us r.0 t.1 (sym r.1) later (b.no_other t.0 t.1 t.2 t.3)

-- a longer list goes on from it
pub list_goes_on : (p q : List ℕ) (ts us : List Span) → AreTokensOf p ts → AreTokensOf (p ++ q) us
    → (rest : List Span) × (us ≡ ts ++ rest)
list_goes_on p q ts us a b = early_tokens p q ts us a.begins a.ended b

-- tokens that have ended in some bytes of a list are the first of its tokens
pub told_first : (bytes : List ℕ) (ts us : List Span) → HaveEndedIn bytes ts → AreTokensOf bytes us
    → (rest : List Span) × (us ≡ ts ++ rest)
told_first bytes ts us h b =
    let p = take h.count bytes in
    let long : length p ≡ h.count = length-take-le h.count bytes h.within in
    let whole = subst (λ (l : List ℕ). AreTokensOf l us) (sym (take-append-drop h.count bytes)) b in
    early_tokens p (drop h.count bytes) ts us h.begins (subst (λ n. AllEnded n ts) (sym long) h.ended) whole

-- the tokens of a text are those of its bytes, and others that have not ended in them
pub text_tokens : (j : Json) (p : List ℕ) (ts all : List Span) → AreTokensOf p ts → IsTextWith j p all
    → (rest : List Span) × (all ≡ ts ++ rest) × AllLate (length p) rest
text_tokens j p ts all a x =
    text_goes_on p [] j ts all a (subst (λ (l : List ℕ). IsTextWith j l all) (sym (append-nil p)) x)

-- these are one number at most, which ends where the text does
pub text_pending : (j : Json) (p : List ℕ) (ts all : List Span) → AreTokensOf p ts → IsTextWith j p all
    → (rest : List Span) × (all ≡ ts ++ rest) × AllByRecursion (IsPending (length p)) rest × (length rest ≤ 1)
text_pending j p ts all a x =
    let r = text_tokens j p ts all a x in
    let order = subst (StandInOrder 0) r.1 (text_order j p all x) in
    let within = subst (λ l. AllByRecursion (IsWithin (length p)) l) r.1 (text_within j p all x) in
    let last = late_pending (length p) ts r.0 order within r.2 in
    (r.0, r.1, last.0, last.1)

-- tokens that have ended in some bytes of a list have ended before its fault
pub ended_before : (bytes : List ℕ) (ts : List Span) (k : ℕ) → HaveEndedIn bytes ts
    → (BeginsWith (take (k + 1) bytes) ts → ⊥) → AllEnded k ts
ended_before bytes ts k h dead = by_count (cases_lt k h.count)
  where
    by_count : (k < h.count) ⊎ (h.count ≤ k) → AllEnded k ts
    by_count (inr x) = ended_later ts h.count k x h.ended
    by_count (inl x) =
        let p = take h.count bytes in
        let cut : take (k + 1) p ≡ take (k + 1) bytes = take-take (k + 1) h.count bytes (omega (arith, x)) in
        let split : p ≡ take (k + 1) bytes ++ drop (k + 1) p =
        sym (take-append-drop (k + 1) p) ∙ ap (λ (l : List ℕ). l ++ drop (k + 1) p) cut in
        let begins = subst (λ (l : List ℕ). BeginsWith l ts) split h.begins in
        let front = begins_shorter (take (k + 1) bytes) (drop (k + 1) p) ts begins in
        absurd (dead front)

-- the tokens of the front behind which a fault stands, and no longer front begins a text
pub fault_front : (bytes : List ℕ) (ts : List Span) (k : ℕ) → IsBroken bytes ts k → HaveEndedIn bytes ts
    → AreTokensOf (take k bytes) ts × (BeginsText (take (k + 1) bytes) → ⊥)
fault_front bytes ts k h e =
    let ended = ended_before bytes ts k e h.dead in
    let long : length (take k bytes) ≡ k = length-take-le k bytes (omega (arith, h.within)) in
    let here = subst (λ n. AllEnded n ts) (sym long) ended in
    (record { begins = h.alive; ended = here; no_other = h.no_other }, (longest_front bytes ts k h ended).1)

count_within : (bytes : List ℕ) (n k : ℕ) → n ≤ length bytes → n ≤ k → n ≤ length (take k bytes)
count_within bytes n k h l = by_length (cases_lt k (length bytes))
  where
    by_length : (k < length bytes) ⊎ (length bytes ≤ k) → n ≤ length (take k bytes)
    by_length (inl x) = omega (arith, l, length-take-le k bytes (omega (arith, x)))
    by_length (inr x) = subst (λ m. n ≤ m) (sym (ap length (take_all k bytes x))) h

-- what has ended in a list has in a front of it that is long enough
shorter_list : (bytes : List ℕ) (ts : List Span) (k : ℕ) (h : HaveEndedIn bytes ts) → h.count ≤ k
    → HaveEndedIn (take k bytes) ts
shorter_list bytes ts k h x = record {
  count = h.count;
  within = count_within bytes h.count k h.within x;
  begins = subst (λ (l : List ℕ). BeginsWith l ts) (sym (take-take h.count k bytes x)) h.begins;
  ended = h.ended;
}

longer_front : (bytes : List ℕ) (k n : ℕ) → BeginsText (take n bytes) → k < n → BeginsText (take (k + 1) bytes)
longer_front bytes k n h l =
    let p = take n bytes in
    let cut : take (k + 1) p ≡ take (k + 1) bytes = take-take (k + 1) n bytes (omega (arith, l)) in
    let split : p ≡ take (k + 1) bytes ++ drop (k + 1) p =
    sym (take-append-drop (k + 1) p) ∙ ap (λ (l : List ℕ). l ++ drop (k + 1) p) cut in
    front_begins (take (k + 1) bytes) (drop (k + 1) p) (subst (λ (l : List ℕ). BeginsText l) split h)

-- they are the first of those of the longest front that begins a text
pub told_first_of_front : (bytes : List ℕ) (ts us : List Span) (k : ℕ) → HaveEndedIn bytes ts
    → AreTokensOf (take k bytes) us
    → (BeginsText (take (k + 1) bytes) → ⊥) → (rest : List Span) × (us ≡ ts ++ rest)
told_first_of_front bytes ts us k h b dead = by_count (cases_lt k h.count)
  where
    by_count : (k < h.count) ⊎ (h.count ≤ k) → (rest : List Span) × (us ≡ ts ++ rest)
    by_count (inl x) = absurd (dead (longer_front bytes k h.count (begins_text (take h.count bytes) ts h.begins) x))
    by_count (inr x) = told_first (take k bytes) ts us (shorter_list bytes ts k h x) b

-- a reader that has given what has ended has given the tokens of its bytes
pub reader_tokens : (r : ReaderState) (b : List ℕ) (ts : List Span) → r.fault ≡ None → Stands r b ts → HaveEndedIn b ts
    → AreTokensOf b ts
reader_tokens r b ts e h x = record {
  begins = reader_begins r b ts e h;
  ended = ended_later ts x.count (length b) x.within x.ended;
  no_other = reader_others r b ts e h;
}

-- a reader has given the tokens of its bytes, and perhaps others that end where these end
pub reader_split : (r : ReaderState) (b : List ℕ) (ts : List Span) → r.fault ≡ None → Stands r b ts
    → (us pending : List Span) × (ts ≡ us ++ pending) × AreTokensOf b us
    × AllByRecursion (IsPending (length b)) pending × (length pending ≤ 1)
reader_split r b ts e h =
    let n = length b in
    let t = reader_begins r b ts e h in
    let g = have_tokens b (begins_text b ts t) in
    let s = text_goes_on b t.0 t.2 g.0 (ts ++ t.1) g.1 t.3 in
    let others : AllLate n t.1 = reader_others r b ts e h t.0 t.1 t.2 t.3 in
    let m = ended_first n g.0 ts s.0 t.1 (sym s.1) g.1.ended others in
    let split : g.0 ++ (m.0 ++ t.1) ≡ g.0 ++ s.0 =
    sym (append_assoc g.0 m.0 t.1) ∙ ap (λ l. l ++ t.1) (sym m.1) ∙ s.1 in
    let rest : m.0 ++ t.1 ≡ s.0 = append_cancel_left g.0 (m.0 ++ t.1) s.0 split in
    let late : AllLate n m.0 = (each_part (HasNotEnded n) m.0 t.1 (subst (AllLate n) (sym rest) s.2)).0 in
    let within = subst (λ l. AllByRecursion (IsWithin n) l) m.1 (reader_given r b ts e h) in
    let order = text_order t.2 (b ++ t.0) (ts ++ t.1) t.3 in
    let front : StandInOrder 0 (g.0 ++ m.0) = subst (StandInOrder 0) m.1 (order_front ts t.1 0 order) in
    let last = late_pending n g.0 m.0 front within late in
    (g.0, m.0, m.1, g.1, last.0, last.1)

-- what has ended is not the first of what has not
none_ended : (n : ℕ) (t : Span) (more rest others : List Span) → t ∷ others ≡ more ++ rest → HasNotEnded n t
    → AllEnded n more → more ≡ []
none_ended n t [] rest others e late h = refl
none_ended n t (m ∷ more) rest others e late h =
    let same : t ≡ m = cc (e) in absurd (h.0 (subst (HasNotEnded n) same late))

-- the tokens before a bracket that is too deep are those of the bytes before it
pub deep_tokens : (bytes : List ℕ) (ts : List Span) (k : ℕ) → IsTooDeep bytes ts k → AreTokensOf (take k bytes) ts
deep_tokens bytes ts k h =
    let p = take k bytes in
    let b = get_or bytes k 0 in
    let t : Span = record { mark = opens h.bracket; from = k; to = k + 1 } in
    let u = h.tokens.begins in
    let more : take (k + 1) bytes ≡ p ++ b ∷ [] = take_more bytes k 0 h.within in
    let bytes_are : take (k + 1) bytes ++ u.0 ≡ p ++ (b ∷ u.0) =
    ap (λ (l : List ℕ). l ++ u.0) more ∙ append_assoc p (b ∷ []) u.0 in
    let text = subst (λ (l : List ℕ). IsTextWith u.2 l (ts ++ t ∷ u.1)) bytes_are
    (subst (IsTextWith u.2 (take (k + 1) bytes ++ u.0)) (append_assoc ts (t ∷ []) u.1) u.3) in
    let n = length p in
    let long : n ≡ k = length-take-le k bytes (omega (arith, h.within)) in
    let ended : AllEnded n ts = subst (λ j. AllEnded j ts) (sym long)
    (text_before_opening u.2 (p ++ (b ∷ u.0)) ts u.1 t h.bracket refl text) in
    let g = have_tokens p (b ∷ u.0, u.2, (ts ++ t ∷ u.1, text)) in
    let r = text_goes_on p (b ∷ u.0) u.2 g.0 (ts ++ t ∷ u.1) g.1 text in
    let m = ended_first n ts g.0 (t ∷ u.1) r.0 r.1 ended r.2 in
    let split : ts ++ t ∷ u.1 ≡ ts ++ (m.0 ++ r.0) =
    r.1 ∙ ap (λ l. l ++ r.0) m.1 ∙ append_assoc ts m.0 r.0 in
    let behind : t ∷ u.1 ≡ m.0 ++ r.0 = append_cancel_left ts (t ∷ u.1) (m.0 ++ r.0) split in
    let more_ended = (each_part (HasEnded n) ts m.0 (subst (AllEnded n) m.1 g.1.ended)).1 in
    let late : n < k + 1 = omega (arith, long) in
    let nothing : m.0 ≡ [] = none_ended n t m.0 r.0 u.1 behind late more_ended in
    subst (AreTokensOf p) (m.1 ∙ ap (λ l. ts ++ l) nothing ∙ append-nil ts) g.1
