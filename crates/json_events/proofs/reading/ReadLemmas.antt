-- A token that a reader gives has ended in the bytes that it was shown.
use Rattle.std.proofs.Common.{◌≡◌, ℕ, ◌+◌, ◌-◌, ◌<◌, ◌≤◌, Bool, true, false, cond, List, [], ◌∷◌, ◌++◌, length, take, drop, Option, Some, None, refl, sym, ap, ◌∙◌, subst, arith, append_assoc}
use Rattle.std.specs.Prelude.{◌||◌}
use Rattle.std.specs.Option.{IfSome}
use Rattle.std.proofs.lemmas.List.{append-nil, length-append, length-drop, take-append-drop}
use Rattle.std.proofs.Math.Seq.{take-add, take-append-add, take-length}
use Rattle.base.proofs.EachLemmas.{each_joined}
use Rattle.json_events.specs.declared.token.Spanned.{Spanned}
use Rattle.json_events.specs.declared.token.Token.{Token}
use Rattle.json_events.specs.declared.token.Token.TheVariants as tokens
use Rattle.json_events.specs.declared.state.WordState.{WordState}
use Rattle.json_events.specs.declared.step.Step.{Step}
use Rattle.json_events.specs.declared.step.Step.TheVariants as step
use Rattle.json_events.specs.JsonTree.{Mark, digits}
use Rattle.json_events.specs.JsonText.{Span, is_blank, IsTextWith}
use Rattle.json_events.specs.WordSteps.{Word, begin, more, is_number, mark_of, kind_state}
use Rattle.json_events.specs.NestingSteps.{Place, next}
use Rattle.json_events.specs.ReadingSteps.{Config, leaves, gap, whole, on_word, enters, begins, wants_key, out_gap, out}
use Rattle.json_events.specs.ReadingMoves.{Moved, lost, number_ends, is_place, may_begin, may_come, moved_word, moved_from, moved_at}
use Rattle.json_events.specs.JsonTokens.{BeginsWith, EndsPast, HasEnded, HaveEndedIn, level_in, level_limit, Awaits}
use Rattle.json_events.specs.ReaderState.{Reading, word_at, config_at, IsReadable, StandsFor}
use Rattle.json_events.specs.ReaderAnswers.{mark_seen, IsGiven, StandsOn, ReadsOn, IsNumberToken}
use Rattle.json_events.specs.ProgressSeen.{started, step_seen, at_behind, IsPlaced}
use Rattle.json_events.proofs.machine.PrefixLemmas.{stands_next}
use Rattle.json_events.proofs.machine.StepLemmas.{valid_out}
use Rattle.json_events.proofs.machine.CountLemmas.{counted_out}
use Rattle.json_events.proofs.machine.CompletionLemmas.{alive}
use Rattle.json_events.proofs.machine.GivenLemmas.{AllEnded, within_ended, mark_here, out_ended}
use Rattle.json_events.proofs.reading.FeedLemmas.{move, either_move, not_taken, taken_out}
use Rattle.json_events.proofs.reading.StandLemmas.{seen, seen_is, awaits_seen, stands_alive, token_at, step_bytes, step_token, step_stands, on_quiet}

-- a configuration that is left
abbrev IsLeft : Option Config → Type 0
IsLeft o = (d : Config) × (o ≡ Some d)

on_word_left : (w : Word) (p : Place) (from at : ℕ) → IsLeft (on_word w p from at).next
on_word_left w p from at = by_mark (cond (is_number w.state) None (mark_of w.state w.is_key w.held))
  where
    by_mark : (o : Option Mark) → IsLeft (whole o w p from at).next
    by_mark None = (record { word = Some w; place = p; from = from; at = at }, refl)
    by_mark (Some m) = (record { word = None; place = p; from = at; at = at }, refl)

enters_left : (w : Word) (o : Option Place) (at : ℕ) → is_place o ≡ true → IsLeft (enters w o at).next
enters_left w None at h = absurd (cc (h))
enters_left w (Some q) at h = on_word_left w q at (at + 1)

begins_left : (o : Option Word) (p : Place) (at : ℕ) → may_begin o p ≡ true → IsLeft (begins o p at).next
begins_left None p at h = absurd (cc (h))
begins_left (Some w) p at h = enters_left w (next p (kind_state w.state w.is_key)) at h

-- a byte that may come leaves something
gap_left : (p : Place) (at b : ℕ) → may_come p b ≡ true → IsLeft (out_gap p at b).next
gap_left p at b h = by_test (is_blank b) h
  where
    by_test : (t : Bool) → (t || may_begin (begin (wants_key p.want) b) p) ≡ true
        → IsLeft (cond t (leaves (gap p (at + 1)) []) (begins (begin (wants_key p.want) b) p at)).next
    by_test true e = (record { word = None; place = p; from = at + 1; at = at + 1 }, refl)
    by_test false e = begins_left (begin (wants_key p.want) b) p at e

-- a text that begins with tokens and others begins with those
fewer_tokens : (bytes : List ℕ) (ts others : List Span) → BeginsWith bytes (ts ++ others) → BeginsWith bytes ts
fewer_tokens bytes ts others h =
    (h.0, others ++ h.1, h.2, subst (λ l. IsTextWith h.2 (bytes ++ h.0) l) (append_assoc ts others h.1) h.3)

-- what waits where no word has begun goes on with a byte that may come
gap_goes_on : (p : Place) (at b : ℕ) (bytes : List ℕ) (ts : List Span) → may_come p b ≡ true
    → Awaits (gap p at) bytes ts → BeginsWith (bytes ++ b ∷ []) ts
gap_goes_on p at b bytes ts m h =
    let c : Config = record { word = None; place = p; from = at; at = at } in
    let d = gap_left p at b m in
    let goes = stands_next c b bytes ts h (valid_out None p at at b tt) (counted_out c b bytes ts tt h.counted) in
    fewer_tokens (bytes ++ b ∷ []) ts (out c b).given
    (alive d.0 (bytes ++ b ∷ []) (ts ++ (out c b).given)
    (subst (λ o. Awaits o (bytes ++ b ∷ []) (ts ++ (out c b).given)) d.1 goes))

-- a number is given before a byte that may come
abbrev IsBefore : Option Config → Place → ℕ → ℕ → Type 0
IsBefore n p at b = (n ≡ gap p at) × (may_come p b ≡ true)

number_before : (n : Option Config) (xs : List Span) (m : Option Mark) (p : Place) (from at : ℕ)
    → move n false xs ≡ number_ends m p from at → n ≡ gap p at
number_before n xs None p from at e = not_taken n xs lost refl e
number_before n xs (Some m) p from at e = ap (λ (x : Moved). x.next) e

before_from : (w : Option Word) (p : Place) (from at b : ℕ) (n : Option Config) (xs : List Span)
    → move n false xs ≡ moved_from w p from at b → IsBefore n p at b
before_from None p from at b n xs e = not_taken n xs (moved_from None p from at b) refl e
before_from (Some w) p from at b n xs e = by_more (more w b) e
  where
    by_more : (o : Option Word) → move n false xs ≡ moved_word o w p from at b → IsBefore n p at b
    by_more None x =
        let m = mark_of w.state w.is_key w.held in
        either_move (move n false xs) (may_come p b) (number_ends m p from at) lost x
        (λ t y. (number_before n xs m p from at y, t)) (λ _ y. not_taken n xs lost refl y)
    by_more (Some v) x = not_taken n xs (moved_word (Some v) w p from at b) refl x

-- a token that is given with its last byte is no number
pub gives_no_digits : (old new : Reading) (b : ℕ) (s : Spanned)
    → ((from at : ℕ) → step_seen (step.Gives s) new (started old.word from at) at ≡ moved_at (config_at old from at) b)
    → (d : List ℕ) → mark_seen s.token ≡ digits d → ⊥
gives_no_digits old new b s moves d is_digits =
    let from = started old.word 0 0 in
    let xs = token_at s from 1 ∷ [] in
    let c = seen old 0 0 in
    let e : move (Some (seen new from 1)) true xs ≡ moved_at (Some c) b =
    ap (λ o. move o true xs) (sym (seen_is new from 1)) ∙ moves 0 0 ∙ ap (λ o. moved_at o b) (seen_is old 0 0) in
    let r = taken_out c.word c.place c.from c.at b (seen new from 1) xs e in
    let all : AllEnded 1 xs = subst (AllEnded 1) (sym r.1) (out_ended c.word c.place c.from c.at b) in
    let past : EndsPast 1 (digits d) 1 = omega arith in
    all.0 (subst (λ m. EndsPast 1 m 1) (sym is_digits) past)

-- a number is a mark of digits
number_digits : (t : Token) → IsNumberToken t → (d : List ℕ) × (mark_seen t ≡ digits d)
number_digits tokens.BeginObject h = absurd h
number_digits tokens.EndObject h = absurd h
number_digits tokens.BeginArray h = absurd h
number_digits tokens.EndArray h = absurd h
number_digits (tokens.Key t) h = absurd h
number_digits (tokens.Text t) h = absurd h
number_digits (tokens.Number t) h = (t, refl)
number_digits tokens.True h = absurd h
number_digits tokens.False h = absurd h
number_digits tokens.Null h = absurd h

-- the same of the token itself
pub gives_no_number : (old new : Reading) (b : ℕ) (s : Spanned)
    → ((from at : ℕ) → step_seen (step.Gives s) new (started old.word from at) at ≡ moved_at (config_at old from at) b)
    → IsNumberToken s.token → ⊥
gives_no_number old new b s moves h = let d = number_digits s.token h in gives_no_digits old new b s moves d.0 d.1

-- a token that is no number has ended where it ends
given_ended : (s : Spanned) (given : List Span) (n : ℕ) → IsGiven (Some s) given n
    → ((d : List ℕ) → mark_seen s.token ≡ digits d → ⊥) → AllEnded n given
given_ended s given n g h =
    let span = g.0 in
    let here : EndsPast n span.mark n → ⊥ = mark_here span.mark n (λ d e. h d (sym g.2.mark ∙ e)) in
    subst (AllEnded n) (sym g.1) ((λ x. here (subst (λ k. EndsPast n span.mark k) g.3 x)), tt)

-- how many bytes a step takes
abbrev pub step_taken : Step → ℕ
step_taken step.Takes = 1
step_taken (step.Gives s) = 1
step_taken (step.Before s) = 0

taken_bytes : (s : Step) (bytes : List ℕ) (b : ℕ) → take 1 bytes ≡ b ∷ [] → step_bytes s b ≡ take (step_taken s) bytes
taken_bytes step.Takes bytes b e = sym e
taken_bytes (step.Gives s) bytes b e = sym e
taken_bytes (step.Before s) bytes b e = refl

-- tokens that have ended in a front and one byte more
ended_in_next : (bs bytes : List ℕ) (b : ℕ) (ts : List Span) → 0 < length bytes → take 1 bytes ≡ b ∷ []
    → BeginsWith (bs ++ b ∷ []) ts → AllEnded (length bs + 1) ts → HaveEndedIn (bs ++ bytes) ts
ended_in_next bs bytes b ts some first begins ended = record {
  count = length bs + 1;
  within = omega (arith, some, length-append bs bytes);
  begins = subst (λ (l : List ℕ). BeginsWith l ts)
      (sym (take-append-add bs bytes 1 ∙ ap (λ (l : List ℕ). bs ++ l) first)) begins;
  ended = ended;
}

same_config : (c d : Config) → Some c ≡ Some d → c ≡ d
same_config c d e = cc (e)

-- a reader whose configuration has no word
gap_is : (r : Reading) (q : Place) (from at : ℕ) → config_at r from at ≡ gap q at → (r.word ≡ None) × (r.place ≡ q)
gap_is r q from at e = by_word r.word e
  where
    by_word : (w : Option WordState) → config_at (record r { word = w }) from at ≡ gap q at → (w ≡ None) × (r.place ≡ q)
    by_word None x = (refl, ap (λ (c : Config). c.place) (same_config _ _ x))
    by_word (Some l) x =
        let w : Word = record { state = l; is_key = r.is_key; held = r.held } in
        let none : Some w ≡ None = ap (λ (c : Config). c.word) (same_config _ _ x) in
        absurd (cc (none))

gap_again : (r : Reading) (q : Place) (from at : ℕ) → r.word ≡ None → r.place ≡ q → config_at r from at ≡ gap q at
gap_again r q from at e f = ap (λ w. word_at w r.is_key r.held r.place from at) e ∙ ap (λ p. gap p at) f

-- the number that was given before a byte has ended with it
number_ended : (old new : Reading) (b : ℕ) (s : Spanned) (bs bytes : List ℕ) (ts : List Span) → 0 < length bytes
    → take 1 bytes ≡ b ∷ []
    → ((from at : ℕ) → step_seen (step.Before s) new (started old.word from at) at ≡ moved_at (config_at old from at) b)
    → StandsFor new bs ts → HaveEndedIn (bs ++ bytes) ts
number_ended old new b s bs bytes ts some first moves h =
    let n = length bs in
    let from = started old.word 0 0 in
    let c = seen old 0 0 in
    let step = moves 0 0 ∙ ap (λ o. moved_at o b) (seen_is old 0 0) in
    let x = before_from c.word c.place c.from c.at b (config_at new from 0) (token_at s from 0 ∷ []) step in
    let g = gap_is new c.place from 0 x.0 in
    let waits = subst (λ o. Awaits o bs ts) (gap_again new c.place h.start n g.0 g.1) h.awaits in
    ended_in_next bs bytes b ts some first (gap_goes_on c.place n b bs ts x.1 waits) (within_ended ts n waits.counted.2)

-- what was given by a step has ended in the bytes that it was shown
step_ended : (old new : Reading) (b : ℕ) (s : Step) (bs bytes : List ℕ) (ts given : List Span) → 0 < length bytes
    → take 1 bytes ≡ b ∷ []
    → ((from at : ℕ) → step_seen s new (started old.word from at) at ≡ moved_at (config_at old from at) b)
    → StandsFor old bs ts → IsGiven (step_token s) given (length (bs ++ step_bytes s b))
    → StandsFor new (bs ++ step_bytes s b) (ts ++ given)
    → IfSome (step_token s) (λ _. HaveEndedIn (bs ++ bytes) (ts ++ given))
step_ended old new b step.Takes bs bytes ts given some first moves o g h = tt
step_ended old new b (step.Gives s) bs bytes ts given some first moves o g h =
    let long : length (bs ++ b ∷ []) ≡ length bs + 1 = length-append bs (b ∷ []) in
    let before = within_ended ts (length bs) (awaits_seen old bs ts o).counted.2 in
    let here = given_ended s given (length (bs ++ b ∷ [])) g (gives_no_digits old new b s moves) in
    let now = subst (λ n. AllEnded n given) long here in
    ended_in_next bs bytes b (ts ++ given) some first (stands_alive new (bs ++ b ∷ []) (ts ++ given) h)
    (each_joined (HasEnded (length bs + 1)) ts given before now)
step_ended old new b (step.Before s) bs bytes ts given some first moves o g h =
    let same = subst (λ (l : List ℕ). StandsFor new l (ts ++ given)) (append-nil bs) h in
    number_ended old new b s bs bytes (ts ++ given) some first moves same

-- one step
pub step_reads : (old new : Reading) (bytes : List ℕ) (b : ℕ) (s : Step) → 0 < length bytes → take 1 bytes ≡ b ∷ []
    → IsReadable old → level_in new.place.want new.place.around ≤ level_limit
    → ((from at : ℕ) → step_seen s new (started old.word from at) at ≡ moved_at (config_at old from at) b)
    → new.at ≡ at_behind s old.at → IfSome new.word (λ _. new.from ≡ started old.word old.from old.at)
    → IsPlaced s (started old.word old.from old.at) new.at
    → ReadsOn old new bytes (step_taken s) (step_token s)
step_reads old new bytes b s some first v deep moves at_is from_is placed bs ts h =
    let r = step_stands old new b s v deep moves at_is from_is placed bs ts h in
    let same : bs ++ step_bytes s b ≡ bs ++ take (step_taken s) bytes =
    ap (λ (l : List ℕ). bs ++ l) (taken_bytes s bytes b first) in (
      r.0,
      subst (λ (l : List ℕ). IsGiven (step_token s) r.0 (length l)) same r.1,
      subst (λ (l : List ℕ). StandsFor new l (ts ++ r.0)) same r.2,
      step_ended old new b s bs bytes ts r.0 some first moves h r.1 r.2,
    )

-- bytes that were taken without a token
pub quiet_reads : (old new : Reading) (bytes : List ℕ) (n : ℕ) → StandsOn old new (take n bytes) None
    → ReadsOn old new bytes n None
quiet_reads old new bytes n on bs ts h = let r = on bs ts h in (r.0, r.1, r.2, tt)

-- what was taken and given, without what was shown
pub reads_stand : (old new : Reading) (bytes : List ℕ) (n : ℕ) (token : Option Spanned) → ReadsOn old new bytes n token
    → StandsOn old new (take n bytes) token
reads_stand old new bytes n token on bs ts h = let r = on bs ts h in (r.0, r.1, r.2)

-- behind what changed nothing
pub reads_again : (old now new : Reading) (bytes : List ℕ) (n : ℕ) (token : Option Spanned) → StandsOn old now [] None
    → ReadsOn now new bytes n token → ReadsOn old new bytes n token
reads_again old now new bytes n token f g bs ts h =
    g bs ts (subst (λ (l : List ℕ). StandsFor now l ts) (append-nil bs) (on_quiet old now [] f bs ts h))

-- bytes that are read behind others
pub reads_then : (old now new : Reading) (bytes : List ℕ) (k n : ℕ) (token : Option Spanned)
    → StandsOn old now (take k bytes) None → ReadsOn now new (drop k bytes) n token
    → ReadsOn old new bytes (k + n) token
reads_then old now new bytes k n token f g bs ts h =
    let front = bs ++ take k bytes in
    let r = g front ts (on_quiet old now (take k bytes) f bs ts h) in
    let taken : front ++ take n (drop k bytes) ≡ bs ++ take (k + n) bytes =
    append_assoc bs (take k bytes) (take n (drop k bytes)) ∙ ap (λ (l : List ℕ). bs ++ l) (sym (take-add k n bytes)) in
    let all : front ++ drop k bytes ≡ bs ++ bytes =
    append_assoc bs (take k bytes) (drop k bytes) ∙ ap (λ (l : List ℕ). bs ++ l) (take-append-drop k bytes) in (
      r.0,
      subst (λ (l : List ℕ). IsGiven token r.0 (length l)) taken r.1,
      subst (λ (l : List ℕ). StandsFor new l (ts ++ r.0)) taken r.2,
      subst (λ (l : List ℕ). IfSome token (λ _. HaveEndedIn l (ts ++ r.0))) all r.3,
    )

-- the bytes that are left
pub rest_is : (bytes : List ℕ) (k : ℕ) → take (length bytes - k) (drop k bytes) ≡ drop k bytes
rest_is bytes k = subst (λ n. take n (drop k bytes) ≡ drop k bytes) (length-drop k bytes) (take-length (drop k bytes))
