-- What a step does to what a reader stands for.
use Rattle.std.proofs.Common.{◌≡◌, ℕ, ◌+◌, ◌<◌, ◌≤◌, Bool, true, false, List, [], ◌∷◌, ◌++◌, length, take, Option, Some, None, refl, sym, ap, ◌∙◌, subst, arith, append_assoc}
use Rattle.std.specs.Option.{IfSome}
use Rattle.std.proofs.lemmas.List.{append-nil, length-append, length-take-le}
use Rattle.std.proofs.Math.Seq.{take-append-add}
use Rattle.json_events.specs.declared.state.Bracket.{Bracket}
use Rattle.json_events.specs.declared.state.Want.TheVariants as want
use Rattle.json_events.specs.declared.state.WordState.{WordState}
use Rattle.json_events.specs.declared.fault.JsonFault.{JsonFault}
use Rattle.json_events.specs.declared.fault.JsonFault.TheVariants as fault
use Rattle.json_events.specs.declared.token.Spanned.{Spanned}
use Rattle.json_events.specs.declared.step.Step.{Step}
use Rattle.json_events.specs.declared.step.Step.TheVariants as step
use Rattle.json_events.specs.JsonTree.{opens}
use Rattle.json_events.specs.JsonText.{Span, with_token, IsTextWith}
use Rattle.json_events.specs.WordSteps.{Word}
use Rattle.json_events.specs.NestingSteps.{Place}
use Rattle.json_events.specs.ReadingSteps.{Config, gap}
use Rattle.json_events.specs.ReadingMoves.{lost, moved_at}
use Rattle.json_events.specs.JsonTokens.{BeginsWith, HasEnded, NoOtherHasEnded, AreTokensOf, level_in, level_limit, IsSound, IsValid, Awaits}
use Rattle.base.specs.Saturated.{saturated}
use Rattle.json_events.specs.ReaderState.{Reading, config_at, IsReadableWord, IsReadable, StandsFor, IsBroken, IsTooDeep, IsFaultOf}
use Rattle.json_events.specs.ReaderAnswers.{mark_seen, IsGiven, StandsOn, IsFaultBehind}
use Rattle.json_events.specs.ProgressSeen.{HoldsReading, started, step_seen, at_behind, IsPlaced, IsRefused}
use Rattle.json_events.proofs.machine.PrefixLemmas.{stands_start}
use Rattle.json_events.proofs.machine.CompletionLemmas.{alive}
use Rattle.json_events.proofs.machine.EndedLemmas.{late}
use Rattle.json_events.proofs.machine.GivenLemmas.{within_ended}
use Rattle.base.proofs.EachLemmas.{each_joined}
use Rattle.std.specs.List.{AllByRecursion}
use Rattle.json_events.proofs.reading.FeedLemmas.{move, takes_on, before_on, lost_on}

-- a reader to which nothing came
pub start_stands : (in_key : Bool) (held : List ℕ) (around : List Bracket) (from : ℕ) → around ≡ [] → StandsFor (record { word = None; is_key = in_key; held = held; place = record { want = want.Value; around = around }; from = from; at = 0 }) [] []
start_stands in_key held around from e = subst (λ (st : List Bracket). StandsFor (record { word = None; is_key = in_key; held = held; place = record { want = want.Value; around = st }; from = from; at = 0 }) [] []) (sym e) (record {
  start = 0;
  from_is = tt;
  at_is = refl;
  shallow = omega arith;
  awaits = stands_start;
})

-- the configuration of a reader
abbrev pub word_of : Option WordState → Bool → List ℕ → Option Word
word_of None in_key held = None
word_of (Some l) in_key held = Some (record { state = l; is_key = in_key; held = held })

-- the configuration that a reader keeps, with exact offsets
abbrev pub seen : Reading → ℕ → ℕ → Config
seen r from at = record { word = word_of r.word r.is_key r.held; place = r.place; from = started r.word from at; at = at }

-- it is the one of the definition
pub seen_is : (r : Reading) (from at : ℕ) → config_at r from at ≡ Some (seen r from at)
seen_is r from at = by_word r.word
  where
    by_word : (w : Option WordState) → config_at (record r { word = w }) from at ≡ Some (seen (record r { word = w }) from at)
    by_word None = refl
    by_word (Some l) = refl

-- some bytes complete it
pub seen_valid : (r : Reading) (from at : ℕ) → IsReadable r → IsValid (Some (seen r from at))
seen_valid r from at h = by_word r.word h.word
  where
    by_word : (w : Option WordState) → IsReadableWord w r.place.want → IsSound (word_of w r.is_key r.held) r.place
    by_word None x = tt
    by_word (Some l) x = x

-- it awaits what the reader stands for
pub awaits_seen : (r : Reading) (bytes : List ℕ) (ts : List Span) (h : StandsFor r bytes ts) → Awaits (Some (seen r h.start (length bytes))) bytes ts
awaits_seen r bytes ts h = subst (λ c. Awaits c bytes ts) (seen_is r h.start (length bytes)) h.awaits

-- what a reader stands for begins a text
pub stands_alive : (r : Reading) (bytes : List ℕ) (ts : List Span) → StandsFor r bytes ts → BeginsWith bytes ts
stands_alive r bytes ts h = alive (seen r h.start (length bytes)) bytes ts (awaits_seen r bytes ts h)

-- no token but those that were given has ended in it
pub stands_alone : (r : Reading) (bytes : List ℕ) (ts : List Span) → StandsFor r bytes ts → NoOtherHasEnded bytes ts
stands_alone r bytes ts h = late (seen r h.start (length bytes)) bytes ts (awaits_seen r bytes ts h)

-- where the word that a byte goes to began
started_is : (r : Reading) (bytes : List ℕ) (ts : List Span) (h : StandsFor r bytes ts) → started r.word r.from r.at ≡ saturated (started r.word h.start (length bytes))
started_is r bytes ts h = by_word r.word h.from_is
  where
    by_word : (w : Option WordState) → IfSome w (λ _. r.from ≡ saturated h.start) → started w r.from r.at ≡ saturated (started w h.start (length bytes))
    by_word None x = h.at_is
    by_word (Some l) x = x

if_then : (o : Option WordState) (x y z : ℕ) → IfSome o (λ _. x ≡ y) → y ≡ z → IfSome o (λ _. x ≡ z)
if_then None x y z h e = tt
if_then (Some l) x y z h e = h ∙ e

-- the offset behind one byte more
next_at : (n m k : ℕ) → m ≡ saturated n → k ≡ n + 1 → saturated (m + 1) ≡ saturated k
next_at n m k e f = omega (arith, e, f)

-- a reader that has moved from one configuration to another
pub moved_stands : (new : Reading) (from : ℕ) (bytes : List ℕ) (ts : List Span) → level_in new.place.want new.place.around ≤ level_limit → IfSome new.word (λ _. new.from ≡ saturated from) → new.at ≡ saturated (length bytes) → Awaits (Some (seen new from (length bytes))) bytes ts → StandsFor new bytes ts
moved_stands new from bytes ts deep from_is at_is h = record {
  start = from;
  from_is = from_is;
  at_is = at_is;
  shallow = subst (λ n. n ≤ level_limit) h.counted.1 deep;
  awaits = subst (λ c. Awaits c bytes ts) (sym (seen_is new from (length bytes))) h;
}

-- a byte that was taken
taken_stands : (old new : Reading) (b : ℕ) (xs : ℕ → ℕ → List Span) (bytes : List ℕ) (ts : List Span) → IsReadable old → level_in new.place.want new.place.around ≤ level_limit
    → ((from at : ℕ) → move (config_at new (started old.word from at) (at + 1)) true (xs (started old.word from at) (at + 1)) ≡ moved_at (config_at old from at) b)
    → new.at ≡ saturated (old.at + 1) → IfSome new.word (λ _. new.from ≡ started old.word old.from old.at)
    → (h : StandsFor old bytes ts) → StandsFor new (bytes ++ b ∷ []) (ts ++ xs (started old.word h.start (length bytes)) (length bytes + 1))
taken_stands old new b xs bytes ts v deep moves at_is from_is h =
    let n = length bytes in
    let from = started old.word h.start n in
    let long : length (bytes ++ b ∷ []) ≡ n + 1 = length-append bytes (b ∷ []) in
    let step : move (Some (seen new from (n + 1))) true (xs from (n + 1)) ≡ moved_at (Some (seen old h.start n)) b =
    ap (λ c. move c true (xs from (n + 1))) (sym (seen_is new from (n + 1))) ∙ moves h.start n ∙ ap (λ c. moved_at c b) (seen_is old h.start n) in
    let next = (takes_on (seen old h.start n) (seen new from (n + 1)) b (xs from (n + 1)) (seen_valid old h.start n v) step).0 bytes ts (awaits_seen old bytes ts h) in
    moved_stands new from (bytes ++ b ∷ []) (ts ++ xs from (n + 1)) deep
    (if_then new.word new.from (started old.word old.from old.at) (saturated from) from_is (started_is old bytes ts h))
    (at_is ∙ next_at n old.at (length (bytes ++ b ∷ [])) h.at_is long)
    (subst (λ k. Awaits (Some (seen new from k)) (bytes ++ b ∷ []) (ts ++ xs from (n + 1))) (sym long) next)

-- a number that ended before the byte
before_stands : (old new : Reading) (b : ℕ) (xs : ℕ → ℕ → List Span) (bytes : List ℕ) (ts : List Span) → IsReadable old → level_in new.place.want new.place.around ≤ level_limit
    → ((from at : ℕ) → move (config_at new (started old.word from at) at) false (xs (started old.word from at) at) ≡ moved_at (config_at old from at) b)
    → new.at ≡ old.at → IfSome new.word (λ _. new.from ≡ started old.word old.from old.at)
    → (h : StandsFor old bytes ts) → StandsFor new (bytes ++ []) (ts ++ xs (started old.word h.start (length bytes)) (length bytes))
before_stands old new b xs bytes ts v deep moves at_is from_is h =
    let n = length bytes in
    let from = started old.word h.start n in
    let step : move (Some (seen new from n)) false (xs from n) ≡ moved_at (Some (seen old h.start n)) b =
    ap (λ c. move c false (xs from n)) (sym (seen_is new from n)) ∙ moves h.start n ∙ ap (λ c. moved_at c b) (seen_is old h.start n) in
    let next = (before_on (seen old h.start n) (Some (seen new from n)) b (xs from n) (seen_valid old h.start n v) step).0 bytes ts (awaits_seen old bytes ts h) in
    let same : bytes ++ [] ≡ bytes = append-nil bytes in
    subst (λ (l : List ℕ). StandsFor new l (ts ++ xs from n)) (sym same) (moved_stands new from bytes (ts ++ xs from n) deep
    (if_then new.word new.from (started old.word old.from old.at) (saturated from) from_is (started_is old bytes ts h))
    (at_is ∙ h.at_is)
    (subst (λ (l : List ℕ). Awaits (Some (seen new from n)) l (ts ++ xs from n)) same next))

-- a token at exact offsets
abbrev pub token_at : Spanned → ℕ → ℕ → Span
token_at s from to = record { mark = mark_seen s.token; from = from; to = to }

-- what a step takes, and the token that it gives
abbrev pub step_bytes : Step → ℕ → List ℕ
step_bytes step.Takes b = b ∷ []
step_bytes (step.Gives s) b = b ∷ []
step_bytes (step.Before s) b = []

-- the token that a step gives
abbrev pub step_token : Step → Option Spanned
step_token step.Takes = None
step_token (step.Gives s) = Some s
step_token (step.Before s) = Some s

-- one step
pub step_stands : (old new : Reading) (b : ℕ) (s : Step) → IsReadable old → level_in new.place.want new.place.around ≤ level_limit
    → ((from at : ℕ) → step_seen s new (started old.word from at) at ≡ moved_at (config_at old from at) b)
    → new.at ≡ at_behind s old.at → IfSome new.word (λ _. new.from ≡ started old.word old.from old.at) → IsPlaced s (started old.word old.from old.at) new.at
    → StandsOn old new (step_bytes s b) (step_token s)
step_stands old new b step.Takes v deep moves at_is from_is placed bytes ts h =
    ([], refl, taken_stands old new b (λ _ _. []) bytes ts v deep moves at_is from_is h)
step_stands old new b (step.Gives s) v deep moves at_is from_is placed bytes ts h =
    let n = length bytes in
    let from = started old.word h.start n in (
      token_at s from (n + 1) ∷ [],
      (token_at s from (n + 1), refl, record { mark = refl; from = placed.0 ∙ started_is old bytes ts h; to = placed.1 ∙ at_is ∙ next_at n old.at (n + 1) h.at_is refl }, sym (length-append bytes (b ∷ []))),
      taken_stands old new b (λ f k. token_at s f k ∷ []) bytes ts v deep moves at_is from_is h,
    )
step_stands old new b (step.Before s) v deep moves at_is from_is placed bytes ts h =
    let n = length bytes in
    let from = started old.word h.start n in (
      token_at s from n ∷ [],
      (token_at s from n, refl, record { mark = refl; from = placed.0 ∙ started_is old bytes ts h; to = placed.1 ∙ at_is ∙ h.at_is }, sym (ap length (append-nil bytes))),
      before_stands old new b (λ f k. token_at s f k ∷ []) bytes ts v deep moves at_is from_is h,
    )

-- a step leaves a reader that some bytes complete
readable_word : (r : Reading) (from at : ℕ) → IsValid (Some (seen r from at)) → IsReadableWord r.word r.place.want
readable_word r from at h = by_word r.word h
  where
    by_word : (w : Option WordState) → IsSound (word_of w r.is_key r.held) r.place → IsReadableWord w r.place.want
    by_word None x = tt
    by_word (Some l) x = x

step_valid : (old new : Reading) (b : ℕ) (s : Step) → IsReadable old → step_seen s new (started old.word 0 0) 0 ≡ moved_at (config_at old 0 0) b → (n : ℕ) × IsValid (Some (seen new (started old.word 0 0) n))
step_valid old new b step.Takes v e =
    (1, (takes_on (seen old 0 0) (seen new (started old.word 0 0) 1) b [] (seen_valid old 0 0 v) (ap (λ c. move c true []) (sym (seen_is new (started old.word 0 0) 1)) ∙ e ∙ ap (λ c. moved_at c b) (seen_is old 0 0))).1)
step_valid old new b (step.Gives s) v e =
    let xs = token_at s (started old.word 0 0) 1 ∷ [] in
    (1, (takes_on (seen old 0 0) (seen new (started old.word 0 0) 1) b xs (seen_valid old 0 0 v) (ap (λ c. move c true xs) (sym (seen_is new (started old.word 0 0) 1)) ∙ e ∙ ap (λ c. moved_at c b) (seen_is old 0 0))).1)
step_valid old new b (step.Before s) v e =
    let xs = token_at s (started old.word 0 0) 0 ∷ [] in
    (0, (before_on (seen old 0 0) (Some (seen new (started old.word 0 0) 0)) b xs (seen_valid old 0 0 v) (ap (λ c. move c false xs) (sym (seen_is new (started old.word 0 0) 0)) ∙ e ∙ ap (λ c. moved_at c b) (seen_is old 0 0))).1)

-- behind a step some bytes complete what is kept
pub step_readable : (old new : Reading) (b : ℕ) (s : Step) → IsReadable old → level_in new.place.want new.place.around ≤ level_limit → HoldsReading new
    → ((from at : ℕ) → step_seen s new (started old.word from at) at ≡ moved_at (config_at old from at) b) → IsReadable new
step_readable old new b s v deep holds moves =
    let r = step_valid old new b s v (moves 0 0) in
    record { word = readable_word new (started old.word 0 0) r.0 r.1; holds = holds.0; kept = holds.1; shallow = deep }

-- two after one another
pub on_then : (x y z : Reading) (xs ys : List ℕ) (token : Option Spanned) → StandsOn x y xs None → StandsOn y z ys token → StandsOn x z (xs ++ ys) token
on_then x y z xs ys token f g b ts h =
    let first = f b ts h in
    let nothing : ts ++ first.0 ≡ ts = ap (λ l. ts ++ l) first.1 ∙ append-nil ts in
    let then = g (b ++ xs) ts (subst (λ l. StandsFor y (b ++ xs) l) nothing first.2) in
    (then.0, subst (λ (l : List ℕ). IsGiven token then.0 (length l)) (append_assoc b xs ys) then.1, subst (λ (l : List ℕ). StandsFor z l (ts ++ then.0)) (append_assoc b xs ys) then.2)

-- no byte and no token change nothing
pub on_nothing : (x : Reading) → StandsOn x x [] None
on_nothing x b ts h = ([], refl, subst (λ (l : List ℕ). StandsFor x l (ts ++ [])) (sym (append-nil b)) (subst (λ l. StandsFor x b l) (sym (append-nil ts)) h))

-- with no token the given ones are the same
pub on_quiet : (old now : Reading) (xs : List ℕ) → StandsOn old now xs None → (b : List ℕ) (ts : List Span) → StandsFor old b ts → StandsFor now (b ++ xs) ts
on_quiet old now xs on b ts h =
    let r = on b ts h in
    subst (λ l. StandsFor now (b ++ xs) l) (ap (λ l. ts ++ l) r.1 ∙ append-nil ts) r.2

-- a byte that no text goes on with
broken : (now : Reading) (front bytes : List ℕ) (ts : List Span) (k b : ℕ) → IsReadable now → k < length bytes → take k bytes ≡ front → take (k + 1) bytes ≡ front ++ b ∷ [] → ((from at : ℕ) → moved_at (config_at now from at) b ≡ lost) → StandsFor now front ts → IsBroken bytes ts k
broken now front bytes ts k b v within before behind gone h = record {
  within = within;
  alive = subst (λ (l : List ℕ). BeginsWith l ts) (sym before) (stands_alive now front ts h);
  no_other = subst (λ (l : List ℕ). NoOtherHasEnded l ts) (sym before) (stands_alone now front ts h);
  dead = λ x.
      let no_more : lost ≡ moved_at (Some (seen now h.start (length front))) b = sym (gone h.start (length front)) ∙ ap (λ c. moved_at c b) (seen_is now h.start (length front)) in
      lost_on (seen now h.start (length front)) b front ts no_more (awaits_seen now front ts h) x.0 x.1 x.2 (subst (λ (l : List ℕ). IsTextWith x.2 (l ++ x.0) (ts ++ x.1)) behind x.3);
}

-- the tokens of the bytes with an opening bracket behind them
deeper_tokens : (c : Config) (front : List ℕ) (b : ℕ) (ts : List Span) (bracket : Bracket) → AllByRecursion (HasEnded (length front + 1)) ts
    → Awaits (Some c) (front ++ b ∷ []) (ts ++ with_token (opens bracket) (length front) (length front + 1) [])
    → AreTokensOf (front ++ b ∷ []) (ts ++ with_token (opens bracket) (length front) (length front + 1) [])
deeper_tokens c front b ts bracket ended h =
    let n = length front in
    let new = with_token (opens bracket) n (n + 1) [] in
    let long : length (front ++ b ∷ []) ≡ n + 1 = length-append front (b ∷ []) in
    record {
      begins = alive c (front ++ b ∷ []) (ts ++ new) h;
      ended = subst (λ m. AllByRecursion (HasEnded m) (ts ++ new)) (sym long)
          (each_joined (HasEnded (n + 1)) ts new ended ((λ x. omega (arith, x)), tt));
      no_other = late c (front ++ b ∷ []) (ts ++ new) h;
    }

-- an opening bracket past the limit
too_deep : (now : Reading) (front bytes : List ℕ) (ts : List Span) (k b : ℕ) (bracket : Bracket) (q : Place) → IsReadable now → k < length bytes → k ≡ length front → take (k + 1) bytes ≡ front ++ b ∷ [] → level_in now.place.want now.place.around ≡ level_limit
    → ((from at : ℕ) → moved_at (config_at now from at) b ≡ move (gap q (at + 1)) true (with_token (opens bracket) at (at + 1) [])) → StandsFor now front ts → IsTooDeep bytes ts k
too_deep now front bytes ts k b bracket q v within k_is behind full moves h =
    let n = length front in
    let here = seen now h.start n in
    let step : move (gap q (n + 1)) true (with_token (opens bracket) n (n + 1) []) ≡ moved_at (Some here) b = sym (moves h.start n) ∙ ap (λ c. moved_at c b) (seen_is now h.start n) in
    let waits = awaits_seen now front ts h in
    let next = (takes_on here (record { word = None; place = q; from = n + 1; at = n + 1 }) b (with_token (opens bracket) n (n + 1) []) (seen_valid now h.start n v) step).0 front ts waits in
    let behind_it : Config = record { word = None; place = q; from = n + 1; at = n + 1 } in
    let all = front ++ b ∷ [] in
    let tokens = deeper_tokens behind_it front b ts bracket (within_ended ts n waits.counted.2) next in
    record {
      bracket = bracket;
      within = within;
      tokens = subst (λ (l : List ℕ). AreTokensOf l (ts ++ with_token (opens bracket) k (k + 1) [])) (sym behind)
          (subst (λ j. AreTokensOf all (ts ++ with_token (opens bracket) j (j + 1) [])) (sym k_is) tokens);
      full = sym waits.counted.1 ∙ full;
    }

-- the fault of a step is the fault of the bytes
pub refused_stands : (f : JsonFault) (old now : Reading) (bytes : List ℕ) (k b : ℕ) → k < length bytes → take (k + 1) bytes ≡ take k bytes ++ b ∷ [] → IsReadable now → StandsOn old now (take k bytes) None → IsRefused f now b → IsFaultBehind f old bytes
refused_stands fault.NoMemory old now bytes k b within more v on h bs ts s = tt
refused_stands (fault.Syntax n) old now bytes k b within more v on h bs ts s =
    let here = on_quiet old now (take k bytes) on bs ts s in
    let far : length (bs ++ take k bytes) ≡ length bs + k = length-append bs (take k bytes) ∙ ap (λ j. length bs + j) (length-take-le k bytes (omega (arith, within))) in
    let all : length (bs ++ bytes) ≡ length bs + length bytes = length-append bs bytes in
    let next : length bs + k + 1 ≡ length bs + (k + 1) = omega arith in (
      length bs + k,
      h.0 ∙ here.at_is ∙ ap saturated far,
      broken now (bs ++ take k bytes) (bs ++ bytes) ts (length bs + k) b v (omega (arith, within, all)) (take-append-add bs bytes k)
          (ap (λ j. take j (bs ++ bytes)) next ∙ take-append-add bs bytes (k + 1) ∙ ap (λ (l : List ℕ). bs ++ l) more ∙ sym (append_assoc bs (take k bytes) (b ∷ [])))
          h.1 here,
    )
refused_stands (fault.TooDeep n) old now bytes k b within more v on h bs ts s =
    let here = on_quiet old now (take k bytes) on bs ts s in
    let far : length (bs ++ take k bytes) ≡ length bs + k = length-append bs (take k bytes) ∙ ap (λ j. length bs + j) (length-take-le k bytes (omega (arith, within))) in
    let all : length (bs ++ bytes) ≡ length bs + length bytes = length-append bs bytes in
    let next : length bs + k + 1 ≡ length bs + (k + 1) = omega arith in (
      length bs + k,
      h.0 ∙ here.at_is ∙ ap saturated far,
      too_deep now (bs ++ take k bytes) (bs ++ bytes) ts (length bs + k) b h.2 h.3 v (omega (arith, within, all)) (sym far)
          (ap (λ j. take j (bs ++ bytes)) next ∙ take-append-add bs bytes (k + 1) ∙ ap (λ (l : List ℕ). bs ++ l) more ∙ sym (append_assoc bs (take k bytes) (b ∷ [])))
          h.1 h.4 here,
    )

-- what a fault of bytes behind others is
pub fault_then : (f : JsonFault) (x y : Reading) (xs ys : List ℕ) → StandsOn x y xs None → IsFaultBehind f y ys → IsFaultBehind f x (xs ++ ys)
fault_then f x y xs ys on g b ts h = subst (λ (l : List ℕ). IsFaultOf f l ts) (append_assoc b xs ys) (g (b ++ xs) ts (on_quiet x y xs on b ts h))
