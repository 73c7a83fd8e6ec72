-- A run of calls: the reader stands for all bytes that the calls took, and for the tokens that they gave; where each
-- call begins behind the one before it, these have ended in the list, and a fault is that of the list.
use Rattle.std.proofs.Common.{◌≡◌, ℕ, List, [], ◌∷◌, ◌++◌, take, Option, Some, None, Ok, Err, refl, sym, ap, ◌∙◌, subst, arith, append-nil, append_assoc}
use Rattle.std.specs.Option.{IfSome, option_to_list}
use Rattle.std.proofs.lemmas.List.{length-append, take-append-le}
use Rattle.std.proofs.Math.Seq.{take-length}
use Rattle.base.specs.PiecewiseReading.{FeedCall, taken_in, taken_in_all, told_by_all, IsRun, AddsTaken}
use Rattle.base.proofs.PiecewiseLemmas.{run_stands}
use Rattle.json_events.specs.declared.fault.JsonFault.{JsonFault}
use Rattle.json_events.specs.declared.fault.JsonFault.TheVariants as fault
use Rattle.json_events.specs.declared.token.Spanned.{Spanned}
use Rattle.json_events.specs.declared.token.Fed.{Fed}
use Rattle.json_events.specs.JsonText.{Span, IsTextWith}
use Rattle.json_events.specs.JsonTokens.{BeginsWith, IsNoTextWith, AreTokensOf, HaveEndedIn}
use Rattle.json_events.specs.ReaderState.{ReaderState, Stands, IsFaultOf}
use Rattle.json_events.specs.ReaderAnswers.{IsGiven, FeedsOn, IsFeedFault, IsWholeWith, IsNotWhole}
use Rattle.json_events.specs.ReaderRuns.{IsFinish, json_feeding, AreSpans, StandsForTokens, AreGivenInTurn, HasTold, IsFirstFault, IsTextToldBy, IsCutAt}
use Rattle.json_events.proofs.reading.CallLemmas.{fault_stays}
use Rattle.json_events.proofs.reading.FrontLemmas.{reader_begins}
use Rattle.json_events.proofs.reading.TokenLists.{text_tokens, fault_front, reader_tokens}

spans_joined : (told more : List Spanned) (ts us : List Span) → AreSpans told ts → AreSpans more us → AreSpans (told ++ more) (ts ++ us)
spans_joined [] more [] us a b = b
spans_joined [] more (t ∷ ts) us a b = absurd a
spans_joined (s ∷ told) more [] us a b = absurd a
spans_joined (s ∷ told) more (t ∷ ts) us a b = (a.0, spans_joined told more ts us a.1 b)

-- the token that a call told is the one that it gave
given_spans : (token : Option Spanned) (given : List Span) (n : ℕ) → IsGiven token given n → AreSpans (option_to_list token) given
given_spans None given n h = subst (AreSpans []) (sym h) tt
given_spans (Some s) given n h = subst (AreSpans (s ∷ [])) (sym h.1) (h.2, tt)

-- each call adds what it took and told
adds_taken : AddsTaken json_feeding StandsForTokens
adds_taken old new before bytes told fed h step =
    let g = step.feeds_on before h.0 h.1 in
    (h.0 ++ g.0, g.2, spans_joined told (option_to_list fed.token) h.0 g.0 h.2 (given_spans fed.token g.0 _ g.1))

-- a run of calls from a reader to which nothing came
pub run_tells : (old new : ReaderState) (calls : List (FeedCall Fed)) → Stands old [] []
    → IsRun json_feeding old calls new → StandsForTokens new (taken_in_all json_feeding.taken calls) (told_by_all json_feeding [] calls)
run_tells old new calls s run = run_stands json_feeding StandsForTokens adds_taken old new [] [] calls ([], s, tt) run

-- what has ended in a list has in a longer one
ended_more : (bs more : List ℕ) (ts : List Span) → HaveEndedIn bs ts → HaveEndedIn (bs ++ more) ts
ended_more bs more ts h = record {
  count = h.count;
  within = omega (arith, h.within, length-append bs more);
  begins = subst (λ (l : List ℕ). BeginsWith l ts) (sym (take-append-le h.count bs more h.within)) h.begins;
  ended = h.ended;
}

-- what a call gave has ended in the list
call_ended : (all bs more : List ℕ) (ts given : List Span) (token : Option Spanned) (n : ℕ) → all ≡ bs ++ more → IsGiven token given n
    → HaveEndedIn all ts → IfSome token (λ _. HaveEndedIn bs (ts ++ given)) → HaveEndedIn all (ts ++ given)
call_ended all bs more ts given None n e g h x = subst (HaveEndedIn all) (sym (ap (λ l. ts ++ l) g ∙ append-nil ts)) h
call_ended all bs more ts given (Some s) n e g h x = subst (λ (l : List ℕ). HaveEndedIn l (ts ++ given)) (sym e) (ended_more bs more (ts ++ given) x)

-- a fresh reader has told nothing
pub told_at_start : (r : ReaderState) (all : List ℕ) → r.fault ≡ None → Stands r [] [] → HasTold r all [] []
told_at_start r all fresh stands = record {
  tokens = [];
  stands = stands;
  spans = tt;
  ended = record { count = 0; within = omega arith; begins = reader_begins r [] [] fresh stands; ended = tt };
  fresh = fresh;
}

-- one call more
pub told_more : (old new : ReaderState) (all before bytes more : List ℕ) (told : List Spanned) (fed : Fed) → all ≡ before ++ (bytes ++ more)
    → HasTold old all before told → FeedsOn old new bytes (Ok fed) → new.fault ≡ None
    → HasTold new all (before ++ take fed.taken bytes) (told ++ option_to_list fed.token)
told_more old new all before bytes more told fed split h on fresh =
    let g = on before h.tokens h.stands in
    let shown : all ≡ (before ++ bytes) ++ more = split ∙ sym (append_assoc before bytes more) in
    record {
      tokens = h.tokens ++ g.0;
      stands = g.2;
      spans = spans_joined told (option_to_list fed.token) h.tokens g.0 h.spans (given_spans fed.token g.0 _ g.1);
      ended = call_ended all (before ++ bytes) more h.tokens g.0 fed.token _ shown g.1 h.ended g.3;
      fresh = fresh;
    }

-- a run in a list
run_in : (calls : List (FeedCall Fed)) (old new : ReaderState) (all before behind left : List ℕ) (told : List Spanned)
    → all ≡ before ++ behind → HasTold old all before told → IsRun json_feeding old calls new → AreGivenInTurn json_feeding.taken behind calls left
    → (taken : List ℕ) × (all ≡ taken ++ left) × HasTold new all taken (told_by_all json_feeding told calls)
run_in [] old new all before behind left told split h run turn =
    (before, split ∙ ap (λ (l : List ℕ). before ++ l) turn, subst (λ (r : ReaderState). HasTold r all before told) run h)
run_in (call ∷ calls) old new all before behind left told split h run turn =
    let took = taken_in json_feeding.taken call in
    let goes : all ≡ (before ++ took) ++ turn.0 =
    split ∙ ap (λ (l : List ℕ). before ++ l) turn.2 ∙ sym (append_assoc before took turn.0) in
    let shown : all ≡ before ++ (call.bytes ++ turn.1) = split ∙ ap (λ (l : List ℕ). before ++ l) turn.3 in
    run_in calls run.0 new all (before ++ took) turn.0 left (told ++ option_to_list call.fed.token) goes
    (told_more old run.0 all before call.bytes turn.1 told call.fed shown h run.1.feeds_on run.1.accepted) run.2 turn.4

first_fault : (f : JsonFault) (all : List ℕ) (told : List Spanned) (ts : List Span) → HaveEndedIn all ts → AreSpans told ts → IsFaultOf f all ts → IsFirstFault f all told
first_fault (fault.Syntax n) all told ts ended spans h =
    let r = fault_front all ts h.0 h.2 ended in
    (h.0, ts, h.1, h.2.within, r.0, spans, r.1)
first_fault (fault.TooDeep n) all told ts ended spans h = (h.0, ts, h.1, h.2, spans)
first_fault fault.NoMemory all told ts ended spans h = tt

-- the fault of a call is the first of the list
pub told_fault : (old : ReaderState) (all before bytes more : List ℕ) (told : List Spanned) (f : JsonFault) → all ≡ before ++ (bytes ++ more)
    → HasTold old all before told → (old.fault ≡ None → IsFeedFault f old bytes) → IsFirstFault f all told
told_fault old all before bytes more told f split h faulty =
    let here : IsFaultOf f (before ++ bytes) h.tokens = faulty h.fresh before h.tokens h.stands in
    let whole : all ≡ (before ++ bytes) ++ more = split ∙ sym (append_assoc before bytes more) in
    first_fault f all told h.tokens h.ended h.spans
    (subst (λ (l : List ℕ). IsFaultOf f l h.tokens) (sym whole) (fault_stays f (before ++ bytes) more h.tokens here))

-- the end of a list that is a text
pub told_end : (r : ReaderState) (all : List ℕ) (told : List Spanned) (token : Option Spanned) → HasTold r all all told
    → IsWholeWith (Stands r) token → IsTextToldBy all (told ++ option_to_list token)
told_end r all told token h whole =
    let w = whole all h.tokens h.stands in
    (w.2, h.tokens ++ w.0, w.3, spans_joined told (option_to_list token) h.tokens w.0 h.spans (given_spans token w.0 _ w.1))

-- the end of one that is none
pub told_cut : (r : ReaderState) (all : List ℕ) (told : List Spanned) (f : JsonFault) → HasTold r all all told
    → (r.fault ≡ None → IsNotWhole (Stands r) f) → IsCutAt f all told
told_cut r all told f h cut =
    let x = cut h.fresh all h.tokens h.stands in
    let tokens = reader_tokens r all h.tokens h.fresh h.stands h.ended in
    let dead : IsNoTextWith all h.tokens = subst (λ (l : List ℕ). IsNoTextWith l h.tokens) (take-length all) x.1.dead in (
      x.0,
      h.tokens,
      tokens,
      h.spans,
      (λ j us t. let s = text_tokens j all h.tokens us tokens t in dead j s.0 (subst (λ l. IsTextWith j all l) s.1 t)),
    )

-- a refusal is the first fault of the list
pub run_refused : (old new last : ReaderState) (calls : List (FeedCall Fed)) (all bytes more : List ℕ) (f : JsonFault) → old.fault ≡ None → Stands old [] []
    → IsRun json_feeding old calls new → AreGivenInTurn json_feeding.taken all calls (bytes ++ more) → json_feeding.Step new bytes (Err f) last
    → IsFirstFault f all (told_by_all json_feeding [] calls)
run_refused old new last calls all bytes more f fresh stands run turn step =
    let r = run_in calls old new all [] all (bytes ++ more) [] refl (told_at_start old all fresh stands) run turn in
    told_fault new all r.0 bytes more (told_by_all json_feeding [] calls) f r.1 r.2 step.fault

-- what a run told has ended in the list
pub run_so_far : (old new : ReaderState) (calls : List (FeedCall Fed)) (all left : List ℕ) → old.fault ≡ None → Stands old [] []
    → IsRun json_feeding old calls new → AreGivenInTurn json_feeding.taken all calls left
    → (ts : List Span) × HaveEndedIn all ts × AreSpans (told_by_all json_feeding [] calls) ts
run_so_far old new calls all left fresh stands run turn =
    let r = run_in calls old new all [] all left [] refl (told_at_start old all fresh stands) run turn in
    (r.2.tokens, r.2.ended, r.2.spans)

-- what a run that took all of a list told of it
pub run_took_all : (old new : ReaderState) (calls : List (FeedCall Fed)) (all : List ℕ) → old.fault ≡ None → Stands old [] []
    → IsRun json_feeding old calls new → AreGivenInTurn json_feeding.taken all calls [] → HasTold new all all (told_by_all json_feeding [] calls)
run_took_all old new calls all fresh stands run turn =
    let r = run_in calls old new all [] all [] [] refl (told_at_start old all fresh stands) run turn in
    let same : r.0 ≡ all = sym (r.1 ∙ append-nil r.0) in
    subst (λ (l : List ℕ). HasTold new all l (told_by_all json_feeding [] calls)) same r.2

-- these are the tokens of the list
pub run_tokens : (old new : ReaderState) (calls : List (FeedCall Fed)) (all : List ℕ) → old.fault ≡ None → Stands old [] []
    → IsRun json_feeding old calls new → AreGivenInTurn json_feeding.taken all calls [] → (ts : List Span) × AreTokensOf all ts × AreSpans (told_by_all json_feeding [] calls) ts
run_tokens old new calls all fresh stands run turn =
    let r = run_took_all old new calls all fresh stands run turn in
    (r.tokens, reader_tokens new all r.tokens r.fresh r.stands r.ended, r.spans)

-- the end of a list that is a text
pub run_whole : (old new : ReaderState) (calls : List (FeedCall Fed)) (all : List ℕ) (token : Option Spanned) → old.fault ≡ None → Stands old [] []
    → IsRun json_feeding old calls new → AreGivenInTurn json_feeding.taken all calls [] → IsFinish new (Ok token)
    → IsTextToldBy all (told_by_all json_feeding [] calls ++ option_to_list token)
run_whole old new calls all token fresh stands run turn finish =
    told_end new all (told_by_all json_feeding [] calls) token (run_took_all old new calls all fresh stands run turn) finish.whole

-- the end of one that is none
pub run_cut : (old new : ReaderState) (calls : List (FeedCall Fed)) (all : List ℕ) (f : JsonFault) → old.fault ≡ None → Stands old [] []
    → IsRun json_feeding old calls new → AreGivenInTurn json_feeding.taken all calls [] → IsFinish new (Err f)
    → IsCutAt f all (told_by_all json_feeding [] calls)
run_cut old new calls all f fresh stands run turn finish =
    told_cut new all (told_by_all json_feeding [] calls) f (run_took_all old new calls all fresh stands run turn) finish.fault
