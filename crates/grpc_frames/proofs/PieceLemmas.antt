-- A run of calls of a deframer tells the messages of the whole stream.
use Rattle.std.proofs.Common.{◌≡◌, ◌++◌, ℕ, List, [], length, take, Option, Some, None, Err}
use Rattle.std.proofs.Common.{refl, sym, ap, subst, ◌∙◌, append-nil, append_assoc}
use Rattle.std.proofs.Math.Seq.{take-length}
use Rattle.std.specs.Option.{option_to_list}
use Rattle.base.specs.PiecewiseReading.{FeedCall, IsRun, AddsTaken, RefusesFirst, taken_in_all, told_by_all}
use Rattle.base.proofs.PiecewiseLemmas.{run_stands, run_refused}
use Rattle.grpc_frames.specs.declared.deframer.Deframed.{Deframed as Fed}
use Rattle.grpc_frames.specs.declared.fault.FrameFault.{FrameFault}
use Rattle.grpc_frames.specs.LengthPrefixed.{deframed_of}
use Rattle.grpc_frames.specs.Deframer.{DeframerState, Stands, IsFirstFault}
use Rattle.grpc_frames.specs.FeedAnswers.{AnswersOk}
use Rattle.grpc_frames.specs.DeframerRuns.{deframing, taken_by, IsFirstOf}
use Rattle.grpc_frames.proofs.FaultLemmas.{of_bytes_map}
use Rattle.grpc_frames.proofs.FeedLemmas.{Refuses, stuck_gives}
use Rattle.grpc_frames.proofs.SplitLemmas.{deframed_of_nothing}

-- the state stands for the bytes, whose messages were told
pub record HasTold (limit : ℕ) (state : DeframerState) (bytes : List ℕ) (told : List (List ℕ)) : Type 0 where
  pub stands : Stands state bytes
  pub limit_is : state.limit ≡ limit
  pub told_is : told ≡ (deframed_of limit bytes).messages

-- what an answer told are the messages that its bytes complete
fed_messages : (limit : ℕ) (before bytes : List ℕ) (n : ℕ) (o : Option (List ℕ)) → AnswersOk limit before bytes n o
    → (deframed_of limit before).messages ++ option_to_list o ≡ (deframed_of limit (before ++ take n bytes)).messages
fed_messages limit before bytes n None h =
    let all : take n bytes ≡ bytes = ap (λ k. take k bytes) h.0 ∙ take-length bytes in
    append-nil (deframed_of limit before).messages ∙ sym (ap (λ d. d.messages) h.1)
    ∙ ap (λ (xs : List ℕ). (deframed_of limit (before ++ xs)).messages) (sym all)
fed_messages limit before bytes n (Some m) h = sym (ap (λ d. d.messages) h.1)

-- one call more
adds : (limit : ℕ) → AddsTaken (deframing limit) (HasTold limit)
adds limit = λ old new before bytes told fed s step. record {
  stands = step.stands before s.stands;
  limit_is = step.limit_stays;
  told_is = ap (λ (xs : List (List ℕ)). xs ++ option_to_list fed.message) s.told_is
      ∙ fed_messages limit before bytes fed.taken fed.message (step.answers before s.stands);
}

-- the fault is the first of the stream, whose messages are all told
abbrev Whole : ℕ → List (List ℕ) → FrameFault → List ℕ → Type 0
Whole limit told f bytes =
    (told ≡ (deframed_of limit bytes).messages) × IsFirstFault (deframed_of limit bytes) (length bytes) f

-- a refusal is the first fault of every stream that goes on from there
first_of : (limit : ℕ) (before bytes more : List ℕ) (told : List (List ℕ)) (f : FrameFault)
    → told ≡ (deframed_of limit before).messages → Refuses limit before bytes f
    → Whole limit told f (before ++ (bytes ++ more))
first_of limit before bytes more told f e h =
    let later : Refuses limit (before ++ bytes) more f = stuck_gives limit (before ++ bytes) more f h.1 in
    subst (Whole limit told f) (append_assoc before bytes more) (e ∙ sym h.0 ∙ sym later.0, later.1)

-- a refusal behind bytes that were taken
refuses : (limit : ℕ) → RefusesFirst (deframing limit) (HasTold limit) (IsFirstOf limit)
refuses limit = λ old new before bytes more told fault s step.
    of_bytes_map fault (first_of limit before bytes more told fault s.told_is) (step.answers before s.stands)

-- a fresh deframer has told nothing
fresh : (old : DeframerState) → Stands old [] → HasTold old.limit old [] []
fresh old s = record {
  stands = s;
  limit_is = refl;
  told_is = sym (ap (λ d. d.messages) (deframed_of_nothing old.limit));
}

-- a run from a fresh deframer has told all messages of the bytes that it took
pub run_tells : (old new : DeframerState) (calls : List (FeedCall Fed)) → Stands old []
    → IsRun (deframing old.limit) old calls new
    → told_by_all (deframing old.limit) [] calls ≡ (deframed_of old.limit (taken_in_all taken_by calls)).messages
run_tells old new calls s run =
    (run_stands (deframing old.limit) (HasTold old.limit) (adds old.limit)
    old new [] [] calls (fresh old s) run).told_is

-- a refusal behind such a run is the first fault of the whole stream, all of whose messages were told
pub run_refuses : (old new last : DeframerState) (calls : List (FeedCall Fed)) (bytes more : List ℕ)
    (fault : FrameFault) → Stands old [] → IsRun (deframing old.limit) old calls new
    → (deframing old.limit).Step new bytes (Err fault) last
    → IsFirstOf old.limit (taken_in_all taken_by calls ++ (bytes ++ more))
    (told_by_all (deframing old.limit) [] calls) fault
run_refuses old new last calls bytes more fault s run step =
    run_refused (deframing old.limit) (HasTold old.limit) (IsFirstOf old.limit) (adds old.limit) (refuses old.limit)
    old new last [] calls bytes more fault (fresh old s) run step
