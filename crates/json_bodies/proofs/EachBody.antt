-- Any bytes mean a value, or have a fault.
use Rattle.std.proofs.Common.{◌≡◌, ◌⊎◌, ◌<◌, ◌≤◌, ◌+◌, inl, inr, arith, sym, subst, refl, ℕ, List, [], length, take, Option, Some, None, Result, Ok, Err}
use Rattle.std.specs.List.{AllByRecursion}
use Rattle.std.proofs.lemmas.Bool.{cases_lt}
use Rattle.std.proofs.lemmas.List.{length-take-le}
use Rattle.base.specs.Saturated.{saturated}
use Rattle.json_events.specs.JsonText.{IsTextOf, Span, marks_of}
use Rattle.json_events.specs.JsonTokens.{AreTokensOf, Awaits, HasEnded, HaveEndedIn}
use Rattle.json_events.specs.JsonTree.{Json, Mark}
use Rattle.json_events.specs.ReaderState.{ReaderState, Stands, StandsByFault}
use Rattle.json_events.specs.ReadingSteps.{Config, reads}
use Rattle.json_meanings.specs.FaultPlaces.{Fault}
use Rattle.json_meanings.specs.FieldFaults.{BeginsTree, IsFirstFault}
use Rattle.json_meanings.specs.JsonDenotes.{reading}
use Rattle.json_meanings.specs.JsonScalars.{Schema}
use Rattle.json_meanings.specs.ReadingLaws.{MeansOrFails, ReadingLawsHold}
use Rattle.message_types.specs.declared.messages.TypeId.{TypeId}
use Rattle.json_bodies.specs.WholeMessages.{HasNoFault, HasOutcome, IsFaultAt, IsLongestFront, IsNoText}
use Rattle.json_bodies.specs.declared.fault.BodyFault.TheVariants.{Field, Syntax}
use Rattle.json_bodies.proofs.BodyLemmas.{TextLaws, length-marks_of, split_at}
use Rattle.schema.specs.declared.value.Value.{Value}

-- bytes are a text or none, as the reader would tell
is_text : (r : Option Config) (bytes : List ℕ) → Awaits r [] [] → ((j : Json) × IsTextOf j bytes) ⊎ IsNoText bytes
is_text r bytes a = by_reads (reads r bytes) refl
  where
    by_reads : (all : Option (List Span)) → reads r bytes ≡ all → ((j : Json) × IsTextOf j bytes) ⊎ IsNoText bytes
    by_reads (Some ts) e = let x = (a.completes bytes ts).1 e in inl (x.0, (ts, x.1))
    by_reads None e = inr (λ j x. absurd (cc ((a.completes bytes x.0).0 (j, x.1), e)))

-- a reader to which nothing came would tell
pub fresh_tells : (r : ReaderState) (bytes : List ℕ) → r.fault ≡ None → Stands r [] []
    → ((j : Json) × IsTextOf j bytes) ⊎ IsNoText bytes
fresh_tells r bytes fresh stands =
    let by = subst (λ f. StandsByFault f r.reading [] []) fresh stands.by in
    is_text _ bytes by.awaits

-- the tokens of a front have ended in the bytes
pub ended_in_bytes : (bytes : List ℕ) (k : ℕ) (ts : List Span) → k ≤ length bytes → AreTokensOf (take k bytes) ts
    → HaveEndedIn bytes ts
ended_in_bytes bytes k ts within are = record {
  count = k;
  within = within;
  begins = are.begins;
  ended = subst (λ (m : ℕ). AllByRecursion (HasEnded m) ts) (length-take-le k bytes within) are.ended;
}

module _ (laws : (c : Schema) (id : TypeId) (n : Option ℕ) → ReadingLawsHold c id n) (c : Schema) (id : TypeId)
    (n : Option ℕ) (place : ℕ) where
  -- the place of a fault
  pub placed : (ts : List Span) (f : Fault) → IsFirstFault c id n (marks_of ts) f
      → (at : ℕ) × IsFaultAt c id n place ts at f.1
  placed ts f h =
      let s = split_at ts f.0 (omega (arith, h.0, length-marks_of ts)) in (
        saturated (place + s.2.from),
        record {
          before = s.0;
          token = s.2;
          behind = s.1;
          split = s.3;
          first = subst (λ k. IsFirstFault c id n (marks_of ts) (k, f.1)) (sym s.4) h;
          at_is = refl;
        },
      )

  -- tokens that begin a tree have a first fault or none
  pub fault_or_none : (ts : List Mark) → BeginsTree ts
      → ((f : Fault) × IsFirstFault c id n ts f) ⊎ ((f : Fault) → IsFirstFault c id n ts f → ⊥)
  fault_or_none ts b = by_reading (reading c id n b.0) refl
    where
      stays : (f : Fault) → IsFirstFault c id n ts f → reading c id n b.0 ≡ Err f
      stays f h = (laws c id n).fault_stays ts b.1 f b.0 h b.2

      by_place : (f : Fault) → reading c id n b.0 ≡ Err f → (f.0 < length ts) ⊎ (length ts ≤ f.0)
          → ((f : Fault) × IsFirstFault c id n ts f) ⊎ ((f : Fault) → IsFirstFault c id n ts f → ⊥)
      by_place f e (inl x) = inl (f, (x, (b.0, b.1, b.2, e)))
      by_place f e (inr x) = inr (λ g h.
          let same : f.0 ≡ g.0 = cc (e, stays g h) in
          absurd (omega (arith, x, h.0, same)))

      by_reading : (r : Result Value Fault) → reading c id n b.0 ≡ r
          → ((f : Fault) × IsFirstFault c id n ts f) ⊎ ((f : Fault) → IsFirstFault c id n ts f → ⊥)
      by_reading (Ok v) e = inr (λ f h. absurd (cc (e, stays f h)))
      by_reading (Err f) e = by_place f e (cases_lt f.0 (length ts))

  module _ (texts : TextLaws) (bytes : List ℕ) where
    -- of a text
    text_outcome : (j : Json) → IsTextOf j bytes → HasOutcome c id n place bytes
    text_outcome j x = by_value ((laws c id n).value_or_fault j)
      where
        by_value : MeansOrFails c id n j → HasOutcome c id n place bytes
        by_value (inl v) = inl (v.0, (j, x, v.1))
        by_value (inr f) =
            let marks = texts.marks j bytes x.0 x.1 in
            let first = subst (λ (ms : List Mark). IsFirstFault c id n ms f.0) (sym marks) f.1 in
            let at = placed x.0 f.0 first in
            inr (Field at.0 f.0.1, (x.0, inr (j, x.1), at.1))

    -- of what is none
    other_outcome : IsNoText bytes → HasOutcome c id n place bytes
    other_outcome other =
        let l = texts.longest bytes in
        let k = l.0 in
        let f : IsLongestFront bytes k = record { within = l.1; begins = l.2; longest = l.3 } in
        let w = texts.some (take k bytes) l.2 in
        by_fault k f w.0 w.1 (fault_or_none (marks_of w.0) (texts.begins (take k bytes) w.0 w.1.begins))
      where
        by_fault : (k : ℕ) → IsLongestFront bytes k → (ts : List Span) → AreTokensOf (take k bytes) ts
            → ((f : Fault) × IsFirstFault c id n (marks_of ts) f) ⊎ HasNoFault c id n ts → HasOutcome c id n place bytes
        by_fault k f ts a (inl h) =
            let at = placed ts h.0 h.1 in
            inr (Field at.0 h.0.1, (ts, inl (ended_in_bytes bytes k ts f.within a), at.1))
        by_fault k f ts a (inr none) =
            inr (Syntax (saturated (place + k)), (ts, k, refl, record { no_text = other; front = f; tokens = a }, none))

    -- of any bytes
    pub each_outcome : ((j : Json) × IsTextOf j bytes) ⊎ IsNoText bytes → HasOutcome c id n place bytes
    each_outcome (inl x) = text_outcome x.0 x.1
    each_outcome (inr other) = other_outcome other
