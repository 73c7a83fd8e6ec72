-- Bytes show at most one first fault before they end, or none (`read_front`, `one_front_fault`, `fronts_are_decided`).
use Rattle.std.proofs.Common.{◌≡◌, ◌≢◌, ◌∙◌, ◌⊎◌, ◌<◌, ◌≤◌, ◌+◌, inl, inr, arith, sym, ap, subst, refl, ℕ, List, ◌++◌, length, take, Option, Result, Ok, Err, OnOk, IfErr}
use Rattle.std.proofs.Math.Seq.{take-length}
use Rattle.std.proofs.lemmas.Bool.{cases_lt}
use Rattle.base.specs.Saturated.{saturated}
use Rattle.json_events.specs.JsonText.{BeginsText, IsTextOf, Span, marks_of}
use Rattle.json_events.specs.JsonTokens.{AreTokensOf, BeginsWith, HaveEndedIn}
use Rattle.json_events.specs.JsonTree.{Json}
use Rattle.json_meanings.specs.FaultPlaces.{Fault}
use Rattle.json_meanings.specs.FieldFaults.{BeginsTree, IsFirstFault}
use Rattle.json_meanings.specs.JsonScalars.{Schema}
use Rattle.json_meanings.specs.ReadingLaws.{ReadingLawsHold}
use Rattle.message_types.specs.declared.messages.TypeId.{TypeId}
use Rattle.json_bodies.specs.BodySteps.{IsBodyRefusal, IsFrontRefusal}
use Rattle.json_bodies.specs.FrontFaults.{IsFrontAnswer, IsFrontFault, IsFrontReading, ShowsFaultOrNone, ShowsNoFault}
use Rattle.json_bodies.specs.WholeMessages.{HasNoFault, IsBodyFault, IsLongestFront}
use Rattle.json_bodies.specs.declared.fault.BodyFault.{BodyFault}
use Rattle.json_bodies.specs.declared.fault.BodyFault.TheVariants.{Field, Syntax, NoMemory}
use Rattle.json_bodies.proofs.BodyLemmas.{first_in_more, shorter_front}
use Rattle.json_bodies.proofs.EachBody.{ended_in_bytes, fault_or_none, placed}
use Rattle.json_bodies.proofs.TakenLemmas.{begins_text, text_begins}

-- a fault that bytes show is their fault as a whole body
pub front_is_whole : (c : Schema) (id : TypeId) (n : Option ℕ) (place : ℕ) (bytes : List ℕ) (f : BodyFault)
    → IsFrontFault c id n place bytes f → IsBodyFault c id n place bytes f
front_is_whole c id n place bytes (Field at kind) h = (h.0, inl h.1, h.2)
front_is_whole c id n place bytes (Syntax at) h = (h.0, h.1, h.2, h.4, h.5)
front_is_whole c id n place bytes NoMemory h = h

-- and so is what is refused of them
pub front_refusal : (c : Schema) (id : TypeId) (n : Option ℕ) (place : ℕ) (bytes : List ℕ) (f : BodyFault)
    → IsFrontRefusal c id n place bytes f → IsBodyRefusal c id n place bytes f
front_refusal c id n place bytes (Field at kind) h = front_is_whole c id n place bytes (Field at kind) h
front_refusal c id n place bytes (Syntax at) h = front_is_whole c id n place bytes (Syntax at) h
front_refusal c id n place bytes NoMemory h = tt

-- a refusal is what is read of the bytes
pub refused_front : (c : Schema) (id : TypeId) (n : Option ℕ) (place : ℕ) (bytes : List ℕ) (f : BodyFault)
    → IsFrontRefusal c id n place bytes f → IsFrontReading c id n place bytes (Err f)
refused_front c id n place bytes (Field at kind) h = h
refused_front c id n place bytes (Syntax at) h = h
refused_front c id n place bytes NoMemory h = tt

-- what is read, where bytes of which all was taken show no fault
pub front_read : (c : Schema) (id : TypeId) (n : Option ℕ) (place : ℕ) (bytes : List ℕ)
    (r : Result (Unit {0}) BodyFault) (Taken : Type 0) (Refused : BodyFault → Type 0) → OnOk r Taken
    → IfErr r Refused → (Taken → ShowsNoFault c id n place bytes)
    → ((f : BodyFault) → Refused f → IsFrontRefusal c id n place bytes f) → IsFrontReading c id n place bytes r
front_read c id n place bytes (Ok u) Taken Refused taken refused none fault = none taken
front_read c id n place bytes (Err f) Taken Refused taken refused none fault =
    refused_front c id n place bytes f (fault f refused)

-- an answer is exact
pub exact_front : (c : Schema) (id : TypeId) (n : Option ℕ) (place : ℕ) (bytes : List ℕ)
    (r : Result (Unit {0}) BodyFault) → ((f g : BodyFault) → IsFrontFault c id n place bytes f
    → IsFrontFault c id n place bytes g → f ≡ g) → IsFrontReading c id n place bytes r → r ≢ Err NoMemory
    → IsFrontAnswer c id n place bytes r
exact_front c id n place bytes (Ok u) one h some = record {
  none = (λ e. h, λ x. refl);
  fault = λ f. (λ e. absurd (cc e), λ x. absurd (h f x));
}
exact_front c id n place bytes (Err f) one h some = record {
  none = (λ e. absurd (cc e), λ x. absurd (x f is));
  fault = λ g. (
    λ e. let same : f ≡ g = cc e in subst (IsFrontFault c id n place bytes) same is,
    λ x. ap Err (one f g is x),
  );
}
  where
    by_fault : (f : BodyFault) → IsFrontReading c id n place bytes (Err f) → f ≢ NoMemory
        → IsFrontFault c id n place bytes f
    by_fault (Field p k) h some = h
    by_fault (Syntax p) h some = h
    by_fault NoMemory h some = absurd (some refl)

    is : IsFrontFault c id n place bytes f
    is = by_fault f h (λ e. some (ap Err e))

-- a front of bytes that begin a text begins one
front_begins : (fronts : (p s : List ℕ) → BeginsText (p ++ s) → BeginsText p) (bytes : List ℕ) (k : ℕ)
    → k < length bytes → BeginsText bytes → BeginsText (take (k + 1) bytes)
front_begins fronts bytes k less b =
    shorter_front fronts bytes (k + 1) (length bytes) (omega (arith, less))
    (subst BeginsText (sym (take-length bytes)) b)

module _ (laws : (c : Schema) (id : TypeId) (n : Option ℕ) → ReadingLawsHold c id n) (c : Schema) (id : TypeId)
    (n : Option ℕ) (place : ℕ)
    (tree : (bytes : List ℕ) (ts : List Span) → BeginsWith bytes ts → BeginsTree (marks_of ts))
    (fronts : (p s : List ℕ) → BeginsText (p ++ s) → BeginsText p) (bytes : List ℕ) where
  -- bytes that begin a text whose ended tokens have no fault show none
  pub shows_none : (first : (bytes : List ℕ) (ts us : List Span) → HaveEndedIn bytes ts → AreTokensOf bytes us
      → (rest : List Span) × (us ≡ ts ++ rest)) (ts : List Span) → AreTokensOf bytes ts → HasNoFault c id n ts
      → ShowsNoFault c id n place bytes
  shows_none first ts are none (Field at kind) h =
      let more = first bytes h.0 ts h.1 are in
      let f : Fault = (length h.2.before, kind) in
      none f (first_in_more laws c id n place h.0 ts f more (tree bytes ts are.begins) h.2.first)
  shows_none first ts are none (Syntax at) h =
      h.4.front.longest h.3 (front_begins fronts bytes h.1 h.3 (begins_text bytes ts are.begins))
  shows_none first ts are none NoMemory h = h

  -- any bytes show a fault, or none
  pub fault_or_none_shown : (sound : (ts : List Span) → AreTokensOf bytes ts → HasNoFault c id n ts
      → ShowsNoFault c id n place bytes)
      → ((n : ℕ) × (n ≤ length bytes) × BeginsText (take n bytes)
      × (n < length bytes → BeginsText (take (n + 1) bytes) → ⊥))
      → ((b : List ℕ) → BeginsText b → (ts : List Span) × AreTokensOf b ts) → ShowsFaultOrNone c id n place bytes
  fault_or_none_shown sound l some =
      let k = l.0 in
      let f : IsLongestFront bytes k = record { within = l.1; begins = l.2; longest = l.3 } in
      let w = some (take k bytes) l.2 in
      by_fault k f w.0 w.1 (fault_or_none laws c id n place (marks_of w.0) (tree (take k bytes) w.0 w.1.begins))
    where
      by_length : (k : ℕ) → IsLongestFront bytes k → (ts : List Span) → AreTokensOf (take k bytes) ts
          → HasNoFault c id n ts → (k < length bytes) ⊎ (length bytes ≤ k) → ShowsFaultOrNone c id n place bytes
      by_length k f ts a none (inl less) =
          let other = λ (j : Json) (x : IsTextOf j bytes).
          f.longest less (front_begins fronts bytes k less (text_begins bytes j x)) in
          inl (
            Syntax (saturated (place + k)),
            (ts, k, refl, less, record { no_text = other; front = f; tokens = a }, none),
          )
      by_length k f ts a none (inr all) =
          let count : k ≡ length bytes = omega (arith, all, f.within) in
          let same : take k bytes ≡ bytes = ap (λ m. take m bytes) count ∙ take-length bytes in
          inr (sound ts (subst (λ (l : List ℕ). AreTokensOf l ts) same a) none)

      by_fault : (k : ℕ) → IsLongestFront bytes k → (ts : List Span) → AreTokensOf (take k bytes) ts
          → ((f : Fault) × IsFirstFault c id n (marks_of ts) f) ⊎ HasNoFault c id n ts
          → ShowsFaultOrNone c id n place bytes
      by_fault k f ts a (inl h) =
          let at = placed laws c id n place ts h.0 h.1 in
          inl (Field at.0 h.0.1, (ts, ended_in_bytes bytes k ts f.within a, at.1))
      by_fault k f ts a (inr none) = by_length k f ts a none (cases_lt k (length bytes))
