-- A fault that bytes show before they end stays, whatever follows.
use Rattle.std.proofs.Common.{◌≡◌, ◌<◌, ◌+◌, inl, arith, sym, subst, append-nil, ℕ, List, [], ◌++◌, length, take, drop, Option}
use Rattle.std.proofs.lemmas.List.{length-append, take-append-drop, take-append-le}
use Rattle.json_events.specs.JsonText.{BeginsText, IsTextOf, IsTextWith, Span}
use Rattle.json_events.specs.JsonTokens.{AreTokensOf, BeginsWith, HaveEndedIn}
use Rattle.json_events.specs.JsonTree.{Json}
use Rattle.json_meanings.specs.JsonScalars.{Schema}
use Rattle.message_types.specs.declared.messages.TypeId.{TypeId}
use Rattle.json_bodies.specs.FrontFaults.{FaultStays, IsFrontFault}
use Rattle.json_bodies.specs.WholeMessages.{StopsAt}
use Rattle.json_bodies.specs.declared.fault.BodyFault.{BodyFault}
use Rattle.json_bodies.specs.declared.fault.BodyFault.TheVariants.{Field, Syntax, NoMemory}

-- what has ended in bytes has ended in more
ended_more : (bytes more : List ℕ) (ts : List Span) → HaveEndedIn bytes ts → HaveEndedIn (bytes ++ more) ts
ended_more bytes more ts h = record {
  count = h.count;
  within = omega (arith, h.within, length-append bytes more);
  begins = subst (λ (l : List ℕ). BeginsWith l ts) (sym (take-append-le h.count bytes more h.within)) h.begins;
  ended = h.ended;
}

module _ (fronts : (p s : List ℕ) → BeginsText (p ++ s) → BeginsText p) (bytes more : List ℕ) where
  -- a front of a text begins one
  front_of_text : (k : ℕ) (j : Json) → IsTextOf j (bytes ++ more) → BeginsText (take k (bytes ++ more))
  front_of_text k j x =
      let all = bytes ++ more in
      let text : BeginsText all
      = ([], j, (x.0, subst (λ (l : List ℕ). IsTextWith j l x.0) (sym (append-nil all)) x.1)) in
      fronts (take k all) (drop k all) (subst BeginsText (sym (take-append-drop k all)) text)

  -- no text goes on with more bytes either
  stops_more : (ts : List Span) (k : ℕ) → k < length bytes → StopsAt bytes ts k → StopsAt (bytes ++ more) ts k
  stops_more ts k less h =
      let same : take k (bytes ++ more) ≡ take k bytes = take-append-le k bytes more (omega (arith, less)) in
      let next : take (k + 1) (bytes ++ more) ≡ take (k + 1) bytes
      = take-append-le (k + 1) bytes more (omega (arith, less)) in
      record {
        no_text = λ j x. h.front.longest less (subst BeginsText next (front_of_text (k + 1) j x));
        front = record {
          within = omega (arith, less, length-append bytes more);
          begins = subst BeginsText (sym same) h.front.begins;
          longest = λ _ b. h.front.longest less (subst BeginsText next b);
        };
        tokens = subst (λ (l : List ℕ). AreTokensOf l ts) (sym same) h.tokens;
      }

  -- both kinds of faults
  pub front_fault_stays : (c : Schema) (id : TypeId) (n : Option ℕ) (place : ℕ) (f : BodyFault)
      → IsFrontFault c id n place bytes f → FaultStays c id n place bytes more f
  front_fault_stays c id n place (Field at kind) h =
      let ended = ended_more bytes more h.0 h.1 in
      record { shown = (h.0, ended, h.2); whole = (h.0, inl ended, h.2) }
  front_fault_stays c id n place (Syntax at) h =
      let stops = stops_more h.0 h.1 h.3 h.4 in
      record {
        shown = (h.0, h.1, h.2, omega (arith, h.3, length-append bytes more), stops, h.5);
        whole = (h.0, h.1, h.2, stops, h.5);
      }
  front_fault_stays c id n place NoMemory h = absurd h
