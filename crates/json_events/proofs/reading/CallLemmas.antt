-- What a call does to what a reader stands for, with the fault that it keeps.
use Rattle.std.proofs.Common.{◌≡◌, ℕ, ◌+◌, ◌≤◌, ◌⊎◌, List, [], ◌∷◌, ◌++◌, length, take, Option, Some, None, Ok, Err, inl, inr, refl, sym, subst, arith}
use Rattle.std.proofs.lemmas.List.{append-nil, length-append, take-append-le}
use Rattle.json_events.specs.declared.fault.JsonFault.{JsonFault}
use Rattle.json_events.specs.declared.fault.JsonFault.TheVariants as fault
use Rattle.json_events.specs.declared.token.Spanned.{Spanned}
use Rattle.json_events.specs.declared.token.Fed.{Fed}
use Rattle.json_events.specs.JsonTree.{opens}
use Rattle.json_events.specs.JsonText.{Span}
use Rattle.json_events.specs.JsonTokens.{BeginsWith, IsNoTextWith, NoOtherHasEnded, AreTokensOf}
use Rattle.json_events.specs.ReaderState.{StandsFor, IsBroken, IsTooDeep, IsCut, IsFaultOf, IsEndFault, StandsByFault, ReaderState, Stands}
use Rattle.json_events.specs.ReaderAnswers.{IsGiven, StandsOn, ReadsOn, IsFaultBehind, IsFeedFault, GoesOn, FeedsOn, IsWholeWith, IsNotWhole}

-- a reader that has refused nothing
pub stands_for : (r : ReaderState) (b : List ℕ) (ts : List Span) → r.fault ≡ None → Stands r b ts → StandsFor r.reading b ts
stands_for r b ts e h = subst (λ f. StandsByFault f r.reading b ts) e h.by

-- the same the other way round
pub for_stands : (r : ReaderState) (b : List ℕ) (ts : List Span) → r.fault ≡ None → StandsFor r.reading b ts → Stands r b ts
for_stands r b ts e h = record { by = subst (λ f. StandsByFault f r.reading b ts) (sym e) h }

failed_stands : (r : ReaderState) (b : List ℕ) (ts : List Span) (f : JsonFault) → r.fault ≡ Some f → IsFaultOf f b ts ⊎ IsEndFault f b ts → Stands r b ts
failed_stands r b ts f e h = record { by = subst (λ o. StandsByFault o r.reading b ts) (sym e) h }

no_tokens : (r : ReaderState) (b : List ℕ) (ts : List Span) → Stands r b ts → (given : List Span) × IsGiven None given (length b) × Stands r b (ts ++ given)
no_tokens r b ts h = ([], refl, subst (λ l. Stands r b l) (sym (append-nil ts)) h)

-- a call that has refused nothing
pub goes_on : (old new : ReaderState) (bytes : List ℕ) (token : Option Spanned) → old.fault ≡ None → new.fault ≡ None → StandsOn old.reading new.reading bytes token → GoesOn old new bytes token
goes_on old new bytes token o n on b ts h =
    let r = on b ts (stands_for old b ts o h) in
    (r.0, r.1, for_stands new (b ++ bytes) (ts ++ r.0) n r.2)

-- a call that refuses
pub goes_wrong : (old new : ReaderState) (bytes : List ℕ) (f : JsonFault) → old.fault ≡ None → new.fault ≡ Some f → IsFaultBehind f old.reading bytes → GoesOn old new bytes None
goes_wrong old new bytes f o n on b ts h = no_tokens new (b ++ bytes) ts (failed_stands new (b ++ bytes) ts f n (inl (on b ts (stands_for old b ts o h))))

-- a call of feed that has refused nothing
pub feeds_on : (old new : ReaderState) (bytes : List ℕ) (fed : Fed) → old.fault ≡ None → new.fault ≡ None
    → ReadsOn old.reading new.reading bytes fed.taken fed.token → FeedsOn old new bytes (Ok fed)
feeds_on old new bytes fed o n on b ts h =
    let r = on b ts (stands_for old b ts o h) in
    (r.0, r.1, for_stands new (b ++ take fed.taken bytes) (ts ++ r.0) n r.2, r.3)

-- one that refuses
pub feeds_none : (old new : ReaderState) (bytes : List ℕ) (f : JsonFault) → GoesOn old new bytes None → FeedsOn old new bytes (Err f)
feeds_none old new bytes f on b ts h = let r = on b ts h in (r.0, r.1, r.2, tt)

-- the fault of a call is that of all bytes
pub feed_fault : (old : ReaderState) (bytes : List ℕ) (f : JsonFault) → old.fault ≡ None → IsFaultBehind f old.reading bytes → IsFeedFault f old bytes
feed_fault old bytes f o on b ts h = on b ts (stands_for old b ts o h)

-- a fault stays, whatever bytes come
take_same : (k : ℕ) (b bytes : List ℕ) → k ≤ length b → take k b ≡ take k (b ++ bytes)
take_same k b bytes h = sym (take-append-le k b bytes h)

long : (b bytes : List ℕ) → length (b ++ bytes) ≡ length b + length bytes
long b bytes = length-append b bytes

broken_stays : (b bytes : List ℕ) (ts : List Span) (k : ℕ) → IsBroken b ts k → IsBroken (b ++ bytes) ts k
broken_stays b bytes ts k h = record {
  within = omega (arith, h.within, long b bytes);
  alive = subst (λ (l : List ℕ). BeginsWith l ts) (take_same k b bytes (omega (arith, h.within))) h.alive;
  no_other = subst (λ (l : List ℕ). NoOtherHasEnded l ts) (take_same k b bytes (omega (arith, h.within))) h.no_other;
  dead = λ x. h.dead (subst (λ (l : List ℕ). BeginsWith l ts) (sym (take_same (k + 1) b bytes (omega (arith, h.within)))) x);
}

too_deep_stays : (b bytes : List ℕ) (ts : List Span) (k : ℕ) → IsTooDeep b ts k → IsTooDeep (b ++ bytes) ts k
too_deep_stays b bytes ts k h = record {
  bracket = h.bracket;
  within = omega (arith, h.within, long b bytes);
  tokens = subst (λ (l : List ℕ). AreTokensOf l (ts ++ record { mark = opens h.bracket; from = k; to = k + 1 } ∷ []))
      (take_same (k + 1) b bytes (omega (arith, h.within))) h.tokens;
  full = h.full;
}

cut_stays : (b bytes : List ℕ) (ts : List Span) (k : ℕ) → IsCut b ts k → IsCut (b ++ bytes) ts k
cut_stays b bytes ts k h = record {
  within = omega (arith, h.within, long b bytes);
  alive = subst (λ (l : List ℕ). BeginsWith l ts) (take_same k b bytes h.within) h.alive;
  no_other = subst (λ (l : List ℕ). NoOtherHasEnded l ts) (take_same k b bytes h.within) h.no_other;
  dead = subst (λ (l : List ℕ). IsNoTextWith l ts) (take_same k b bytes h.within) h.dead;
}

-- the fault stays, whatever bytes come
pub fault_stays : (f : JsonFault) (b bytes : List ℕ) (ts : List Span) → IsFaultOf f b ts → IsFaultOf f (b ++ bytes) ts
fault_stays (fault.Syntax n) b bytes ts h = (h.0, h.1, broken_stays b bytes ts h.0 h.2)
fault_stays (fault.TooDeep n) b bytes ts h = (h.0, h.1, too_deep_stays b bytes ts h.0 h.2)
fault_stays fault.NoMemory b bytes ts h = tt

end_fault_stays : (f : JsonFault) (b bytes : List ℕ) (ts : List Span) → IsEndFault f b ts → IsEndFault f (b ++ bytes) ts
end_fault_stays (fault.Syntax n) b bytes ts h = (h.0, h.1, cut_stays b bytes ts h.0 h.2)
end_fault_stays (fault.TooDeep n) b bytes ts h = absurd h
end_fault_stays fault.NoMemory b bytes ts h = absurd h

either_stays : (f : JsonFault) (b bytes : List ℕ) (ts : List Span) → IsFaultOf f b ts ⊎ IsEndFault f b ts → IsFaultOf f (b ++ bytes) ts ⊎ IsEndFault f (b ++ bytes) ts
either_stays f b bytes ts (inl x) = inl (fault_stays f b bytes ts x)
either_stays f b bytes ts (inr x) = inr (end_fault_stays f b bytes ts x)

-- a call of a reader that has refused
pub stays_wrong : (old new : ReaderState) (bytes : List ℕ) (f : JsonFault) → old.fault ≡ Some f → new ≡ old → GoesOn old new bytes None
stays_wrong old new bytes f e same b ts h =
    let before = subst (λ o. StandsByFault o old.reading b ts) e h.by in
    no_tokens new (b ++ bytes) ts (subst (λ r. Stands r (b ++ bytes) ts) (sym same) (failed_stands old (b ++ bytes) ts f e (either_stays f b bytes ts before)))

-- nothing follows
pub end_whole : (old : ReaderState) (token : Option Spanned) → old.fault ≡ None → IsWholeWith (StandsFor old.reading) token → IsWholeWith (Stands old) token
end_whole old token o w b ts h = w b ts (stands_for old b ts o h)

-- the end of what is no text
pub end_not_whole : (old : ReaderState) (f : JsonFault) → old.fault ≡ None → IsNotWhole (StandsFor old.reading) f → IsNotWhole (Stands old) f
end_not_whole old f o w b ts h = w b ts (stands_for old b ts o h)

-- a reader that refuses the end
pub end_wrong : (old new : ReaderState) (f : JsonFault) → old.fault ≡ None → new.fault ≡ Some f → IsNotWhole (StandsFor old.reading) f → GoesOn old new [] None
end_wrong old new f o n w b ts h =
    let s = stands_for old b ts o h in
    let x = w b ts s in
    let ends : IsEndFault f b ts = subst (λ g. IsEndFault g b ts) (sym x.0) (length b, refl, x.1) in
    let same : b ++ [] ≡ b = append-nil b in
    no_tokens new (b ++ []) ts (subst (λ (l : List ℕ). Stands new l ts) (sym same) (failed_stands new b ts f n (inr ends)))
