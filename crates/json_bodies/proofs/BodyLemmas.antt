-- A whole body means at most one value or has one fault, and not both.
use Rattle.std.proofs.Common.{◌≡◌, ◌≢◌, ◌∙◌, ◌⊎◌, ◌<◌, ◌≤◌, ◌+◌, inl, inr, arith, sym, ap, subst, refl, append-nil, append_assoc, ℕ, suc, zero, List, [], ◌∷◌, ◌++◌, length, take, drop, Option, Result, Ok, Err}
use Rattle.std.specs.List.{AllByRecursion}
use Rattle.std.proofs.Math.Seq.{take-length}
use Rattle.std.proofs.lemmas.Bool.{cases_lt}
use Rattle.std.proofs.lemmas.List.{length-append, length-take-le, take-append-drop, take-take}
use Rattle.base.specs.Saturated.{saturated}
use Rattle.json_events.specs.JsonText.{BeginsText, IsTextWith, Span, marks_of}
use Rattle.json_events.specs.JsonTokens.{AreTokensOf, BeginsWith, HasEnded, HaveEndedIn}
use Rattle.json_events.specs.JsonTree.{Json, Mark}
use Rattle.json_meanings.specs.FaultPlaces.{Fault}
use Rattle.json_meanings.specs.FieldFaults.{BeginsTree, IsFirstFault, tree_tokens}
use Rattle.json_meanings.specs.JsonDenotes.{Denotes}
use Rattle.json_meanings.specs.JsonScalars.{Schema}
use Rattle.json_meanings.specs.ReadingLaws.{ReadingLawsHold}
use Rattle.json_meanings.specs.TextMeanings.{BytesMean}
use Rattle.json_meanings.specs.declared.fault.FieldKind.{FieldKind}
use Rattle.message_types.specs.declared.messages.TypeId.{TypeId}
use Rattle.json_bodies.specs.WholeMessages.{AreBodyTokens, HasNoFault, HasOneOutcome, IsBodyAnswer, IsBodyFault, IsBodyReading, IsFaultAt, IsLongestFront, StopsAt}
use Rattle.json_bodies.specs.declared.fault.BodyFault.{BodyFault}
use Rattle.json_bodies.specs.declared.fault.BodyFault.TheVariants.{Field, Syntax, NoMemory}
use Rattle.schema.specs.declared.value.Value.{Value}

-- the marks of two lists
pub marks_of-append : (ts us : List Span) → marks_of (ts ++ us) ≡ marks_of ts ++ marks_of us
marks_of-append [] us = refl
marks_of-append (t ∷ ts) us = ap (λ (ms : List Mark). t.mark ∷ ms) (marks_of-append ts us)

-- as many as the tokens
pub length-marks_of : (ts : List Span) → length (marks_of ts) ≡ length ts
length-marks_of [] = refl
length-marks_of (t ∷ ts) = ap suc (length-marks_of ts)

-- two tokens at one place of a list
pub same_token : (a b c d : List Span) (t u : Span) → a ++ t ∷ b ≡ c ++ u ∷ d → length a ≡ length c → t ≡ u
same_token [] b [] d t u e n = cc e
same_token [] b (x ∷ c) d t u e n = absurd (cc n)
same_token (x ∷ a) b [] d t u e n = absurd (cc n)
same_token (x ∷ a) b (y ∷ c) d t u e n = same_token a b c d t u (cc e) (cc n)

-- a list is in two parts at each of its places
pub split_at : (ts : List Span) (i : ℕ) → i < length ts
    → (before behind : List Span) × (token : Span) × (ts ≡ before ++ token ∷ behind) × (length before ≡ i)
split_at [] i h = absurd (omega (arith, h))
split_at (t ∷ ts) zero h = ([], ts, t, refl, refl)
split_at (t ∷ ts) (suc i) h =
    let r = split_at ts i (omega (arith, h)) in
    (t ∷ r.0, r.1, r.2, ap (λ (l : List Span). t ∷ l) r.3, ap suc r.4)

-- bytes behind so many of a longer front
pub in_front : (bytes : List ℕ) (k m : ℕ) → k ≤ m → take k bytes ++ drop k (take m bytes) ≡ take m bytes
in_front bytes k m h =
    ap (λ (l : List ℕ). l ++ drop k (take m bytes)) (sym (take-take k m bytes h)) ∙ take-append-drop k (take m bytes)

-- a shorter front of what begins a text begins one
pub shorter_front : (fronts : (p s : List ℕ) → BeginsText (p ++ s) → BeginsText p) (bytes : List ℕ) (k m : ℕ) → k ≤ m
    → BeginsText (take m bytes) → BeginsText (take k bytes)
shorter_front fronts bytes k m h b =
    fronts (take k bytes) (drop k (take m bytes)) (subst BeginsText (sym (in_front bytes k m h)) b)

-- what is proved below of texts
pub record TextLaws : Type 0 where
  pub trees : (j k : Json) (s : List ℕ) (ts us : List Span) → IsTextWith j s ts → IsTextWith k s us → j ≡ k
  pub tokens : (j k : Json) (s : List ℕ) (ts us : List Span) → IsTextWith j s ts → IsTextWith k s us → ts ≡ us
  pub marks : (j : Json) (s : List ℕ) (ts : List Span) → IsTextWith j s ts → marks_of ts ≡ tree_tokens j
  pub begins : (bytes : List ℕ) (ts : List Span) → BeginsWith bytes ts → BeginsTree (marks_of ts)
  pub ended : (p s t : List ℕ) (j k : Json) (ts others all : List Span) → IsTextWith j (p ++ s) (ts ++ others)
      → AllByRecursion (HasEnded (length p)) ts → IsTextWith k (p ++ t) all → (rest : List Span) × (all ≡ ts ++ rest)
  pub fronts : (p s : List ℕ) → BeginsText (p ++ s) → BeginsText p
  pub longest : (bytes : List ℕ) → (n : ℕ) × (n ≤ length bytes) × BeginsText (take n bytes)
      × (n < length bytes → BeginsText (take (n + 1) bytes) → ⊥)
  pub some : (b : List ℕ) → BeginsText b → (ts : List Span) × AreTokensOf b ts
  pub one : (b : List ℕ) (ts us : List Span) → AreTokensOf b ts → AreTokensOf b us → ts ≡ us
  pub first : (bytes : List ℕ) (ts us : List Span) → HaveEndedIn bytes ts → AreTokensOf bytes us
      → (rest : List Span) × (us ≡ ts ++ rest)
  pub front : (bytes : List ℕ) (ts us : List Span) (k : ℕ) → HaveEndedIn bytes ts → AreTokensOf (take k bytes) us
      → (BeginsText (take (k + 1) bytes) → ⊥) → (rest : List Span) × (us ≡ ts ++ rest)

-- the tokens of a front that goes on to a text are those with which it begins
abbrev GoesOn : List Span → List Span → Type 0
GoesOn ts us = (rest : List Span) × (us ≡ ts ++ rest)

module _ (texts : TextLaws) (bytes : List ℕ) where
  -- there is one longest front
  pub one_front : (k m : ℕ) → IsLongestFront bytes k → IsLongestFront bytes m → k ≡ m
  one_front k m a b = by_order (cases_lt k m) (cases_lt m k)
    where
      by_order : (k < m) ⊎ (m ≤ k) → (m < k) ⊎ (k ≤ m) → k ≡ m
      by_order (inl x) y =
          absurd (a.longest (omega (arith, x, b.within)) (shorter_front texts.fronts bytes (k + 1) m (omega (arith, x)) b.begins))
      by_order (inr x) (inl y) =
          absurd (b.longest (omega (arith, y, a.within)) (shorter_front texts.fronts bytes (m + 1) k (omega (arith, y)) a.begins))
      by_order (inr x) (inr y) = omega (arith, x, y)

  -- tokens that have ended in the bytes are the first of those of the longest front
  pub ended_in_front : (ts us : List Span) (k : ℕ) → HaveEndedIn bytes ts → IsLongestFront bytes k
      → AreTokensOf (take k bytes) us → GoesOn ts us
  ended_in_front ts us k h f a = by_order (cases_lt k (length bytes))
    where
      by_order : (k < length bytes) ⊎ (length bytes ≤ k) → GoesOn ts us
      by_order (inl x) = texts.front bytes ts us k h a (f.longest x)
      by_order (inr x) =
          let all : k ≡ length bytes = omega (arith, x, f.within) in
          let same : take k bytes ≡ bytes = ap (λ n. take n bytes) all ∙ take-length bytes in
          texts.first bytes ts us h (subst (λ (l : List ℕ). AreTokensOf l us) same a)

  -- and of those of a text
  pub ended_in_text : (ts all : List Span) (j : Json) → HaveEndedIn bytes ts → IsTextWith j bytes all → GoesOn ts all
  ended_in_text ts all j h x =
      let n = h.count in
      let p = take n bytes in
      let long : length p ≡ n = length-take-le n bytes h.within in
      texts.ended p h.begins.0 (drop n bytes) h.begins.2 j ts h.begins.1 all h.begins.3
      (subst (λ (m : ℕ). AllByRecursion (HasEnded m) ts) (sym long) h.ended)
      (subst (λ (l : List ℕ). IsTextWith j l all) (sym (take-append-drop n bytes)) x)

  -- tokens of a tree's front, with which two lists begin
  pub record Both (ts us : List Span) : Type 0 where
    pub all : List Span
    pub begins : BeginsTree (marks_of all)
    pub left : GoesOn ts all
    pub right : GoesOn us all

  -- those of a text
  text_begins : (j : Json) (all : List Span) → IsTextWith j bytes all → BeginsTree (marks_of all)
  text_begins j all x = (j, [], sym (texts.marks j bytes all x) ∙ sym (append-nil (marks_of all)))

  -- of two lists of first tokens of a body one goes on from the other
  pub both : (ts us : List Span) → AreBodyTokens bytes ts → AreBodyTokens bytes us → Both ts us
  both ts us (inl a) (inl b) =
      let l = texts.longest bytes in
      let f : IsLongestFront bytes l.0 = record { within = l.1; begins = l.2; longest = l.3 } in
      let w = texts.some (take l.0 bytes) l.2 in
      record {
        all = w.0;
        begins = texts.begins (take l.0 bytes) w.0 w.1.begins;
        left = ended_in_front ts w.0 l.0 a f w.1;
        right = ended_in_front us w.0 l.0 b f w.1;
      }
  both ts us (inl a) (inr b) = record {
    all = us;
    begins = text_begins b.0 us b.1;
    left = ended_in_text ts us b.0 a b.1;
    right = ([], sym (append-nil us));
  }
  both ts us (inr a) (inl b) = record {
    all = ts;
    begins = text_begins a.0 ts a.1;
    left = ([], sym (append-nil ts));
    right = ended_in_text us ts a.0 b a.1;
  }
  both ts us (inr a) (inr b) = record {
    all = ts;
    begins = text_begins a.0 ts a.1;
    left = ([], sym (append-nil ts));
    right = ([], texts.tokens a.0 b.0 bytes ts us a.1 b.1 ∙ sym (append-nil us));
  }

module _ (laws : (c : Schema) (id : TypeId) (n : Option ℕ) → ReadingLawsHold c id n) (c : Schema) (id : TypeId)
    (n : Option ℕ) (place : ℕ) where
  -- a fault stays, whatever tokens follow
  pub first_in_more : (ts all : List Span) (f : Fault) → GoesOn ts all → BeginsTree (marks_of all)
      → IsFirstFault c id n (marks_of ts) f → IsFirstFault c id n (marks_of all) f
  first_in_more ts all f g b h =
      let split : marks_of all ≡ marks_of ts ++ marks_of g.0 = ap marks_of g.1 ∙ marks_of-append ts g.0 in
      let counted : length (marks_of all) ≡ length (marks_of ts) + length (marks_of g.0)
      = ap (λ (l : List Mark). length l) split ∙ length-append (marks_of ts) (marks_of g.0) in
      let whole : tree_tokens b.0 ≡ marks_of ts ++ (marks_of g.0 ++ b.1)
      = b.2 ∙ ap (λ (l : List Mark). l ++ b.1) split ∙ append_assoc (marks_of ts) (marks_of g.0) b.1 in (
        omega (arith, h.0, counted),
        (b.0, b.1, b.2, (laws c id n).fault_stays (marks_of ts) (marks_of g.0 ++ b.1) f b.0 h whole),
      )

  -- and its place
  pub fault_in_more : (ts all : List Span) (at : ℕ) (k : FieldKind) → GoesOn ts all → BeginsTree (marks_of all)
      → IsFaultAt c id n place ts at k → IsFaultAt c id n place all at k
  fault_in_more ts all at k g b h = record {
    before = h.before;
    token = h.token;
    behind = h.behind ++ g.0;
    split = g.1 ∙ ap (λ (l : List Span). l ++ g.0) h.split ∙ append_assoc h.before (h.token ∷ h.behind) g.0;
    first = first_in_more ts all (length h.before, k) g b h.first;
    at_is = h.at_is;
  }

  -- tokens have one fault, at one place
  pub one_fault_at : (ts : List Span) (p q : ℕ) (k l : FieldKind) → IsFaultAt c id n place ts p k
      → IsFaultAt c id n place ts q l
      → Field p k ≡ Field q l
  one_fault_at ts p q k l a b =
      let same : (length a.before, k) ≡ (length b.before, l)
      = (laws c id n).one_fault (marks_of ts) (length a.before, k) (length b.before, l) a.first b.first in
      let count : length a.before ≡ length b.before = ap (λ (f : Fault). f.0) same in
      let kind : k ≡ l = ap (λ (f : Fault). f.1) same in
      let token = same_token a.before a.behind b.before b.behind a.token b.token (sym a.split ∙ b.split) count in
      let same_place : p ≡ q = a.at_is ∙ ap (λ (t : Span). saturated (place + t.from)) token ∙ sym b.at_is in
      ap (λ r. Field r k) same_place ∙ ap (Field q) kind

  module _ (texts : TextLaws) (bytes : List ℕ) where
    -- a text's tokens have no fault where its tree means a value
    no_fault_of_value : (v : Value) (ts : List Span) (f : Fault) → BytesMean c id n bytes v → AreBodyTokens bytes ts
        → IsFirstFault c id n (marks_of ts) f → ⊥
    no_fault_of_value v ts f x a h =
        let all = x.1.0 in
        let w = both texts bytes ts all a (inr (x.0, x.1.1)) in
        let first = first_in_more ts w.all f w.left w.begins h in
        let marks : tree_tokens x.0 ≡ marks_of ts ++ marks_of (of_text x a).0
        = sym (texts.marks x.0 bytes all x.1.1) ∙ ap marks_of (of_text x a).1 ∙ marks_of-append ts (of_text x a).0 in
        absurd (cc ((laws c id n).fault_stays (marks_of ts) (marks_of (of_text x a).0) f x.0 h marks, x.2))
      where
        of_text : (x : BytesMean c id n bytes v) → AreBodyTokens bytes ts → GoesOn ts x.1.0
        of_text x (inl e) = ended_in_text texts bytes ts x.1.0 x.0 e x.1.1
        of_text x (inr e) = ([], texts.tokens x.0 e.0 bytes x.1.0 ts x.1.1 e.1 ∙ sym (append-nil ts))

    -- a fault of a token is none of what has no fault before the longest front ends
    no_syntax : (ts us : List Span) (k : ℕ) (at : ℕ) (kind : FieldKind) → AreBodyTokens bytes ts
        → IsFaultAt c id n place ts at kind → StopsAt bytes us k → HasNoFault c id n us → ⊥
    no_syntax ts us k at kind (inl e) h s none =
        let more = ended_in_front texts bytes ts us k e s.front s.tokens in
        let begins = texts.begins (take k bytes) us s.tokens.begins in
        none (length h.before, kind) (first_in_more ts us (length h.before, kind) more begins h.first)
    no_syntax ts us k at kind (inr t) h s none = s.no_text t.0 (ts, t.1)

    -- one fault
    one_body_fault : (f g : BodyFault) → IsBodyFault c id n place bytes f → IsBodyFault c id n place bytes g → f ≡ g
    one_body_fault (Field p k) (Field q l) a b =
        let w = both texts bytes a.0 b.0 a.1 b.1 in
        one_fault_at w.all p q k l (fault_in_more a.0 w.all p k w.left w.begins a.2)
        (fault_in_more b.0 w.all q l w.right w.begins b.2)
    one_body_fault (Field p k) (Syntax q) a b = absurd (no_syntax a.0 b.0 b.1 p k a.1 a.2 b.3 b.4)
    one_body_fault (Field p k) NoMemory a b = absurd b
    one_body_fault (Syntax p) (Field q l) a b = absurd (no_syntax b.0 a.0 a.1 q l b.1 b.2 a.3 a.4)
    one_body_fault (Syntax p) (Syntax q) a b =
        let same : p ≡ q
        = a.2 ∙ ap (λ m. saturated (place + m)) (one_front texts bytes a.1 b.1 a.3.front b.3.front) ∙ sym b.2 in
        ap Syntax same
    one_body_fault (Syntax p) NoMemory a b = absurd b
    one_body_fault NoMemory g a b = absurd a

    -- a value and a fault are apart
    apart : (v : Value) (f : BodyFault) → BytesMean c id n bytes v → IsBodyFault c id n place bytes f → ⊥
    apart v (Field p k) a b = no_fault_of_value v b.0 (length b.2.before, k) a b.1 b.2.first
    apart v (Syntax p) a b = b.3.no_text a.0 a.1
    apart v NoMemory a b = b

    -- one outcome
    pub one_outcome : HasOneOutcome c id n place bytes
    one_outcome = record {
      value = λ v w a b.
          let same = texts.trees a.0 b.0 bytes a.1.0 b.1.0 a.1.1 b.1.1 in
          (laws c id n).one_value a.0 v w a.2 (subst (λ j. Denotes c id n j w) (sym same) b.2);
      fault = one_body_fault;
      apart = apart;
    }

-- an answer is exact
pub exact_answer : (c : Schema) (id : TypeId) (n : Option ℕ) (place : ℕ) (bytes : List ℕ) (r : Result Value BodyFault)
    → HasOneOutcome c id n place bytes → IsBodyReading c id n place bytes r → r ≢ Err NoMemory
    → IsBodyAnswer c id n place bytes r
exact_answer c id n place bytes (Ok v) one h some = record {
  value = λ w. (λ e. let same : v ≡ w = cc e in subst (BytesMean c id n bytes) same h, λ x. ap Ok (one.value v w h x));
  fault = λ f. (λ e. absurd (cc e), λ x. absurd (one.apart v f h x));
}
exact_answer c id n place bytes (Err f) one h some = record {
  value = λ w. (λ e. absurd (cc e), λ x. absurd (one.apart w f x is));
  fault = λ g. (λ e. let same : f ≡ g = cc e in subst (IsBodyFault c id n place bytes) same is, λ x. ap Err (one.fault f g is x));
}
  where
    by_fault : (f : BodyFault) → IsBodyReading c id n place bytes (Err f) → f ≢ NoMemory → IsBodyFault c id n place bytes f
    by_fault (Field p k) h some = h
    by_fault (Syntax p) h some = h
    by_fault NoMemory h some = absurd (some refl)

    is : IsBodyFault c id n place bytes f
    is = by_fault f h (λ e. some (ap Err e))
