-- What an answer says to a caller that keeps no bytes.
use Rattle.std.proofs.Common.{◌≡◌, ◌<◌, ◌≤◌, ◌+◌, ◌-◌, ◌++◌, ◌==◌, ℕ, Bool, true, false, List, [], ◌∷◌, length, take, min, cond, nat_lt, arith, refl, sym, ap, ap₂, subst, ◌∙◌, get_or, length-append, length-take, append-nil, Option, Some, None, OnErr, Result, Ok, Err, IfOk, IfErr}
use Rattle.std.proofs.lemmas.Bool.{le-leb, lt-leb, lt-ltb, le-ltb, eq-eqb}
use Rattle.std.proofs.lemmas.List.{take_all, get_or_append_left, get_or-append-add, get_or-take}
use Rattle.base.specs.Bytes.{AreBytes}
use Rattle.h2_frames.specs.declared.fault.H2Fault.{H2Fault}
use Rattle.h2_frames.specs.declared.parts.FrameFed.{FrameFed}
use Rattle.h2_frames.specs.declared.parts.Part.{Part}
use Rattle.h2_frames.specs.declared.parts.Part.TheVariants.{Begin, Piece, Done}
use Rattle.h2_frames.specs.FrameHead.{length_with, kind_of, flags_of}
use Rattle.h2_frames.specs.FrameErrors.{judge}
use Rattle.h2_frames.specs.FrameReader.{Kept, IsNoFault, begin_of}
use Rattle.h2_frames.specs.FrameSteps.{head_with, pad_with, IsHeadPart, IsHeadStep, IsPayloadStep, IsMoreStep, IsLastStep}
use Rattle.h2_frames.specs.FrameContent.{bytes_before, padding_size}
use Rattle.h2_frames.specs.FrameRules.{KeepsHeadRules}
use Rattle.h2_frames.specs.FrameProgress.{has_begun, taken_next, part_next, kept_next, Leaves, TellsKept, judged_next, Follows, IsRefused}
use Rattle.h2_frames.proofs.FrontLemmas.{size_append}
use Rattle.h2_frames.proofs.GrowthLemmas.{either}
use Rattle.h2_frames.proofs.CallLemmas.{begin_same}
use Rattle.h2_frames.proofs.FedLemmas.{some_test}
use Rattle.h2_frames.proofs.HeadLemmas.{RulesOf, Six, six_kept, six_rules, head_rules}
use Rattle.h2_frames.proofs.PaddingLemmas.{moved_numbers, around_ten, moved_around}

-- a call by what a reader keeps

abbrev taken_by : Kept → ℕ → Bool → ℕ
taken_by old n b = cond b (min old.left n) (min (9 - length old.head) n)

abbrev part_by : Kept → List ℕ → Bool → Bool → Bool → Bool → Option Part
part_by old bytes begun ended empty few = cond begun
    (cond ended (Some Done) (cond empty None (Some (Piece (min old.left (length bytes))))))
    (cond few None (Some (begin_of (old.head ++ take (9 - length old.head) bytes))))

abbrev next_by : Kept → List ℕ → Bool → Kept
next_by old bytes b = cond b old (record old { head = old.head ++ bytes })

part_is : (old : Kept) (bytes : List ℕ) (begun ended empty few : Bool) → has_begun old ≡ begun → (old.left == 0)
    ≡ ended → (length bytes == 0) ≡ empty → nat_lt (length old.head + length bytes) 9 ≡ few → part_next old bytes
    ≡ part_by old bytes begun ended empty few
part_is old bytes begun ended empty few a b c d = ap₂
    (λ x y. part_by old bytes x y (length bytes == 0) (nat_lt (length old.head + length bytes) 9)) a b
    ∙ ap₂ (part_by old bytes begun ended) c d

clashes : (b : Bool) → b ≡ true → b ≡ false → ⊥
clashes b x y = cc

judged_few : (old : Kept) (bytes : List ℕ) → has_begun old ≡ false → judge old.context (judged_next old bytes)
    ≡ judge old.context (head_with old bytes)
judged_few old bytes e = ap (λ (b : Bool). judge old.context
    (old.head ++ take (cond b (min old.left (10 - length old.head)) (9 - length old.head)) bytes)) e

judged_many : (old : Kept) (bytes : List ℕ) → has_begun old ≡ true → judge old.context (judged_next old bytes)
    ≡ judge old.context (pad_with old bytes)
judged_many old bytes e = ap (λ (b : Bool). judge old.context
    (old.head ++ take (cond b (min old.left (10 - length old.head)) (9 - length old.head)) bytes)) e

-- the bytes that are kept of a frame, where nothing is added

pad_none : (old : Kept) (bytes : List ℕ) (n : ℕ) → take n bytes ≡ [] → old.head ++ take n bytes ≡ old.head
pad_none old bytes n e = ap (λ xs. old.head ++ xs) e ∙ append-nil old.head

pad_ended : (old : Kept) (bytes : List ℕ) → old.left ≡ 0 → pad_with old bytes ≡ old.head
pad_ended old bytes z =
    let n : min old.left (10 - length old.head) ≡ 0 = omega arith in
    pad_none old bytes (min old.left (10 - length old.head)) (ap (λ k. take k bytes) n)

pad_empty : (old : Kept) (bytes : List ℕ) → ((n : ℕ) → take n bytes ≡ []) → pad_with old bytes ≡ old.head
pad_empty old bytes e = pad_none old bytes (min old.left (10 - length old.head))
    (e (min old.left (10 - length old.head)))

nothing_given : (bytes : List ℕ) → length bytes ≡ 0 → (n : ℕ) → take n bytes ≡ []
nothing_given [] z n = take_all n [] (omega arith)
nothing_given (x ∷ xs) z n = absurd (omega (arith, z))

pad_fine : (old : Kept) (bytes : List ℕ) → IsNoFault (judge old.context old.head)
    → (length old.head < 10 → IsNoFault (judge old.context (pad_with old bytes)))
    → IsNoFault (judge old.context (pad_with old bytes))
pad_fine old bytes fine h = either (length old.head) 10 h
    (λ full.
    let n : min old.left (10 - length old.head) ≡ 0 = omega arith in
    subst (λ (xs : List ℕ). IsNoFault (judge old.context xs))
    (sym (pad_none old bytes (min old.left (10 - length old.head)) (ap (λ k. take k bytes) n))) fine)

-- less than a head

head_follow : (old new : Kept) (bytes : List ℕ) (n : ℕ) (o : Option Part) → length old.head < 9 → old.left ≡ 0
    → IsHeadPart old bytes (head_with old bytes) n o new → Follows old bytes (record { taken = n; part = o }) new
head_follow old new bytes n None l z h =
    let few : has_begun old ≡ false = lt-leb 9 (length old.head) l in
    let e : length (head_with old bytes) ≡ length old.head + length bytes = ap length h.2
    ∙ length-append old.head bytes in
    let sum : length old.head + length bytes < 9 = omega (arith, h.1) in
    let same : has_begun new ≡ false = ap has_begun h.3 ∙ lt-leb 9 (length (head_with old bytes)) h.1 in
    let t : taken_next old (length bytes)
    ≡ min (9 - length old.head) (length bytes) = ap (taken_by old (length bytes)) few in
    let left : new.left ≡ old.left = ap (λ (k : Kept). k.left) h.3 in
    record {
      taken = omega (arith, h.0, t);
      part = sym (part_is old bytes false (old.left == 0) (length bytes == 0) true few refl refl
          (lt-ltb (length old.head + length bytes) 9 sum));
      next = h.3 ∙ ap (λ (xs : List ℕ). record old { head = xs }) h.2 ∙ sym (ap (next_by old bytes) few);
      leaves = (same ∙ sym few, left);
      kept = tt;
      between = λ _. left ∙ z;
      fine = λ _. subst IsNoFault (sym (judged_few old bytes few)) h.4;
    }
head_follow old new bytes n (Some (Begin size kind flags stream)) l z h =
    let few : has_begun old ≡ false = lt-leb 9 (length old.head) l in
    let b : n ≤ length bytes = h.1 in
    let e : length (head_with old bytes)
    ≡ 9 = omega (
      arith,
      h.0,
      length-append old.head (take (9 - length old.head) bytes),
      length-take
          (9 - length old.head) bytes,
    ) in
    let nine : 9 ≤ length (head_with old bytes) = omega arith in
    let sum : 9 ≤ length old.head + length bytes = omega (arith, h.0) in
    let t : taken_next old (length bytes)
    ≡ min (9 - length old.head) (length bytes) = ap (taken_by old (length bytes)) few in
    let begun : has_begun new ≡ true = ap has_begun h.2 ∙ le-leb 9 (length (head_with old bytes)) nine in
    let rules : RulesOf old.context (head_with old bytes) = head_rules old.context (head_with old bytes) nine h.3 in
    record {
      taken = omega (arith, h.0, t);
      part = ap Some (begin_same size kind flags stream (head_with old bytes) h.4 h.5 h.6 h.7)
          ∙ sym (part_is old bytes false (old.left == 0) (length bytes == 0) false few refl refl
          (le-ltb (length old.head + length bytes) 9 sum));
      next = h.2;
      leaves = (few, begun, ap (λ (k : Kept). k.left) h.2);
      kept = (
        moved_numbers (KeepsHeadRules old.context) _ _ _ _ size kind flags stream (sym h.4) (sym h.5) (sym h.6)
            (sym h.7) rules,
        h.8,
      );
      between = λ f. absurd (clashes (has_begun new) begun f);
      fine = λ _. subst IsNoFault (sym (judged_few old bytes few)) h.3;
    }
head_follow old new bytes n (Some (Piece j)) l z h = absurd h
head_follow old new bytes n (Some Done) l z h = absurd h

-- a call within a head says what follows
pub head_follows : (old : Kept) (bytes : List ℕ) (result : Result FrameFed H2Fault) (new : Kept) → length old.head < 9
    → old.left ≡ 0 → IsHeadStep old bytes result new → IfOk result (λ fed. Follows old bytes fed new)
head_follows old bytes (Ok fed) new l z h = head_follow old new bytes fed.taken fed.part l z h
head_follows old bytes (Err f) new l z h = tt

-- a payload

longer : (old : Kept) (bytes : List ℕ) → 9 ≤ length old.head → 9 ≤ length (pad_with old bytes)
longer old bytes l = omega (arith, length-append old.head (take (min old.left (10 - length old.head)) bytes))

-- the padding fits once the first byte of the payload has come
pad_tells : (old : Kept) (bytes : List ℕ) → AreBytes bytes → 0 < old.left → 0 < length bytes
    → IsNoFault (judge old.context (pad_with old bytes)) → length old.head ≡ 9
    → bytes_before (kind_of old.head) (flags_of old.head) + padding_size (kind_of old.head) (flags_of old.head)
    (get_or bytes 0 0) ≤ length_with 0 old.head
pad_tells old bytes k q z h nine =
    let some : 0 < min old.left (10 - length old.head) = omega arith in
    let three : 3 ≤ length old.head = omega arith in
    let kind : 3 < length old.head = omega arith in
    let flags : 4 < length old.head = omega arith in
    let ten : 10 ≤ length (pad_with old bytes) = omega (
      arith,
      length-append old.head (take (min old.left (10 - length old.head)) bytes),
      length-take
          (min old.left (10 - length old.head)) bytes,
    ) in
    let long : 9 ≤ length (pad_with old bytes) = omega arith in
    let at : get_or (pad_with old bytes) 9 0
    ≡ get_or bytes 0 0 = ap (λ i. get_or (pad_with old bytes) (i + 0) 0) (sym nine)
    ∙ get_or-append-add old.head (take (min old.left (10 - length old.head)) bytes) 0 0
    ∙ get_or-take (min old.left (10 - length old.head)) bytes 0 0 some in
    let byte : get_or (pad_with old bytes) 9 0 < 256 = subst (λ i. i < 256) (sym at) (k 0) in
    let s : Six old.context (pad_with old bytes) = six_kept old.context (pad_with old bytes) long h in
    let r : RulesOf old.context (pad_with old bytes) = six_rules old.context (pad_with old bytes) long s.six in
    moved_around _ _ _ _ _ _ _ _ (size_append 0 old.head (take (min old.left (10 - length old.head)) bytes) three)
    (get_or_append_left old.head (take (min old.left (10 - length old.head)) bytes) 0 3 kind)
    (get_or_append_left old.head (take (min old.left (10 - length old.head)) bytes) 0 4 flags) at
    (around_ten (pad_with old bytes) byte ten r.payload.fields s.last)

payload_follows : (old : Kept) (bytes : List ℕ) (result : Result FrameFed H2Fault) (new : Kept) → AreBytes bytes
    → 9 ≤ length old.head → 0 < old.left → 0 < length bytes → IsPayloadStep old bytes result new
    → IfOk result (λ fed. Follows old bytes fed new)
payload_follows old bytes (Err f) new k l q z h = tt
payload_follows old bytes (Ok fed) new k l q z h =
    let begun : has_begun old ≡ true = le-leb 9 (length old.head) l in
    let now : has_begun new ≡ true = ap has_begun h.3 ∙ le-leb 9 (length (pad_with old bytes)) (longer old bytes l) in
    let left : new.left ≡ old.left - fed.taken = ap (λ (j : Kept). j.left) h.3 in
    let rest : fed.taken + new.left ≡ old.left = omega (arith, left, h.1) in
    record {
      taken = h.1 ∙ sym (ap (taken_by old (length bytes)) begun);
      part = h.0 ∙ ap (λ n. Some (Piece n)) h.1
          ∙ sym (part_is old bytes true false false (nat_lt (length old.head + length bytes) 9) begun
          (some_test old.left q) (some_test (length bytes) z) refl);
      next = subst (λ (o : Option Part). new ≡ kept_next old bytes o) (sym h.0) h.3;
      leaves = subst (λ (o : Option Part). Leaves old o new) (sym h.0) (begun, now, rest);
      kept = subst (λ (o : Option Part). TellsKept old bytes o) (sym h.0)
          (λ nine. let few : length old.head < 10 = omega arith in pad_tells old bytes k q z (h.4 few) nine);
      between = λ f. absurd (clashes (has_begun new) now f);
      fine = λ fine. subst IsNoFault (sym (judged_many old bytes begun)) (pad_fine old bytes fine h.4);
    }

idle_follows : (old : Kept) (bytes : List ℕ) → 9 ≤ length old.head → 0 < old.left → length bytes ≡ 0
    → Follows old bytes (record { taken = 0; part = None }) old
idle_follows old bytes l q z =
    let begun : has_begun old ≡ true = le-leb 9 (length old.head) l in
    let t : taken_next old (length bytes) ≡ min old.left (length bytes) = ap (taken_by old (length bytes)) begun in
    record {
      taken = omega (arith, t);
      part = sym (part_is old bytes true false true (nat_lt (length old.head + length bytes) 9) begun
          (some_test old.left q) (eq-eqb (length bytes) 0 z) refl);
      next = sym (ap (next_by old bytes) begun);
      leaves = (refl, refl);
      kept = tt;
      between = λ f. absurd (clashes (has_begun old) begun f);
      fine = λ fine. subst IsNoFault (sym (judged_many old bytes begun))
          (subst (λ (xs : List ℕ). IsNoFault (judge old.context xs))
          (sym (pad_empty old bytes (nothing_given bytes z))) fine);
    }

-- a call within a payload says what follows
pub more_follows : (old : Kept) (bytes : List ℕ) (result : Result FrameFed H2Fault) (new : Kept) → AreBytes bytes
    → 9 ≤ length old.head → 0 < old.left → IsMoreStep old bytes result new
    → IfOk result (λ fed. Follows old bytes fed new)
more_follows old bytes result new k l q h = either 0 (length bytes)
    (λ some. payload_follows old bytes result new k l q some (h.1 some))
    (λ none. let z : length bytes ≡ 0 = omega arith in
    let same = h.0 z in
    subst (λ (r : Result FrameFed H2Fault). IfOk r (λ fed. Follows old bytes fed new)) (sym same.0)
    (subst (λ (n : Kept). Follows old bytes (record { taken = 0; part = None }) n) (sym same.1)
    (idle_follows old bytes l q z)))

-- the end of a frame

-- a call at the end of a frame says what follows
pub last_follows : (old : Kept) (bytes : List ℕ) (result : Result FrameFed H2Fault) (new : Kept) → 9 ≤ length old.head
    → old.left ≡ 0 → IsLastStep old result new → IfOk result (λ fed. Follows old bytes fed new)
last_follows old bytes (Err f) new l z h = absurd h
last_follows old bytes (Ok fed) new l z h =
    let begun : has_begun old ≡ true = le-leb 9 (length old.head) l in
    let now : has_begun new ≡ false = ap has_begun h.2 in
    let t : taken_next old (length bytes) ≡ min old.left (length bytes) = ap (taken_by old (length bytes)) begun in
    let left : new.left ≡ 0 = ap (λ (k : Kept). k.left) h.2 in
    record {
      taken = omega (arith, h.1, t);
      part = h.0 ∙ sym (part_is old bytes true true (length bytes == 0) (nat_lt (length old.head + length bytes) 9)
          begun (eq-eqb old.left 0 z) refl refl);
      next = subst (λ (o : Option Part). new ≡ kept_next old bytes o) (sym h.0) h.2;
      leaves = subst (λ (o : Option Part). Leaves old o new) (sym h.0) (begun, now, z, left);
      kept = subst (λ (o : Option Part). TellsKept old bytes o) (sym h.0) tt;
      between = λ _. left;
      fine = λ fine. subst IsNoFault (sym (judged_many old bytes begun))
          (subst (λ (xs : List ℕ). IsNoFault (judge old.context xs)) (sym (pad_ended old bytes z)) fine);
    }

-- refusals

-- a refusal within a head is by the rule that its bytes break
pub head_refuses : (old : Kept) (bytes : List ℕ) (result : Result FrameFed H2Fault) (new : Kept) → length old.head < 9
    → IsHeadStep old bytes result new → IfErr result (λ f. old.fault ≡ None → IsRefused old bytes f)
head_refuses old bytes (Ok fed) new l h = tt
head_refuses old bytes (Err f) new l h = λ _. record {
  code = judged_few old bytes (lt-leb 9 (length old.head) l)
      ∙ h.2;
  offset = h.1;
}

-- a refusal within a payload is by the rule that its first byte breaks
pub more_refuses : (old : Kept) (bytes : List ℕ) (result : Result FrameFed H2Fault) (new : Kept) → 9 ≤ length old.head
    → IsMoreStep old bytes result new → IfErr result (λ f. old.fault ≡ None → IsRefused old bytes f)
more_refuses old bytes (Ok fed) new l h = tt
more_refuses old bytes (Err f) new l h = λ _. either 0 (length bytes)
    (λ some. let s = h.1 some in record {
      code = judged_many old bytes (le-leb 9 (length old.head) l)
          ∙ s.2;
      offset = s.1;
    })
    (λ none. let z : length bytes ≡ 0 = omega arith in let same = (h.0 z).0 in absurd (cc))

-- at the end of a frame nothing is refused
pub last_refuses : (old : Kept) (bytes : List ℕ) (result : Result FrameFed H2Fault) (new : Kept)
    → IsLastStep old result new → IfErr result (λ f. old.fault ≡ None → IsRefused old bytes f)
last_refuses old bytes (Ok fed) new h = tt
last_refuses old bytes (Err f) new h = absurd h

-- behind a refusal another does not come
pub stuck_refuses : (old : Kept) (bytes : List ℕ) (f g : H2Fault) → old.fault ≡ Some g → old.fault ≡ None
    → IsRefused old bytes f
stuck_refuses old bytes f g some none = let same : Some g ≡ None = sym some ∙ none in absurd (cc)

-- a refusal leaves the offset of the frame, within a head
pub head_stays : (old : Kept) (bytes : List ℕ) (result : Result FrameFed H2Fault) (new : Kept)
    → IsHeadStep old bytes result new → OnErr result (new.place ≡ old.place)
head_stays old bytes (Ok fed) new h = tt
head_stays old bytes (Err f) new h = ap (λ (k : Kept). k.place) h.0

-- and within a payload
pub more_stays : (old : Kept) (bytes : List ℕ) (result : Result FrameFed H2Fault) (new : Kept)
    → IsMoreStep old bytes result new → OnErr result (new.place ≡ old.place)
more_stays old bytes (Ok fed) new h = tt
more_stays old bytes (Err f) new h = either 0 (length bytes)
    (λ some. let s = h.1 some in ap (λ (k : Kept). k.place) s.0)
    (λ none. let z : length bytes ≡ 0 = omega arith in let same = (h.0 z).0 in absurd (cc))

-- at the end of a frame nothing is refused
pub last_stays : (old : Kept) (result : Result FrameFed H2Fault) (new : Kept) → IsLastStep old result new
    → OnErr result (new.place ≡ old.place)
last_stays old (Ok fed) new h = tt
last_stays old (Err f) new h = absurd h
