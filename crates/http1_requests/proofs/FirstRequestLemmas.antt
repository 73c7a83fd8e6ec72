-- The head at the front of a client's bytes: `laws::requests_begin_with_their_heads`.
use Rattle.std.proofs.Common.{◌≡◌, inl, inr, ℕ, ◌≤◌, Bool, List, refl, sym, ap, ◌∙◌, subst, arith}
use Rattle.gate_world.specs.MessageHead.{MessageHead}
use Rattle.gate_world.specs.declared.refusal.Refusal.{Refusal}
use Rattle.gate_world.specs.declared.refusal.Refusal.TheVariants.{HeadTooLong}
use Rattle.http1_requests.specs.HeadEnd.{head_size, Cut, NoEnd, TooLarge, Ends, cut_at}
use Rattle.http1_requests.specs.HeadJudgement.{Judgement, Refused, Served, judgement}
use Rattle.http1_requests.specs.HeadCauses.{IsRefusedFor, HasRank}
use Rattle.http1_requests.specs.FirstHeads.{IsFirstRefused}
use Rattle.http1_requests.specs.ChunkedBody.{BodyEnd, GoesOn, Breaks, EndsBefore, body_of}
use Rattle.http1_requests.specs.ClientRequests.{RefusedHead, FirstRequest, NoRequest, LastRequest, with_body, with_head, first_by, first_request}
use Rattle.http1_requests.proofs.CauseLemmas.{Describes, describes, judgement_refused, refusal_ranks}

same_refusal : (r q : Refusal) → ◌≡◌ {A = FirstRequest} (LastRequest (RefusedHead r)) (LastRequest (RefusedHead q))
    → r ≡ q
same_refusal r q e = cc

-- a body makes no refused head, and is no lack of a head
body_apart : (ended : Bool) (m : MessageHead) (d : List ℕ) (o : BodyEnd) (r : Refusal)
    → with_body ended m d o ≡ LastRequest (RefusedHead r) → ⊥
body_apart ended m d GoesOn r e = absurd (cc)
body_apart ended m d Breaks r e = absurd (cc)
body_apart ended m d (EndsBefore rest) r e = absurd (cc)

body_there : (ended : Bool) (m : MessageHead) (d : List ℕ) (o : BodyEnd) → with_body ended m d o ≡ NoRequest → ⊥
body_there ended m d GoesOn e = absurd (cc)
body_there ended m d Breaks e = absurd (cc)
body_there ended m d (EndsBefore rest) e = absurd (cc)

-- a head that is judged
head_refused : (ended : Bool) (head rest : List ℕ) (r : Refusal) (j : Judgement) → Describes head j
    → with_head ended rest j ≡ LastRequest (RefusedHead r) → IsRefusedFor head r
head_refused ended head rest r (Refused q) says e =
    subst (λ (x : Refusal). IsRefusedFor head x) (same_refusal q r e) says
head_refused ended head rest r (Served m) says e =
    absurd (body_apart ended m (body_of m.body rest).bytes (body_of m.body rest).over r e)

head_there : (ended : Bool) (rest : List ℕ) (j : Judgement) → with_head ended rest j ≡ NoRequest → ⊥
head_there ended rest (Refused q) e = absurd (cc)
head_there ended rest (Served m) e = body_there ended m (body_of m.body rest).bytes (body_of m.body rest).over e

-- a head at the front that is refused has a cause
pub first_refused : (ended : Bool) (bytes : List ℕ) (r : Refusal)
    → first_request ended bytes ≡ LastRequest (RefusedHead r) → IsFirstRefused bytes r
first_refused ended bytes r e = by (cut_at head_size bytes) refl e
  where
    by : (c : Cut) → cut_at head_size bytes ≡ c → first_by ended c ≡ LastRequest (RefusedHead r)
        → IsFirstRefused bytes r
    by NoEnd is e = absurd (cc)
    by TooLarge is e = inl (is, sym (same_refusal HeadTooLong r e))
    by (Ends head rest) is e = inr (head, rest, is, head_refused ended head rest r (judgement head) (describes head) e)

-- and the other way round
pub first_with_cause : (ended : Bool) (bytes : List ℕ) (r : Refusal) → IsFirstRefused bytes r
    → first_request ended bytes ≡ LastRequest (RefusedHead r)
first_with_cause ended bytes r (inl c) =
    ap (first_by ended) c.0 ∙ ap (λ (x : Refusal). LastRequest (RefusedHead x)) (sym c.1)
first_with_cause ended bytes r (inr c) =
    ap (first_by ended) c.2 ∙ ap (with_head ended c.1) (judgement_refused c.0 r c.3)

-- a refusal at the front is one of the first six
pub first_ranks : (bytes : List ℕ) (r : Refusal) → IsFirstRefused bytes r → (n : ℕ) × HasRank n r × (n ≤ 6)
first_ranks bytes r (inl c) = subst (λ (x : Refusal). (n : ℕ) × HasRank n x × (n ≤ 6)) (sym c.1) (2, refl, omega arith)
first_ranks bytes r (inr c) = refusal_ranks c.0 r c.3

-- there is no request exactly where no head has ended
pub first_missing : (ended : Bool) (bytes : List ℕ) → first_request ended bytes ≡ NoRequest
    → cut_at head_size bytes ≡ NoEnd
first_missing ended bytes e = by (cut_at head_size bytes) refl e
  where
    by : (c : Cut) → cut_at head_size bytes ≡ c → first_by ended c ≡ NoRequest → cut_at head_size bytes ≡ NoEnd
    by NoEnd is e = is
    by TooLarge is e = absurd (cc)
    by (Ends head rest) is e = absurd (head_there ended rest (judgement head) e)

-- and the other way round
pub first_without_head : (ended : Bool) (bytes : List ℕ) → cut_at head_size bytes ≡ NoEnd
    → first_request ended bytes ≡ NoRequest
first_without_head ended bytes e = ap (first_by ended) e
