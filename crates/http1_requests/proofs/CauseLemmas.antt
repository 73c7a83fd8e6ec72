-- A head is served or refused for the cause that comes first: `laws::heads_are_refused_in_order`,
-- `laws::served_heads_are_read`.
use Rattle.std.proofs.Common.{◌≡◌, ◌≤◌, ◌<◌, ◌⊎◌, inl, inr, ℕ, zero, suc, ◌+◌, Bool, true, false, not, ◌==◌, List, [], length, refl, sym, ap, ◌∙◌, arith, append-nil, ne_eqb, Option, Some, None, if◌then◌else◌}
use Rattle.std.proofs.lemmas.Bool.{eqb-true, eqb-false, lt-ltb, le-ltb, cases_lt}
use Rattle.httparse.specs.Grammar.{RequestHead, ReadsRequest, print_request}
use Rattle.gate_world.specs.MessageHead.{MessageHead}
use Rattle.gate_world.specs.declared.body_length.BodyLength.{BodyLength}
use Rattle.gate_world.specs.declared.refusal.Refusal.{Refusal}
use Rattle.gate_world.specs.declared.refusal.Refusal.TheVariants.{HeadNotReadable, HeadTooLong, VersionNotServed, MethodNotServed, HostField, BodyLengthFields, PathUnknown, MethodNotAllowed, ContentType, GrpcTimeout, PathValue, QueryParameter, UpstreamNotUsable, BodyFraming, BodyTooLong, BodyAt, MessageTooLong, NoMemory}
use Rattle.http1_requests.specs.HeadEnd.{head_lines}
use Rattle.http1_requests.specs.GrammarReading.{head_in}
use Rattle.http1_requests.specs.HeadJudgement.{Judgement, Refused, Served, headers_of, hosts, is_unserved_method, body_length, with_length, judge_head, judge_read, has_many_fields, judgement}
use Rattle.http1_requests.specs.HeadCauses.{IsRead, IsRefusedFor, IsServed, HasRank}
use Rattle.http1_requests.proofs.GrammarLaw.{head_read, head_reads}
use Rattle.http1_requests.proofs.LineLemmas.{head_lines_print_request}

-- what a judgement says of the bytes
abbrev pub Describes : List ℕ → Judgement → Type 0
Describes bytes (Refused r) = IsRefusedFor bytes r
Describes bytes (Served head) = IsServed bytes head

-- how many lines a head has that is read
pub lines_of_read : (bytes : List ℕ) (h : RequestHead) → ReadsRequest bytes h []
    → head_lines bytes ≡ length h.fields + 2
lines_of_read bytes h x = ap head_lines (x.1 ∙ append-nil (print_request h)) ∙ head_lines_print_request h x.0

-- a head that is read and has few lines has few fields
pub few_fields : (bytes : List ℕ) (h : RequestHead) → ReadsRequest bytes h [] → has_many_fields bytes ≡ false
    → length h.fields ≤ 64
few_fields bytes h x few = by (cases_lt 64 (length h.fields))
  where
    both : {t : Bool} → t ≡ false → t ≡ true → ⊥
    both e f = absurd (cc)

    by : (64 < length h.fields) ⊎ (length h.fields ≤ 64) → length h.fields ≤ 64
    by (inr few) = few
    by (inl more) =
        let many : 66 < head_lines bytes = omega (arith, lines_of_read bytes h x, more) in
        absurd (both few (lt-ltb _ _ many))

-- and the other way round
pub few_lines : (bytes : List ℕ) (h : RequestHead) → IsRead bytes h → has_many_fields bytes ≡ false
few_lines bytes h r = le-ltb _ _ (omega (arith, lines_of_read bytes h r.0, r.1))

-- HTTP/1.0 or HTTP/1.1
current : (m : ℕ) → m ≤ 1 → (m == 0) ≡ false → m ≡ 1
current zero l e = absurd (cc)
current (suc zero) l e = refl
current (suc (suc m)) l e = absurd (omega (arith, l))

-- a head that is read, by its tests
judged : (bytes : List ℕ) (h : RequestHead) → IsRead bytes h → (m u o : Bool) (l : Option BodyLength)
    → (h.minor == 0) ≡ m → is_unserved_method h.method ≡ u → (hosts (headers_of h) == 1) ≡ o
    → body_length (headers_of h) ≡ l
    → Describes bytes (if m then Refused VersionNotServed else
    (if u then Refused MethodNotServed else (if not o then Refused HostField else with_length h l)))
judged bytes h r true u o l em eu eo el = (h, r, eqb-true _ _ em)
judged bytes h r false true o l em eu eo el = (h, (r, current h.minor r.0.0.minor em), eu)
judged bytes h r false false false l em eu eo el =
    (h, ((r, current h.minor r.0.0.minor em), eu), eqb-false _ _ eo)
judged bytes h r false false true None em eu eo el =
    (h, (((r, current h.minor r.0.0.minor em), eu), eqb-true _ _ eo), el)
judged bytes h r false false true (Some body) em eu eo el =
    (h, (((r, current h.minor r.0.0.minor em), eu), eqb-true _ _ eo), body, el, refl)

-- no head is read where none is found
none_read : (bytes : List ℕ) → head_in bytes ≡ None → (h : RequestHead) → ¬ (ReadsRequest bytes h [])
none_read bytes e h x = absurd (apart_from (head_in bytes) e (head_read bytes h x))
  where
    apart_from : (y : Option RequestHead) → y ≡ None → y ≡ Some h → ⊥
    apart_from y a b = absurd (cc)

-- each judgement says what holds of the bytes
pub describes : (bytes : List ℕ) → Describes bytes (judgement bytes)
describes bytes = by (has_many_fields bytes) refl (head_in bytes) refl
  where
    by : (t : Bool) → has_many_fields bytes ≡ t → (x : Option RequestHead) → head_in bytes ≡ x
        → Describes bytes (if t then Refused HeadTooLong else judge_read x)
    by true e x f = e
    by false e None f = (e, none_read bytes f)
    by false e (Some h) f =
        let read = head_reads bytes h f in
        judged bytes h (read, few_fields bytes h read e) _ _ _ _ refl refl refl refl

-- the judgement of a head that is read
judgement_read : (bytes : List ℕ) (h : RequestHead) → IsRead bytes h → judgement bytes ≡ judge_head h
judgement_read bytes h r = rw (few_lines bytes h r, head_read bytes h r.0) refl

-- the judgement of bytes with a cause
pub judgement_refused : (bytes : List ℕ) (r : Refusal) → IsRefusedFor bytes r → judgement bytes ≡ Refused r
judgement_refused bytes HeadNotReadable c = by (head_in bytes) refl
  where
    by : (x : Option RequestHead) → head_in bytes ≡ x → judgement bytes ≡ Refused HeadNotReadable
    by None e = rw (c.0, e) refl
    by (Some h) e = absurd (c.1 h (head_reads bytes h e))
judgement_refused bytes HeadTooLong c = rw c refl
judgement_refused bytes VersionNotServed c = judgement_read bytes c.0 c.1 ∙ rw c.2 refl
judgement_refused bytes MethodNotServed c = judgement_read bytes c.0 c.1.0 ∙ rw (c.1.1, c.2) refl
judgement_refused bytes HostField c =
    judgement_read bytes c.0 c.1.0.0 ∙ rw (c.1.0.1, c.1.1, ne_eqb _ _ c.2) refl
judgement_refused bytes BodyLengthFields c =
    judgement_read bytes c.0 c.1.0.0.0 ∙ rw (c.1.0.0.1, c.1.0.1, c.1.1, c.2) refl
judgement_refused bytes PathUnknown c = absurd c
judgement_refused bytes MethodNotAllowed c = absurd c
judgement_refused bytes ContentType c = absurd c
judgement_refused bytes GrpcTimeout c = absurd c
judgement_refused bytes (PathValue n f) c = absurd c
judgement_refused bytes (QueryParameter n f) c = absurd c
judgement_refused bytes UpstreamNotUsable c = absurd c
judgement_refused bytes BodyFraming c = absurd c
judgement_refused bytes BodyTooLong c = absurd c
judgement_refused bytes (BodyAt n f) c = absurd c
judgement_refused bytes MessageTooLong c = absurd c
judgement_refused bytes NoMemory c = absurd c

-- the judgement of bytes that are served
pub judgement_served : (bytes : List ℕ) (head : MessageHead) → IsServed bytes head → judgement bytes ≡ Served head
judgement_served bytes head c =
    judgement_read bytes c.0 c.1.0.0.0
    ∙ rw (c.1.0.0.1, c.1.0.1, c.1.1, c.3) (ap (λ (x : MessageHead). Served x) (sym c.4))

-- a refusal of a head is one of the first six
pub refusal_ranks : (bytes : List ℕ) (r : Refusal) → IsRefusedFor bytes r → (n : ℕ) × HasRank n r × (n ≤ 6)
refusal_ranks bytes HeadNotReadable c = (1, refl, omega arith)
refusal_ranks bytes HeadTooLong c = (2, refl, omega arith)
refusal_ranks bytes VersionNotServed c = (3, refl, omega arith)
refusal_ranks bytes MethodNotServed c = (4, refl, omega arith)
refusal_ranks bytes HostField c = (5, refl, omega arith)
refusal_ranks bytes BodyLengthFields c = (6, refl, omega arith)
refusal_ranks bytes PathUnknown c = absurd c
refusal_ranks bytes MethodNotAllowed c = absurd c
refusal_ranks bytes ContentType c = absurd c
refusal_ranks bytes GrpcTimeout c = absurd c
refusal_ranks bytes (PathValue n f) c = absurd c
refusal_ranks bytes (QueryParameter n f) c = absurd c
refusal_ranks bytes UpstreamNotUsable c = absurd c
refusal_ranks bytes BodyFraming c = absurd c
refusal_ranks bytes BodyTooLong c = absurd c
refusal_ranks bytes (BodyAt n f) c = absurd c
refusal_ranks bytes MessageTooLong c = absurd c
refusal_ranks bytes NoMemory c = absurd c
