-- What the client's end means: `laws::client_ends_are_told`.
use Rattle.std.proofs.Common.{◌≡◌, ℕ, zero, suc, ◌<◌, true, false, List, [], ◌∷◌, map, length, refl, sym, ap, ◌∙◌, subst, arith}
use Rattle.std.specs.Prelude.{⊤}
use Rattle.gate_world.specs.MessageHead.{MessageHead}
use Rattle.http1_requests.specs.HeadEnd.{head_size, Cut, NoEnd, TooLarge, Ends, cut_at}
use Rattle.http1_requests.specs.HeadJudgement.{Judgement, Refused, Served, judgement}
use Rattle.http1_requests.specs.ChunkedBody.{BodyEnd, GoesOn, Breaks, EndsBefore, body_of}
use Rattle.http1_requests.specs.ClientRequests.{Open, Ended, Broken, ClientRequest, RefusedHead, Request, FirstRequest, NoRequest, LastRequest, Followed, with_body, with_head, first_by, first_request, then_requests, requests_within, client_requests}
use Rattle.http1_requests.specs.RequestGrowth.{IsFinal}
use Rattle.http1_requests.specs.ClientEnd.{Stop, BetweenRequests, InHead, InBody, BehindRefusal, EndedBefore, IsStopAt, StopsAt, at_client_end, GoesOnStill, HasEnded, LastIs, AllEnded, IsToldAt}
use Rattle.http1_requests.proofs.RequestLemmas.{ShortFirst, first_request_shorter, client_requests_step}
use Rattle.http1_requests.proofs.FirstRequestLemmas.{first_missing, first_without_head}

-- ---- with the end and without it

-- what stands at the front, where the client ends behind it
abbrev first_at_end : FirstRequest → FirstRequest
first_at_end NoRequest = NoRequest
first_at_end (LastRequest q) = LastRequest (at_client_end q)
first_at_end (Followed q rest) = Followed (at_client_end q) rest

body_at_end : (head : MessageHead) (body : List ℕ) (o : BodyEnd)
    → with_body true head body o ≡ first_at_end (with_body false head body o)
body_at_end head body GoesOn = refl
body_at_end head body Breaks = refl
body_at_end head body (EndsBefore rest) = refl

head_at_end : (rest : List ℕ) (j : Judgement) → with_head true rest j ≡ first_at_end (with_head false rest j)
head_at_end rest (Refused f) = refl
head_at_end rest (Served head) =
    body_at_end head (body_of head.body rest).bytes (body_of head.body rest).over

cut_at_client_end : (c : Cut) → first_by true c ≡ first_at_end (first_by false c)
cut_at_client_end NoEnd = refl
cut_at_client_end TooLarge = refl
cut_at_client_end (Ends head rest) = head_at_end rest (judgement head)

requests_at_end : (k : ℕ) (bytes : List ℕ)
    → requests_within k true bytes ≡ map at_client_end (requests_within k false bytes)
unfolding requests_within
requests_at_end zero bytes = refl
requests_at_end (suc k) bytes =
    ap (then_requests (requests_within k true)) (cut_at_client_end (cut_at head_size bytes))
    ∙ by (first_request false bytes) (λ r. requests_at_end k r)
  where
    by : (f : FirstRequest)
        → ((r : List ℕ) → requests_within k true r ≡ map at_client_end (requests_within k false r))
        → then_requests (requests_within k true) (first_at_end f) ≡ map at_client_end
        (then_requests (requests_within k false) f)
    by NoRequest go = refl
    by (LastRequest q) go = refl
    by (Followed q rest) go = ap (λ (qs : List ClientRequest). at_client_end q ∷ qs) (go rest)

-- the client's end breaks the body that goes on, and is nothing else
pub client_requests_at_end : (bytes : List ℕ)
    → client_requests bytes true ≡ map at_client_end (client_requests bytes false)
unfolding client_requests
client_requests_at_end bytes = requests_at_end (suc (length bytes)) bytes

-- ---- where it stops

-- a request behind which there is none goes on or is final
abbrev LastStops : ClientRequest → Stop → Type 0
LastStops q InBody = GoesOnStill q
LastStops q BehindRefusal = IsFinal q
LastStops q BetweenRequests = ⊥
LastStops q InHead = ⊥

-- the last request of bytes stops one way
abbrev FirstStops : FirstRequest → Type 0
FirstStops NoRequest = ⊤
FirstStops (LastRequest q) = (stop : Stop) × LastStops q stop
FirstStops (Followed q rest) = HasEnded q

body_stops : (head : MessageHead) (body : List ℕ) (o : BodyEnd) → FirstStops (with_body false head body o)
body_stops head body GoesOn = (InBody, tt)
body_stops head body Breaks = (BehindRefusal, tt)
body_stops head body (EndsBefore rest) = tt

-- each first request stops one way
first_stops : (bytes : List ℕ) → FirstStops (first_request false bytes)
first_stops bytes = by (cut_at head_size bytes)
  where
    head : (rest : List ℕ) (j : Judgement) → FirstStops (with_head false rest j)
    head rest (Refused f) = (BehindRefusal, tt)
    head rest (Served h) = body_stops h (body_of h.body rest).bytes (body_of h.body rest).over

    by : (c : Cut) → FirstStops (first_by false c)
    by NoEnd = tt
    by TooLarge = (BehindRefusal, tt)
    by (Ends h rest) = head rest (judgement h)

-- one request more in front
one_more : (bytes rest : List ℕ) (q : ClientRequest) (stop : Stop) → first_request false bytes ≡ Followed q rest
    → StopsAt rest stop → StopsAt bytes stop
one_more bytes rest q stop e s = (suc s.0, s.1, (q, rest, e, s.2), s.3)

-- a request that goes on or is final is a stop
last_stop : (bytes : List ℕ) (q : ClientRequest) (stop : Stop) → first_request false bytes ≡ LastRequest q
    → LastStops q stop → IsStopAt bytes stop
last_stop bytes (RefusedHead f) InBody e h = absurd h
last_stop bytes (Request head body Open) InBody e h = (head, body, e)
last_stop bytes (Request head body Ended) InBody e h = absurd h
last_stop bytes (Request head body Broken) InBody e h = absurd h
last_stop bytes q BehindRefusal e h = (q, e, h)
last_stop bytes q BetweenRequests e h = absurd h
last_stop bytes q InHead e h = absurd h

-- bytes without a request are none, or stop in a head
none_stop : (bytes : List ℕ) → first_request false bytes ≡ NoRequest → (stop : Stop) × IsStopAt bytes stop
none_stop [] e = (BetweenRequests, refl)
none_stop (b ∷ bytes) e = (InHead, (omega arith, first_missing false (b ∷ bytes) e))

-- a client stops somewhere
some_stop : (k : ℕ) (bytes : List ℕ) → length bytes < k → (stop : Stop) × StopsAt bytes stop
some_stop zero bytes fits = absurd (omega arith)
some_stop (suc k) bytes fits =
    by (first_request false bytes) refl (first_stops bytes) (first_request_shorter false bytes)
    (λ r h. some_stop k r (omega (arith, h, fits)))
  where
    here : (s : (stop : Stop) × IsStopAt bytes stop) → (stop : Stop) × StopsAt bytes stop
    here s = (s.0, (0, bytes, refl, s.1))

    by : (f : FirstRequest) → first_request false bytes ≡ f → FirstStops f → ShortFirst f (length bytes)
        → ((r : List ℕ) → length r < length bytes → (stop : Stop) × StopsAt r stop)
        → (stop : Stop) × StopsAt bytes stop
    by NoRequest e s h go = here (none_stop bytes e)
    by (LastRequest q) e s h go = here (s.0, last_stop bytes q s.0 e s.1)
    by (Followed q rest) e s h go =
        let behind = go rest h.1 in (behind.0, one_more bytes rest q behind.0 e behind.1)

-- a client stops somewhere
pub stops : (bytes : List ℕ) → (stop : Stop) × StopsAt bytes stop
stops bytes = some_stop (suc (length bytes)) bytes (omega arith)

-- ---- what is told of it

no_head : cut_at head_size [] ≡ NoEnd
unfolding head_size
no_head = refl

-- no request is in no bytes
no_request : first_request false [] ≡ NoRequest
no_request = first_without_head false [] no_head

-- a request that has ended, before those that are told
told_behind : (q : ClientRequest) (stop : Stop) (qs : List ClientRequest) → HasEnded q → IsToldAt stop qs
    → IsToldAt stop (q ∷ qs)
told_behind q BetweenRequests qs e h = (e, h)
told_behind q InHead qs e h = (e, h)
told_behind q InBody [] e h = absurd h
told_behind q InBody (r ∷ rs) e h = (e, h)
told_behind q BehindRefusal [] e h = absurd h
told_behind q BehindRefusal (r ∷ rs) e h = (e, h)

-- what a stop tells
told_here : (rest : List ℕ) (stop : Stop) → IsStopAt rest stop → IsToldAt stop (client_requests rest false)
told_here rest BetweenRequests s =
    subst (λ (r : List ℕ). AllEnded (client_requests r false)) (sym s)
    (subst AllEnded (sym (client_requests_step false []))
    (subst (λ (f : FirstRequest). AllEnded (then_requests (λ rest. client_requests rest false) f)) (sym no_request) tt))
told_here rest InHead s =
    subst AllEnded (sym (client_requests_step false rest))
    (subst (λ (f : FirstRequest). AllEnded (then_requests (λ rest. client_requests rest false) f))
    (sym (first_without_head false rest s.1)) tt)
told_here rest InBody s =
    subst (LastIs GoesOnStill) (sym (client_requests_step false rest))
    (subst (λ (f : FirstRequest). LastIs GoesOnStill (then_requests (λ rest. client_requests rest false) f))
    (sym s.2) tt)
told_here rest BehindRefusal s =
    subst (LastIs IsFinal) (sym (client_requests_step false rest))
    (subst (λ (f : FirstRequest). LastIs IsFinal (then_requests (λ rest. client_requests rest false) f))
    (sym s.1) s.2)

-- what follows a request has it ended
followed_ended : (bytes rest : List ℕ) (q : ClientRequest) → first_request false bytes ≡ Followed q rest → HasEnded q
followed_ended bytes rest q e = subst FirstStops e (first_stops bytes)

told_within : (k : ℕ) (bytes rest : List ℕ) (stop : Stop) → EndedBefore k bytes rest → IsStopAt rest stop
    → IsToldAt stop (client_requests bytes false)
told_within zero bytes rest stop before s =
    subst (λ (b : List ℕ). IsToldAt stop (client_requests b false)) (sym before) (told_here rest stop s)
told_within (suc k) bytes rest stop before s =
    subst (IsToldAt stop) (sym (client_requests_step false bytes))
    (subst (λ (f : FirstRequest). IsToldAt stop (then_requests (λ r. client_requests r false) f)) (sym before.2)
    (told_behind before.0 stop (client_requests before.1 false) (followed_ended bytes before.1 before.0 before.2)
    (told_within k before.1 rest stop before.3 s)))

-- what is told of a client that stops
pub told_at_stop : (bytes : List ℕ) (stop : Stop) → StopsAt bytes stop → IsToldAt stop (client_requests bytes false)
told_at_stop bytes stop s = told_within s.0 bytes s.1 stop s.2 s.3

-- ---- one stop alone

same_last : (q r : ClientRequest) → ◌≡◌ {A = FirstRequest} (LastRequest q) (LastRequest r) → q ≡ r
same_last q r e = cc

same_next : (q r : ClientRequest) (a b : List ℕ) → ◌≡◌ {A = FirstRequest} (Followed q a) (Followed r b) → a ≡ b
same_next q r a b e = cc

-- which first requests are a stop
abbrev StopOf : FirstRequest → List ℕ → Stop → Type 0
StopOf NoRequest rest BetweenRequests = rest ≡ []
StopOf NoRequest rest InHead = 0 < length rest
StopOf NoRequest rest InBody = ⊥
StopOf NoRequest rest BehindRefusal = ⊥
StopOf (LastRequest q) rest stop = LastStops q stop
StopOf (Followed q next) rest stop = ⊥

stop_of : (rest : List ℕ) (stop : Stop) → IsStopAt rest stop → StopOf (first_request false rest) rest stop
stop_of rest BetweenRequests s =
    subst (λ (r : List ℕ). StopOf (first_request false r) r BetweenRequests) (sym s)
    (subst (λ (f : FirstRequest). StopOf f [] BetweenRequests) (sym no_request) refl)
stop_of rest InHead s =
    subst (λ (f : FirstRequest). StopOf f rest InHead) (sym (first_without_head false rest s.1)) s.0
stop_of rest InBody s = subst (λ (f : FirstRequest). StopOf f rest InBody) (sym s.2) tt
stop_of rest BehindRefusal s = subst (λ (f : FirstRequest). StopOf f rest BehindRefusal) (sym s.1) s.2

empty_or_not : (rest : List ℕ) → rest ≡ [] → 0 < length rest → ⊥
empty_or_not rest e h = omega (arith, h, ap (λ (w : List ℕ). length w) e)

last_one : (q : ClientRequest) (a b : Stop) → LastStops q a → LastStops q b → a ≡ b
last_one q InBody InBody x y = refl
last_one q BehindRefusal BehindRefusal x y = refl
last_one (RefusedHead f) InBody BehindRefusal x y = absurd x
last_one (Request h d Open) InBody BehindRefusal x y = absurd y
last_one (Request h d Ended) InBody BehindRefusal x y = absurd x
last_one (Request h d Broken) InBody BehindRefusal x y = absurd x
last_one (RefusedHead f) BehindRefusal InBody x y = absurd y
last_one (Request h d Open) BehindRefusal InBody x y = absurd x
last_one (Request h d Ended) BehindRefusal InBody x y = absurd x
last_one (Request h d Broken) BehindRefusal InBody x y = absurd y
last_one q BetweenRequests b x y = absurd x
last_one q InHead b x y = absurd x
last_one q InBody BetweenRequests x y = absurd y
last_one q InBody InHead x y = absurd y
last_one q BehindRefusal BetweenRequests x y = absurd y
last_one q BehindRefusal InHead x y = absurd y

one_of : (f : FirstRequest) (rest : List ℕ) (a b : Stop) → StopOf f rest a → StopOf f rest b → a ≡ b
one_of NoRequest rest BetweenRequests BetweenRequests x y = refl
one_of NoRequest rest BetweenRequests InHead x y = absurd (empty_or_not rest x y)
one_of NoRequest rest InHead BetweenRequests x y = absurd (empty_or_not rest y x)
one_of NoRequest rest InHead InHead x y = refl
one_of NoRequest rest InBody b x y = absurd x
one_of NoRequest rest BehindRefusal b x y = absurd x
one_of NoRequest rest BetweenRequests InBody x y = absurd y
one_of NoRequest rest BetweenRequests BehindRefusal x y = absurd y
one_of NoRequest rest InHead InBody x y = absurd y
one_of NoRequest rest InHead BehindRefusal x y = absurd y
one_of (LastRequest q) rest a b x y = last_one q a b x y
one_of (Followed q next) rest a b x y = absurd x

-- bytes at which a client stops have no request that has ended at their front
not_followed : (bytes next : List ℕ) (q : ClientRequest) (stop : Stop) → IsStopAt bytes stop
    → first_request false bytes ≡ Followed q next → ⊥
not_followed bytes next q stop s e =
    subst (λ (f : FirstRequest). StopOf f bytes stop) e (stop_of bytes stop s)

one_within : (j k : ℕ) (bytes x y : List ℕ) (a b : Stop) → EndedBefore j bytes x → IsStopAt x a
    → EndedBefore k bytes y → IsStopAt y b → a ≡ b
one_within zero zero bytes x y a b u s v t =
    let first = subst (λ (r : List ℕ). IsStopAt r a) (sym u) s in
    let second = subst (λ (r : List ℕ). IsStopAt r b) (sym v) t in
    one_of (first_request false bytes) bytes a b (stop_of bytes a first) (stop_of bytes b second)
one_within zero (suc k) bytes x y a b u s v t =
    absurd (not_followed bytes v.1 v.0 a (subst (λ (r : List ℕ). IsStopAt r a) (sym u) s) v.2)
one_within (suc j) zero bytes x y a b u s v t =
    absurd (not_followed bytes u.1 u.0 b (subst (λ (r : List ℕ). IsStopAt r b) (sym v) t) u.2)
one_within (suc j) (suc k) bytes x y a b u s v t =
    let same : u.1 ≡ v.1 = same_next u.0 v.0 u.1 v.1 (sym u.2 ∙ v.2) in
    one_within j k u.1 x y a b u.3 s (subst (λ (r : List ℕ). EndedBefore k r y) (sym same) v.3) t

-- a client stops in one way
pub one_stop : (bytes : List ℕ) (a b : Stop) → StopsAt bytes a → StopsAt bytes b → a ≡ b
one_stop bytes a b x y = one_within x.0 y.0 bytes x.1 y.1 a b x.2 x.3 y.2 y.3
