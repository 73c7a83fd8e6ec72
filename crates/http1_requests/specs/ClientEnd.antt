-- What the end of a client means behind bytes of its connection (RFC 9112, sections 8 and 9.3): it is between requests,
-- in a head or the empty lines before one, in a body, or behind bytes that were refused.
use Rattle.std.specs.Prelude.{◌≡◌, ◌<◌, ℕ, zero, suc, false, List, [], ◌∷◌, length, ⊤}
use Rattle.gate_world.specs.MessageHead.{MessageHead}
use Rattle.http1_requests.specs.HeadEnd.{head_size, NoEnd, cut_at}
use Rattle.http1_requests.specs.ClientRequests.{Open, Ended, Broken, ClientRequest, RefusedHead, Request, LastRequest, Followed, first_request}
use Rattle.http1_requests.specs.RequestGrowth.{IsFinal}

-- where a client stops
pub data Stop : Type 0 where
  BetweenRequests InHead InBody BehindRefusal : Stop

-- so many requests have ended at the front of the bytes, and this stands behind them
abbrev pub EndedBefore : ℕ → List ℕ → List ℕ → Type 0
EndedBefore zero bytes rest = bytes ≡ rest
EndedBefore (suc k) bytes rest =
    (q : ClientRequest) × (next : List ℕ) × (first_request false bytes ≡ Followed q next) × EndedBefore k next rest

-- bytes in which no request ends are such a stop
abbrev pub IsStopAt : List ℕ → Stop → Type 0
IsStopAt rest BetweenRequests = rest ≡ []
IsStopAt rest InHead = (0 < length rest) × (cut_at head_size rest ≡ NoEnd)
IsStopAt rest InBody =
    (head : MessageHead) × (body : List ℕ) × (first_request false rest ≡ LastRequest (Request head body Open))
IsStopAt rest BehindRefusal =
    (q : ClientRequest) × (first_request false rest ≡ LastRequest q) × IsFinal q

-- where a client stops behind these bytes
abbrev pub StopsAt : List ℕ → Stop → Type 0
StopsAt bytes stop = (k : ℕ) × (rest : List ℕ) × EndedBefore k bytes rest × IsStopAt rest stop

-- a request, where the client ends behind what has come of it: a body that goes on is broken
abbrev pub at_client_end : ClientRequest → ClientRequest
at_client_end (RefusedHead f) = RefusedHead f
at_client_end (Request head body Open) = Request head body Broken
at_client_end (Request head body Ended) = Request head body Ended
at_client_end (Request head body Broken) = Request head body Broken

-- the body of a request goes on
abbrev pub GoesOnStill : ClientRequest → Type 0
GoesOnStill (RefusedHead f) = ⊥
GoesOnStill (Request head body Open) = ⊤
GoesOnStill (Request head body Ended) = ⊥
GoesOnStill (Request head body Broken) = ⊥

-- the body of a request has ended
abbrev pub HasEnded : ClientRequest → Type 0
HasEnded (RefusedHead f) = ⊥
HasEnded (Request head body Open) = ⊥
HasEnded (Request head body Ended) = ⊤
HasEnded (Request head body Broken) = ⊥

-- each request but the last has ended, and this holds of the last; none is not enough
abbrev pub LastIs : (ClientRequest → Type 0) → List ClientRequest → Type 0
LastIs holds [] = ⊥
LastIs holds (q ∷ []) = holds q
LastIs holds (q ∷ r ∷ rs) = HasEnded q × LastIs holds (r ∷ rs)

-- each request has ended
abbrev pub AllEnded : List ClientRequest → Type 0
AllEnded [] = ⊤
AllEnded (q ∷ qs) = HasEnded q × AllEnded qs

-- what is told of a client that stops here
abbrev pub IsToldAt : Stop → List ClientRequest → Type 0
IsToldAt BetweenRequests qs = AllEnded qs
IsToldAt InHead qs = AllEnded qs
IsToldAt InBody qs = LastIs GoesOnStill qs
IsToldAt BehindRefusal qs = LastIs IsFinal qs
