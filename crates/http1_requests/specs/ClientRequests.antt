-- The requests of a client's bytes on one connection, in order (RFC 9112, sections 2, 6.3, 9.3 and 9.3.2), by whole
-- lists of bytes: how they came in pieces is no matter.
use Rattle.std.specs.Prelude.{ℕ, zero, suc, Bool, List, [], ◌∷◌, length, if◌then◌else◌}
use Rattle.gate_world.specs.MessageHead.{MessageHead}
use Rattle.gate_world.specs.declared.refusal.Refusal.{Refusal}
use Rattle.gate_world.specs.declared.refusal.Refusal.TheVariants.{HeadTooLong}
use Rattle.http1_requests.specs.HeadEnd.{head_size, Cut, NoEnd, TooLarge, Ends, cut_at}
use Rattle.http1_requests.specs.HeadJudgement.{Judgement, Refused, Served, judgement}
use Rattle.http1_requests.specs.ChunkedBody.{BodyEnd, GoesOn, Breaks, EndsBefore, Body, body_of}

-- a body that goes on, one that has ended, and one whose framing is broken
pub data BodyState : Type 0 where
  Open Ended Broken : BodyState

-- a head that is refused, or a head, the bytes of its body so far and what is known of the body's end. A broken
-- framing is seen behind those bytes: their number is its place.
pub data ClientRequest : Type 0 where
  RefusedHead : (refusal : Refusal) → ClientRequest
  Request : (head : MessageHead) (body : List ℕ) (state : BodyState) → ClientRequest

-- what stands at the front of bytes that begin with a head: no whole head, a request behind which there is none, or a
-- request that has ended and what follows it
pub data FirstRequest : Type 0 where
  NoRequest : FirstRequest
  LastRequest : (request : ClientRequest) → FirstRequest
  Followed : (request : ClientRequest) (rest : List ℕ) → FirstRequest

-- a head and the body behind it; where the client ends inside the body, its framing is broken
abbrev pub with_body : Bool → MessageHead → List ℕ → BodyEnd → FirstRequest
with_body ended head body GoesOn = LastRequest (Request head body (if ended then Broken else Open))
with_body ended head body Breaks = LastRequest (Request head body Broken)
with_body ended head body (EndsBefore rest) = Followed (Request head body Ended) rest

-- the same, of a body
abbrev pub with_whole_body : Bool → MessageHead → Body → FirstRequest
with_whole_body ended head body = with_body ended head body.bytes body.over

-- a head that is judged, and the bytes behind it
abbrev pub with_head : Bool → List ℕ → Judgement → FirstRequest
with_head ended rest (Refused refusal) = LastRequest (RefusedHead refusal)
with_head ended rest (Served head) = with_whole_body ended head (body_of head.body rest)

-- a head that is cut off; where the client ends inside a head, that is no request
abbrev pub first_by : Bool → Cut → FirstRequest
first_by ended NoEnd = NoRequest
first_by ended TooLarge = LastRequest (RefusedHead HeadTooLong)
first_by ended (Ends head rest) = with_head ended rest (judgement head)

-- the request at the front of bytes, where the client has ended behind them or not
abbrev pub first_request : Bool → List ℕ → FirstRequest
first_request ended bytes = first_by ended (cut_at head_size bytes)

-- a request, and those of the bytes behind it
abbrev pub then_requests : (List ℕ → List ClientRequest) → FirstRequest → List ClientRequest
then_requests go NoRequest = []
then_requests go (LastRequest request) = request ∷ []
then_requests go (Followed request rest) = request ∷ go rest

-- the requests of bytes, at most k
unfoldable pub requests_within : ℕ → Bool → List ℕ → List ClientRequest
requests_within zero ended bytes = []
requests_within (suc k) ended bytes = then_requests (requests_within k ended) (first_request ended bytes)

-- the requests of a client's bytes, where it has ended behind them or not; each takes a byte at least
unfoldable pub client_requests : List ℕ → Bool → List ClientRequest
client_requests bytes ended = requests_within (suc (length bytes)) ended bytes
