-- Requests that were shown stay, whatever follows: `laws`.
use Rattle.std.proofs.Common.{◌≡◌, ℕ, zero, suc, ◌+◌, ◌<◌, Bool, false, List, [], ◌∷◌, ◌++◌, length, refl, sym, ap, ◌∙◌, subst, arith, append-nil, length-append, if◌then◌else◌}
use Rattle.std.specs.Prelude.{⊤}
use Rattle.gate_world.specs.MessageHead.{MessageHead}
use Rattle.http1_requests.specs.HeadEnd.{head_size, Cut, NoEnd, TooLarge, Ends, cut_at}
use Rattle.http1_requests.specs.HeadJudgement.{Judgement, Refused, Served, judgement}
use Rattle.http1_requests.specs.ChunkedBody.{BodyEnd, GoesOn, Breaks, EndsBefore, Body, body_of}
use Rattle.http1_requests.specs.ClientRequests.{Open, Ended, Broken, ClientRequest, RefusedHead, Request, FirstRequest, NoRequest, LastRequest, Followed, with_body, with_whole_body, with_head, first_by, first_request, then_requests, requests_within, client_requests}
use Rattle.http1_requests.specs.RequestGrowth.{GrowsTo, Later, ShowsGrown, LastGrowsTo, FirstGrowsBy, IsFinal, EndsFinal}
use Rattle.http1_requests.specs.PartGrowth.{GrowsCut}
use Rattle.http1_requests.proofs.GrowLemmas.{head_size_grows}
use Rattle.http1_requests.proofs.CutLemmas.{head_size_within, cut_at_grows}
use Rattle.http1_requests.proofs.BodyLemmas.{ShortCut, cut_at_shorter, ShortEnd, GrowsBy, body_grows, body_shorter}

-- the body has ended
abbrev IsEnded : ClientRequest → Type 0
IsEnded (RefusedHead f) = ⊥
IsEnded (Request h body Open) = ⊥
IsEnded (Request h body Ended) = ⊤
IsEnded (Request h body Broken) = ⊥

-- a request that something stands behind has ended, and that is shorter
abbrev pub ShortFirst : FirstRequest → ℕ → Type 0
ShortFirst NoRequest k = ⊤
ShortFirst (LastRequest q) k = ⊤
ShortFirst (Followed q rest) k = IsEnded q × (length rest < k)

-- a request is a growth of itself
grows_self : (q : ClientRequest) → GrowsTo q q
grows_self (RefusedHead f) = refl
grows_self (Request h body Ended) = refl
grows_self (Request h body Broken) = refl
grows_self (Request h body Open) = ([], Open, ap (λ (b : List ℕ). Request h b Open) (sym (append-nil body)))

-- a body that goes on is shown by each longer one
open_shows : (ended : Bool) (h : MessageHead) (body new x : List ℕ) (o : BodyEnd) → new ≡ body ++ x
    → ShowsGrown (Request h body Open) (with_body ended h new o)
open_shows ended h body new x GoesOn e =
    (x, (if ended then Broken else Open), ap (λ (b : List ℕ). Request h b (if ended then Broken else Open)) e)
open_shows ended h body new x Breaks e = (x, Broken, ap (λ (b : List ℕ). Request h b Broken) e)
open_shows ended h body new x (EndsBefore rest) e = (x, Ended, ap (λ (b : List ℕ). Request h b Ended) e)

-- a head with a body that grows
body_first : (ended : Bool) (h : MessageHead) (o : BodyEnd) (d : List ℕ) (new : Body) (more : List ℕ)
    → GrowsBy o d new more → FirstGrowsBy (with_body false h d o) (with_whole_body ended h new) more
body_first ended h GoesOn d new more g = open_shows ended h d new.bytes g.0 new.over g.1
body_first ended h Breaks d new more g = ap (with_whole_body ended h) g
body_first ended h (EndsBefore rest) d new more g = ap (with_whole_body ended h) g

-- a head that is judged, with more behind it
head_first : (ended : Bool) (j : Judgement) (rest more : List ℕ)
    → FirstGrowsBy (with_head false rest j) (with_head ended (rest ++ more) j) more
head_first ended (Refused f) rest more = refl
head_first ended (Served h) rest more =
    let old = body_of h.body rest in
    body_first ended h old.over old.bytes (body_of h.body (rest ++ more)) more (body_grows h.body rest more)

-- a head that is cut off, with more behind it
cut_first : (ended : Bool) (c e : Cut) (more : List ℕ) → GrowsCut c e more
    → FirstGrowsBy (first_by false c) (first_by ended e) more
cut_first ended NoEnd e more g = tt
cut_first ended TooLarge e more g = ap (first_by ended) g
cut_first ended (Ends head rest) e more g =
    subst (λ (n : Cut). FirstGrowsBy (with_head false rest (judgement head)) (first_by ended n) more) (sym g)
    (head_first ended (judgement head) rest more)

-- the request at the front grows as more comes
pub first_request_grows : (ended : Bool) (bytes more : List ℕ)
    → FirstGrowsBy (first_request false bytes) (first_request ended (bytes ++ more)) more
first_request_grows ended bytes more =
    cut_first ended _ _ more (cut_at_grows head_size head_size_grows head_size_within bytes more)

-- what stands behind the request at the front is shorter
pub first_request_shorter : (ended : Bool) (bytes : List ℕ) → ShortFirst (first_request ended bytes) (length bytes)
first_request_shorter ended bytes = by (cut_at head_size bytes) (cut_at_shorter head_size head_size_within bytes)
  where
    ends : (h : MessageHead) (d : List ℕ) (o : BodyEnd) (k : ℕ) → ShortEnd o k → k < length bytes
        → ShortFirst (with_body ended h d o) (length bytes)
    ends h d GoesOn k e l = tt
    ends h d Breaks k e l = tt
    ends h d (EndsBefore rest) k e l = (tt, omega (arith, e, l))

    head : (j : Judgement) (rest : List ℕ) → length rest < length bytes
        → ShortFirst (with_head ended rest j) (length bytes)
    head (Refused f) rest l = tt
    head (Served h) rest l =
        ends h (body_of h.body rest).bytes (body_of h.body rest).over (length rest) (body_shorter h.body rest) l

    by : (c : Cut) → ShortCut c (length bytes) → ShortFirst (first_by ended c) (length bytes)
    by NoEnd l = tt
    by TooLarge l = tt
    by (Ends h rest) l = head (judgement h) rest l

-- a request that is shown is the first of the list
shown_later : (ended : Bool) (k : ℕ) (q : ClientRequest) (e : FirstRequest) → ShowsGrown q e
    → Later (q ∷ []) (then_requests (requests_within k ended) e)
shown_later ended k q NoRequest s = absurd s
shown_later ended k q (LastRequest r) s = (s, tt)
shown_later ended k q (Followed r rest) s = (s, tt)

-- the last request is the first of the list of more bytes
last_later : (ended : Bool) (k : ℕ) (q : ClientRequest) (e : FirstRequest) → LastGrowsTo q e
    → Later (q ∷ []) (then_requests (requests_within k ended) e)
last_later ended k (RefusedHead f) e s =
    subst (λ (n : FirstRequest). Later (RefusedHead f ∷ []) (then_requests (requests_within k ended) n)) (sym s)
    (refl, tt)
last_later ended k (Request h body Open) e s = shown_later ended k (Request h body Open) e s
last_later ended k (Request h body Ended) e s = absurd s
last_later ended k (Request h body Broken) e s =
    subst (λ (n : FirstRequest). Later (Request h body Broken ∷ []) (then_requests (requests_within k ended) n)) (sym s)
    (refl, tt)

-- requests stay as more comes
requests_within_grow : (ended : Bool) (j k : ℕ) (bytes more : List ℕ) → length bytes < j
    → length bytes + length more < k → Later (requests_within j false bytes) (requests_within k ended (bytes ++ more))
unfolding requests_within
requests_within_grow ended zero k bytes more enough fits = absurd (omega arith)
requests_within_grow ended (suc j) zero bytes more enough fits = absurd (omega arith)
requests_within_grow ended (suc j) (suc k) bytes more enough fits =
    by (first_request false bytes) (first_request ended (bytes ++ more)) (first_request_grows ended bytes more)
    (first_request_shorter false bytes)
    (λ r h. requests_within_grow ended j k r more (omega (arith, h, enough)) (omega (arith, h, fits)))
  where
    by : (f e : FirstRequest) → FirstGrowsBy f e more → ShortFirst f (length bytes)
        → ((r : List ℕ) → length r < length bytes
        → Later (requests_within j false r) (requests_within k ended (r ++ more)))
        → Later (then_requests (requests_within j false) f) (then_requests (requests_within k ended) e)
    by NoRequest e g h go = tt
    by (LastRequest q) e g h go = last_later ended k q e g
    by (Followed q rest) e g h go =
        subst (λ (n : FirstRequest). Later (q ∷ requests_within j false rest)
        (then_requests (requests_within k ended) n))
        (sym g) (grows_self q, go rest h.1)

-- requests stay as more comes
pub client_requests_grow : (bytes more : List ℕ) (ended : Bool)
    → Later (client_requests bytes false) (client_requests (bytes ++ more) ended)
unfolding client_requests
client_requests_grow bytes more ended =
    requests_within_grow ended (suc (length bytes)) (suc (length (bytes ++ more))) bytes more (omega arith)
    (omega (arith, length-append bytes more))

-- a bound that is large enough is none
same_within : (ended : Bool) (j k : ℕ) (bytes : List ℕ) → length bytes < j → length bytes < k
    → requests_within j ended bytes ≡ requests_within k ended bytes
unfolding requests_within
same_within ended zero k bytes enough fits = absurd (omega arith)
same_within ended (suc j) zero bytes enough fits = absurd (omega arith)
same_within ended (suc j) (suc k) bytes enough fits =
    by (first_request ended bytes) (first_request_shorter ended bytes)
    (λ r h. same_within ended j k r (omega (arith, h, enough)) (omega (arith, h, fits)))
  where
    by : (f : FirstRequest) → ShortFirst f (length bytes)
        → ((r : List ℕ) → length r < length bytes → requests_within j ended r ≡ requests_within k ended r)
        → then_requests (requests_within j ended) f ≡ then_requests (requests_within k ended) f
    by NoRequest h go = refl
    by (LastRequest q) h go = refl
    by (Followed q rest) h go = ap (λ (rs : List ClientRequest). q ∷ rs) (go rest h.1)

-- the requests of bytes are the first and those behind it
pub client_requests_step : (ended : Bool) (bytes : List ℕ)
    → client_requests bytes ended ≡ then_requests (λ rest. client_requests rest ended) (first_request ended bytes)
unfolding client_requests requests_within
client_requests_step ended bytes = by (first_request ended bytes) (first_request_shorter ended bytes)
  where
    by : (f : FirstRequest) → ShortFirst f (length bytes)
        → then_requests (requests_within (length bytes) ended) f ≡ then_requests
        (λ rest. requests_within (suc (length rest)) ended rest) f
    by NoRequest h = refl
    by (LastRequest q) h = refl
    by (Followed q rest) h =
        ap (λ (rs : List ClientRequest). q ∷ rs)
        (same_within ended (length bytes) (suc (length rest)) rest h.1 (omega arith))

-- ---- final requests

-- a final request at the front is all that more bytes show
final_last : (q : ClientRequest) (e : FirstRequest) (go : List ℕ → List ClientRequest) → IsFinal q → LastGrowsTo q e
    → then_requests go e ≡ q ∷ []
final_last (RefusedHead f) e go final g = ap (then_requests go) g
final_last (Request h body Open) e go final g = absurd final
final_last (Request h body Ended) e go final g = absurd final
final_last (Request h body Broken) e go final g = ap (then_requests go) g

-- a request that has ended is not final
ended_before : (q : ClientRequest) (rs : List ClientRequest) → IsEnded q → EndsFinal (q ∷ rs) → EndsFinal rs
ended_before (RefusedHead f) [] ended final = absurd ended
ended_before (Request h body Open) [] ended final = absurd ended
ended_before (Request h body Ended) [] ended final = absurd final
ended_before (Request h body Broken) [] ended final = absurd ended
ended_before q (r ∷ rs) ended final = final

-- requests of which the last is final are all that more bytes show
requests_within_final : (ended : Bool) (j k : ℕ) (bytes more : List ℕ) → length bytes < j
    → length bytes + length more < k → EndsFinal (requests_within j false bytes)
    → requests_within k ended (bytes ++ more) ≡ requests_within j false bytes
unfolding requests_within
requests_within_final ended zero k bytes more enough fits final = absurd (omega arith)
requests_within_final ended (suc j) zero bytes more enough fits final = absurd (omega arith)
requests_within_final ended (suc j) (suc k) bytes more enough fits final =
    by (first_request false bytes) (first_request ended (bytes ++ more)) (first_request_grows ended bytes more)
    (first_request_shorter false bytes)
    (λ r h. requests_within_final ended j k r more (omega (arith, h, enough)) (omega (arith, h, fits))) final
  where
    by : (f e : FirstRequest) → FirstGrowsBy f e more → ShortFirst f (length bytes)
        → ((r : List ℕ) → length r < length bytes → EndsFinal (requests_within j false r)
        → requests_within k ended (r ++ more) ≡ requests_within j false r)
        → EndsFinal (then_requests (requests_within j false) f)
        → then_requests (requests_within k ended) e ≡ then_requests (requests_within j false) f
    by NoRequest e g h go final = absurd final
    by (LastRequest q) e g h go final = final_last q e (requests_within k ended) final g
    by (Followed q rest) e g h go final =
        ap (then_requests (requests_within k ended)) g
        ∙ ap (λ (rs : List ClientRequest). q ∷ rs)
        (go rest h.1 (ended_before q (requests_within j false rest) h.0 final))

-- requests of which the last is final are all that more bytes show
pub client_requests_final : (bytes more : List ℕ) (ended : Bool) → EndsFinal (client_requests bytes false)
    → client_requests (bytes ++ more) ended ≡ client_requests bytes false
unfolding client_requests
client_requests_final bytes more ended final =
    requests_within_final ended (suc (length bytes)) (suc (length (bytes ++ more))) bytes more (omega arith)
    (omega (arith, length-append bytes more)) final
