-- How the requests of bytes stand to those of more bytes: request k is request k, with its body so far.
use Rattle.std.specs.Prelude.{◌≡◌, ℕ, List, [], ◌∷◌, ◌++◌, ⊤}
use Rattle.http1_requests.specs.ClientRequests.{BodyState, Open, Ended, Broken, ClientRequest, RefusedHead, Request, FirstRequest, NoRequest, LastRequest, Followed}

-- a request of fewer bytes, and the same request of more: only a body that goes on may grow
abbrev pub GrowsTo : ClientRequest → ClientRequest → Type 0
GrowsTo (RefusedHead f) r = r ≡ RefusedHead f
GrowsTo (Request h body Ended) r = r ≡ Request h body Ended
GrowsTo (Request h body Broken) r = r ≡ Request h body Broken
GrowsTo (Request h body Open) r = (more : List ℕ) × (state : BodyState) × (r ≡ Request h (body ++ more) state)

-- each request of the first list stands in the second at its place, grown
abbrev pub Later : List ClientRequest → List ClientRequest → Type 0
Later [] rs = ⊤
Later (q ∷ qs) [] = ⊥
Later (q ∷ qs) (r ∷ rs) = GrowsTo q r × Later qs rs

-- a request at the front, grown
abbrev pub ShowsGrown : ClientRequest → FirstRequest → Type 0
ShowsGrown q NoRequest = ⊥
ShowsGrown q (LastRequest r) = GrowsTo q r
ShowsGrown q (Followed r rest) = GrowsTo q r

-- a request behind which there was none, by what stands at the front of more bytes: a refused head and a broken body
-- stay the last, and a body that went on may have grown
abbrev pub LastGrowsTo : ClientRequest → FirstRequest → Type 0
LastGrowsTo (RefusedHead f) new = new ≡ LastRequest (RefusedHead f)
LastGrowsTo (Request h body Open) new = ShowsGrown (Request h body Open) new
LastGrowsTo (Request h body Ended) new = ⊥
LastGrowsTo (Request h body Broken) new = new ≡ LastRequest (Request h body Broken)

-- the request at the front of bytes, and of the bytes with more behind them; what followed it is followed by the same
abbrev pub FirstGrowsBy : FirstRequest → FirstRequest → List ℕ → Type 0
FirstGrowsBy NoRequest new more = ⊤
FirstGrowsBy (LastRequest q) new more = LastGrowsTo q new
FirstGrowsBy (Followed q rest) new more = new ≡ Followed q (rest ++ more)

-- a request behind which there is none, whatever follows: its head is refused, or its body's framing is broken
abbrev pub IsFinal : ClientRequest → Type 0
IsFinal (RefusedHead f) = ⊤
IsFinal (Request h body Open) = ⊥
IsFinal (Request h body Ended) = ⊥
IsFinal (Request h body Broken) = ⊤

-- the last of the requests is such a one
abbrev pub EndsFinal : List ClientRequest → Type 0
EndsFinal [] = ⊥
EndsFinal (q ∷ []) = IsFinal q
EndsFinal (q ∷ r ∷ rs) = EndsFinal (r ∷ rs)
