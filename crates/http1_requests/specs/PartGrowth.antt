-- How what is cut off the front of a connection's bytes stands to more bytes.
use Rattle.std.specs.Prelude.{◌≡◌, ◌≤◌, ◌<◌, ℕ, List, ◌++◌, length, take, Option, ⊤}
use Rattle.http1_requests.specs.HeadEnd.{size_limit, Cut, NoEnd, TooLarge, Ends, cut_at}

-- what is cut off, as more comes: a part with its end stays, and so does a part that is too large
abbrev pub GrowsCut : Cut → Cut → List ℕ → Type 0
GrowsCut NoEnd new more = ⊤
GrowsCut TooLarge new more = new ≡ TooLarge
GrowsCut (Ends part rest) new more = new ≡ Ends part (rest ++ more)

-- a part with its end stands at the front of the bytes, has a byte and is within the limit; and fewer of its bytes have
-- no end
pub record IsCutOff (size : List ℕ → Option ℕ) (bytes part rest : List ℕ) : Type 0 where
  pub front : bytes ≡ part ++ rest
  pub some : 0 < length part
  pub room : length part ≤ size_limit
  pub first : (n : ℕ) → n < length part → cut_at size (take n part) ≡ NoEnd

-- what a way to find a part's end cuts off
pub record CutsOff (size : List ℕ → Option ℕ) : Type 0 where
  pub stays : (bytes more : List ℕ) → GrowsCut (cut_at size bytes) (cut_at size (bytes ++ more)) more
  pub ends : (bytes part rest : List ℕ) → cut_at size bytes ≡ Ends part rest → IsCutOff size bytes part rest
