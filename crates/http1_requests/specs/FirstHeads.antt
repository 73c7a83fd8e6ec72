-- What the head at the front of a client's bytes makes of the request there.
use Rattle.std.specs.Prelude.{◌≡◌, ◌⊎◌, ℕ, List}
use Rattle.gate_world.specs.declared.refusal.Refusal.{Refusal}
use Rattle.gate_world.specs.declared.refusal.Refusal.TheVariants.{HeadTooLong}
use Rattle.http1_requests.specs.HeadEnd.{head_size, TooLarge, Ends, cut_at}
use Rattle.http1_requests.specs.HeadCauses.{IsRefusedFor}

-- the head at the front is refused for this: it has no end within the limit, or it has one, and its bytes are refused
abbrev pub IsFirstRefused : List ℕ → Refusal → Type 0
IsFirstRefused bytes refusal =
    ((cut_at head_size bytes ≡ TooLarge) × (refusal ≡ HeadTooLong))
    ⊎ ((head : List ℕ) × (rest : List ℕ) × (cut_at head_size bytes ≡ Ends head rest) × IsRefusedFor head refusal)
