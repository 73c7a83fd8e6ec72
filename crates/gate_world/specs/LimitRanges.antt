-- The ranges of the limits. Numbers of bytes but for the first, which is of clients.
use Rattle.std.specs.Prelude.{◌≤◌, ◌+◌, ℕ}

-- clients connected at one time; the largest body of a unary request and element of a streamed one; the largest
-- message; the largest text of a message, which holds the message and the 5 bytes before it (gRPC over HTTP/2,
-- "Length-Prefixed-Message")
abbrev pub AreInRange : ℕ → ℕ → ℕ → ℕ → Type 0
AreInRange connections body message text =
    (1 ≤ connections) × (connections ≤ 1024) × (64 ≤ body) × (body ≤ 1048576) × (64 ≤ message) × (message ≤ 1048576)
    × (message + 5 ≤ text) × (text ≤ 4194304)
