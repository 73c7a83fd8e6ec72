-- How long canonical bytes are, as far as 64 bits tell.
use Rattle.std.specs.Prelude.{ℕ, List, length}
use Rattle.base.specs.Saturated.{saturated}

-- the length of bytes, as far as 64 bits tell
abbrev pub size_of : List ℕ → ℕ
size_of bytes = saturated (length bytes)
