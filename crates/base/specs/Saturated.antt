-- Numbers of 64 bits that stand still at the last one.
use Rattle.std.specs.Prelude.{◌-◌, ◌^◌, ℕ, min}

-- a number in 64 bits: past the last one it stays there
abbrev pub saturated : ℕ → ℕ
saturated n = min n (2 ^ 64 - 1)
