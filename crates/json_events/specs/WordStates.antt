-- The states of a word that has not ended: some bytes complete it.
use Rattle.std.specs.Prelude.{◌≡◌, ℕ, zero, suc, ◌<◌, ◌≤◌, ◌⊎◌, length, true, false, ⊤}
use Rattle.json_events.specs.declared.state.StringState.{StringState}
use Rattle.json_events.specs.declared.state.StringState.TheVariants.{Plain, Continuation, Escape, Hex, LowSolidus, LowU, Low, Closed}
use Rattle.json_events.specs.declared.state.WordState.{WordState}
use Rattle.json_events.specs.declared.state.WordState.TheVariants.{Open, Close, Comma, Colon, Literal, Inside, Minus, Zero, Whole, Point, Fraction, Exponent, Sign, Power}
use Rattle.json_events.specs.JsonStrings.{is_high_surrogate}
use Rattle.json_events.specs.JsonText.{spelling}
use Rattle.json_events.specs.StringSteps.{is_low_front}

-- with so many of the four digits to come, the number of those that came; with two or one, it does not
-- begin the second half of a surrogate pair
abbrev pub IsUnitFront : ℕ → ℕ → Type 0
IsUnitFront zero v = ⊥
IsUnitFront (suc zero) v = (v < 4096) × ((v < 3520) ⊎ (3584 ≤ v))
IsUnitFront (suc (suc zero)) v = (v < 256) × (is_low_front v ≡ false)
IsUnitFront (suc (suc (suc zero))) v = v < 16
IsUnitFront (suc (suc (suc (suc zero)))) v = v ≡ 0
IsUnitFront (suc (suc (suc (suc (suc n))))) v = ⊥

-- the same inside the second half of a pair, of which the digits are DC00 to DFFF
abbrev pub IsLowFront : ℕ → ℕ → Type 0
IsLowFront zero v = ⊥
IsLowFront (suc zero) v = (3520 ≤ v) × (v < 3584)
IsLowFront (suc (suc zero)) v = is_low_front v ≡ true
IsLowFront (suc (suc (suc zero))) v = v ≡ 13
IsLowFront (suc (suc (suc (suc zero)))) v = v ≡ 0
IsLowFront (suc (suc (suc (suc (suc n))))) v = ⊥

-- the states of a string that has not ended
abbrev pub IsOpenString : StringState → Type 0
IsOpenString Plain = ⊤
IsOpenString (Continuation low high n) = low ≤ high
IsOpenString Escape = ⊤
IsOpenString (Hex k v) = IsUnitFront k v
IsOpenString (LowSolidus h) = is_high_surrogate h ≡ true
IsOpenString (LowU h) = is_high_surrogate h ≡ true
IsOpenString (Low h k v) = (is_high_surrogate h ≡ true) × IsLowFront k v
IsOpenString Closed = ⊥

-- the states of a word that has not ended
abbrev pub IsOpen : WordState → Type 0
IsOpen (Open b) = ⊥
IsOpen (Close b) = ⊥
IsOpen Comma = ⊥
IsOpen Colon = ⊥
IsOpen (Literal n k) = k < length (spelling n)
IsOpen (Inside s) = IsOpenString s
IsOpen Minus = ⊤
IsOpen Zero = ⊤
IsOpen Whole = ⊤
IsOpen Point = ⊤
IsOpen Fraction = ⊤
IsOpen Exponent = ⊤
IsOpen Sign = ⊤
IsOpen Power = ⊤
