-- The second half of a surrogate pair, at its last digit.
use Rattle.std.proofs.Common.{◌≡◌, ℕ, ◌+◌, ◌*◌, ◌<◌, ◌≤◌, true, arith}
use Rattle.std.specs.Char.{digit_value, IsScalar}
use Rattle.std.proofs.lemmas.Bool.{ltb-true}
use Rattle.json_events.specs.JsonStrings.{is_high_surrogate, paired}
use Rattle.json_events.specs.StringSteps.{is_hex}
use Rattle.json_events.specs.WordStates.{IsLowFront}
use Rattle.json_events.proofs.strings.Utf8Lemmas.{pair_scalar}
use Rattle.json_events.proofs.reading.HeldText.{last_low}

-- a surrogate pair is a character
pub low_is_scalar : (h v b : ℕ) → is_high_surrogate h ≡ true → IsLowFront 1 v → is_hex b ≡ true → IsScalar (paired h (v * 16 + digit_value b))
low_is_scalar h v b hi f d = pair_scalar h (v * 16 + digit_value b) hi (last_low v (digit_value b) f.0 f.1 (ltb-true (digit_value b) 16 d))

-- the digits of a second half make one
pub low_ends : (v b : ℕ) → IsLowFront 1 v → is_hex b ≡ true → (56320 ≤ v * 16 + digit_value b) × (v * 16 + digit_value b ≤ 57343)
low_ends v b f d = by_digit v (digit_value b) f.0 f.1 (ltb-true (digit_value b) 16 d)
  where
    by_digit : (v n : ℕ) → 3520 ≤ v → v < 3584 → n < 16 → (56320 ≤ v * 16 + n) × (v * 16 + n ≤ 57343)
    by_digit v n h l m = (omega (arith, h), omega (arith, l, m))
