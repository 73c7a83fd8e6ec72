-- Decimal digits are a JSON number.
use Rattle.std.proofs.Common.{ℕ, suc, zero, ◌*◌, ◌^◌, ◌<◌, List, [], ◌∷◌, ◌++◌, get_or, inl, inr, refl, sym, ap, ◌∙◌, subst, arith, lit<}
use Rattle.std.specs.Prelude.{ℤ, pos, negsuc, decimal, nat_abs}
use Rattle.std.specs.Fmt.{signed_decimal}
use Rattle.std.specs.Str.Parse.{IsNumeral, digits_value}
use Rattle.std.proofs.lemmas.List.{append-nil}
use Rattle.std.proofs.lemmas.Fmt.{decimal_is_IsNumeral, decimal_digit, first_decimal}
use Rattle.json_events.specs.JsonNumbers.{IsMinus, IsInt, DenotesInteger, with_minus}

-- digits of which the first is not 0 are an integer part
int_of : (ds : List ℕ) → IsNumeral 10 ds → 48 < get_or ds 0 0 → IsInt ds
int_of [] n h = absurd (omega arith)
int_of (d ∷ ds) n h = inr (h, n.1)

-- the digits of a number are an integer part
decimal_int : (n : ℕ) → n < 2 ^ 64 → IsInt (decimal n)
decimal_int zero h = subst IsInt (sym (decimal_digit 0 (lit< tt))) (inl (refl, refl))
decimal_int (suc n) h = int_of (decimal (suc n)) (decimal_is_IsNumeral (suc n) h).0 (first_decimal (suc n) (omega arith) h)

-- a number with or without a minus
denotes : (minus : List ℕ) (n : ℕ) → IsMinus minus → n < 2 ^ 64 → DenotesInteger (with_minus minus n) (minus ++ decimal n)
denotes minus n m h = record {
  number = record {
    parts = record { minus = minus; int = decimal n; fraction = []; exponent = [] };
    text_is = ap (λ xs. minus ++ xs) (sym (append-nil (decimal n)));
    allowed = record { minus = m; int = decimal_int n h; fraction = tt; exponent = tt };
  };
  magnitude = n;
  exact = ap (λ xs. digits_value 10 xs * 1) (append-nil (decimal n)) ∙ ap (λ k. k * 1) (decimal_is_IsNumeral n h).1;
  signed = refl;
}

-- the digits of a number denote it
pub decimal_denotes : (n : ℕ) → n < 2 ^ 64 → DenotesInteger (pos n) (decimal n)
decimal_denotes n h = denotes [] n (inl refl) h

-- and so they do with a sign
pub signed_decimal_denotes : (z : ℤ) → nat_abs z < 2 ^ 64 → DenotesInteger z (signed_decimal z)
signed_decimal_denotes (pos n) h = decimal_denotes n h
signed_decimal_denotes (negsuc n) h = denotes (45 ∷ []) (suc n) (inr refl) h
