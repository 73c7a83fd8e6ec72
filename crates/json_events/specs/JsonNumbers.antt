-- JSON numbers (RFC 8259, section 6): the grammar, and the integer that a number is.
use Rattle.std.specs.Prelude.{◌≡◌, ℕ, suc, ◌*◌, ◌^◌, ◌≤◌, ◌⊎◌, List, [], ◌∷◌, ◌++◌, length, drop, ⊤, ℤ, pos, negsuc, neg_ℤ}
use Rattle.std.specs.Str.Parse.{digits_value, signed_digits_value, AllDigits}

-- one or more decimal digits
abbrev pub AreSomeDigits : List ℕ → Type 0
AreSomeDigits [] = ⊥
AreSomeDigits (d ∷ ds) = AllDigits 10 (d ∷ ds)

-- [ minus ]
abbrev pub IsMinus : List ℕ → Type 0
IsMinus s = (s ≡ []) ⊎ (s ≡ 45 ∷ [])

-- int = zero / ( digit1-9 *DIGIT )
abbrev pub IsInt : List ℕ → Type 0
IsInt [] = ⊥
IsInt (d ∷ ds) = ((d ≡ 48) × (ds ≡ [])) ⊎ ((49 ≤ d) × AllDigits 10 (d ∷ ds))

-- [ frac ], of which frac = decimal-point 1*DIGIT
abbrev pub IsFraction : List ℕ → Type 0
IsFraction [] = ⊤
IsFraction (point ∷ ds) = (point ≡ 46) × AreSomeDigits ds

-- [ minus / plus ]
abbrev pub IsSign : List ℕ → Type 0
IsSign s = (s ≡ []) ⊎ ((s ≡ 45 ∷ []) ⊎ (s ≡ 43 ∷ []))

-- [ minus / plus ] 1*DIGIT
pub record IsPower (text : List ℕ) : Type 0 where
  pub sign : List ℕ
  pub digits : List ℕ
  pub text_is : text ≡ sign ++ digits
  pub sign_is : IsSign sign
  pub digits_are : AreSomeDigits digits

-- [ exp ], of which exp = e [ minus / plus ] 1*DIGIT, with e in either case
abbrev pub IsExponent : List ℕ → Type 0
IsExponent [] = ⊤
IsExponent (e ∷ power) = ((e ≡ 101) ⊎ (e ≡ 69)) × IsPower power

-- the four parts of a number; those that are left out are empty
pub record NumberParts : Type 0 where
  pub minus : List ℕ
  pub int : List ℕ
  pub fraction : List ℕ
  pub exponent : List ℕ

-- the parts in order
abbrev pub number_text : NumberParts → List ℕ
number_text p = p.minus ++ (p.int ++ (p.fraction ++ p.exponent))

-- the grammar allows each part
pub record AreNumberParts (p : NumberParts) : Type 0 where
  pub minus : IsMinus p.minus
  pub int : IsInt p.int
  pub fraction : IsFraction p.fraction
  pub exponent : IsExponent p.exponent

-- number = [ minus ] int [ frac ] [ exp ]
pub record IsNumber (text : List ℕ) : Type 0 where
  pub parts : NumberParts
  pub text_is : text ≡ number_text parts
  pub allowed : AreNumberParts parts

-- the digits behind the point
abbrev pub fraction_digits : NumberParts → List ℕ
fraction_digits p = drop 1 p.fraction

-- the number that all digits write, without the point
abbrev pub significand : NumberParts → ℕ
significand p = digits_value 10 (p.int ++ fraction_digits p)

-- the power of ten by which it is to be multiplied
abbrev pub multiplier : ℤ → ℕ
multiplier (pos n) = 10 ^ n
multiplier (negsuc n) = 1

-- the power of ten by which it is to be divided
abbrev pub divisor : ℤ → ℕ
divisor (pos n) = 1
divisor (negsuc n) = 10 ^ suc n

-- the exponent of a number; it is 0 where it is left out
abbrev pub exponent_value : List ℕ → ℤ
exponent_value [] = pos 0
exponent_value (e ∷ power) = signed_digits_value 10 power

-- a number with or without a minus
abbrev pub with_minus : List ℕ → ℕ → ℤ
with_minus [] n = pos n
with_minus (m ∷ ms) n = neg_ℤ (pos n)

-- the text is a number that is exactly the integer: its significand times ten to the exponent, less
-- the digits behind the point
pub record DenotesInteger (z : ℤ) (text : List ℕ) : Type 0 where
  pub number : IsNumber text
  pub magnitude : ℕ
  pub exact : significand number.parts * multiplier (exponent_value number.parts.exponent) ≡ magnitude * (10 ^ length (fraction_digits number.parts) * divisor (exponent_value number.parts.exponent))
  pub signed : z ≡ with_minus number.parts.minus magnitude
