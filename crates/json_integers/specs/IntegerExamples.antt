-- Worked texts of numbers (RFC 8259, section 6), and which integers they are.
use Rattle.std.specs.Prelude.{◌^◌, ◌-◌, pos, negsuc, codes}
use Rattle.json_integers.specs.IntegerTexts.{IsIntegerText}
use Rattle.json_integers.specs.declared.integer_text.IntegerText.TheVariants.{NotANumber, NotAnInteger, PastRange, Integer}

-- integers, however they are written
pub record IntegerExamplesHold : Type 0 where
  pub zero : IsIntegerText (codes "0") (Integer (pos 0))
  pub minus_zero : IsIntegerText (codes "-0") (Integer (pos 0))
  pub zero_with_an_exponent : IsIntegerText (codes "0e5") (Integer (pos 0))
  pub zeros_behind_the_point : IsIntegerText (codes "-0.00E-5") (Integer (pos 0))
  pub whole : IsIntegerText (codes "1.0") (Integer (pos 1))
  pub larger : IsIntegerText (codes "1e2") (Integer (pos 100))
  pub smaller : IsIntegerText (codes "100e-2") (Integer (pos 1))
  pub point_and_exponent : IsIntegerText (codes "1200.0E-2") (Integer (pos 12))
  pub moved_point : IsIntegerText (codes "0.00125e+5") (Integer (pos 125))
  pub with_a_point : IsIntegerText (codes "7.0") (Integer (pos 7))
  pub minus_one : IsIntegerText (codes "-1") (Integer (negsuc 0))
  pub past_32_bits : IsIntegerText (codes "2147483648") (Integer (pos (2 ^ 31)))
  pub least_of_32_bits : IsIntegerText (codes "-2147483648") (Integer (negsuc (2 ^ 31 - 1)))
  pub greatest_of_64_bits : IsIntegerText (codes "18446744073709551615") (Integer (pos (2 ^ 64 - 1)))

-- numbers that are no integer, integers past 64 bits, and texts that are no number
pub record OtherExamplesHold : Type 0 where
  pub one_and_a_half : IsIntegerText (codes "1.5") NotAnInteger
  pub half : IsIntegerText (codes "0.5") NotAnInteger
  pub tenth : IsIntegerText (codes "1e-1") NotAnInteger
  pub one_digit_too_many : IsIntegerText (codes "1200e-3") NotAnInteger
  pub past : IsIntegerText (codes "18446744073709551616") PastRange
  pub far_past : IsIntegerText (codes "-1e30") PastRange
  pub nothing : IsIntegerText (codes "") NotANumber
  pub leading_zero : IsIntegerText (codes "01") NotANumber
  pub no_digits_behind_the_point : IsIntegerText (codes "1.") NotANumber
  pub no_digits_before_the_point : IsIntegerText (codes ".5") NotANumber
  pub plus : IsIntegerText (codes "+1") NotANumber
  pub no_power : IsIntegerText (codes "1e") NotANumber
  pub word : IsIntegerText (codes "red") NotANumber
  pub space : IsIntegerText (codes "1 ") NotANumber
