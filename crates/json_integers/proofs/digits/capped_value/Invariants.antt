use Rattle.std.proofs.Common.{◌≡◌, ◌≤◌, ◌^◌, drop}
use Rattle.std.specs.Str.Parse.{AllDigits, digits_value_after}
use Rattle.json_integers.specs.WholeNumbers.{capped}
use Rattle.json_integers.proofs.digits.capped_value.Given as goal

abbrev pub invariant-loop-digit : goal.invariant-loop-digit
invariant-loop-digit l = record {
  value : capped (digits_value_after 10 l.value (drop l.digit-index l.digits)) ≡ capped (digits_value_after 10 l.before l.digits);
  digits : AllDigits 10 (drop l.digit-index l.digits);
  capped : l.value ≤ 2 ^ 65;
}
