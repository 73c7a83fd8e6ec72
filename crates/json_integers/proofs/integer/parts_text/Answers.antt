use Rattle.std.proofs.Common.{sym, subst}
use Rattle.std.specs.Str.Parse.{AllDigits}
use Rattle.json_integers.proofs.CutLemmas.{int_digits, fraction_digits_are}
use Rattle.json_integers.proofs.integer.parts_text.Goals as goal

pub places_of-places-requires : goal.places_of-places-requires
places_of-places-requires c = c.requires.exponent

pub magnitude_of-requires-clause-int : goal.magnitude_of-requires-clause-int
magnitude_of-requires-clause-int c = int_digits _ c.requires.int

pub magnitude_of-requires-clause-digits : goal.magnitude_of-requires-clause-digits
magnitude_of-requires-clause-digits c = subst (AllDigits 10) (sym c.behind_point-digits.ensures) (fraction_digits_are _ c.requires.fraction)
