use Rattle.std.proofs.Common.{◌≡◌, ◌+◌, drop}
use Rattle.json_integers.specs.NumberCut.{digits_len}
use Rattle.json_integers.proofs.parts.digits_len.Given as goal

abbrev pub invariant-loop-i : goal.invariant-loop-i
invariant-loop-i l = l.i + digits_len (drop l.i l.text) ≡ digits_len l.text
