use Rattle.std.proofs.Common.{◌≡◌, ◌++◌, length}
use Rattle.http_rules.specs.PercentDecoding.{decode_but_slashes}
use Rattle.http_rules.proofs.unescape.decoded_but_slashes.Given as goal

abbrev pub invariant-loop-rest : goal.invariant-loop-rest
invariant-loop-rest l = l.out.items ++ decode_but_slashes l.rest ≡ decode_but_slashes l.text

abbrev pub decreases-loop-rest : goal.decreases-loop-rest
decreases-loop-rest l = length l.rest
