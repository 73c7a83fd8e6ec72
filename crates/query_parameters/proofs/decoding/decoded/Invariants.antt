use Rattle.std.proofs.Common.{◌≡◌, ◌++◌, length}
use Rattle.form_urlencoded.specs.Form.{decode}
use Rattle.query_parameters.proofs.decoding.decoded.Given as goal

abbrev pub invariant-loop-before : goal.invariant-loop-before
invariant-loop-before l = l.out.items ++ decode l.rest ≡ decode l.encoded

abbrev pub decreases-loop-before : goal.decreases-loop-before
decreases-loop-before l = length l.rest
