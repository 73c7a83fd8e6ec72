use Rattle.std.proofs.Common.{◌≡◌, drop, Some}
use Rattle.http_rules.specs.TemplateMachine.{run, read_template}
use Rattle.http_rules.specs.TemplateLimits.{AreFew}
use Rattle.http_rules.proofs.parser.build.Given as goal

abbrev pub invariant-loop-byte : goal.invariant-loop-byte
invariant-loop-byte l = (run (Some l.state) l.parts (drop l.byte-index l.text) ≡ read_template l.text) × AreFew l.parts
