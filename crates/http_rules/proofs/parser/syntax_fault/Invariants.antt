use Rattle.std.proofs.Common.{◌≡◌, take, Some}
use Rattle.http_rules.specs.declared.state.State.TheVariants as state
use Rattle.http_rules.specs.TemplateMachine.{reach}
use Rattle.http_rules.proofs.parser.syntax_fault.Given as goal

abbrev pub invariant-loop-i : goal.invariant-loop-i
invariant-loop-i l = reach (Some state.Start) (take l.i l.text) ≡ Some l.state
