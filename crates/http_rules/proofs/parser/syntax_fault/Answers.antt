use Rattle.std.proofs.Common.{◌≡◌, ◌≤◌, length, get_or, Some, None, true, false, arith}
use Rattle.http_rules.specs.TemplateMachine.{turn, class_of, is_final}
use Rattle.http_rules.proofs.PrefixLemmas.{next_nowhere, next_where, ends_whole, ends_early}
use Rattle.http_rules.proofs.parser.syntax_fault.Goals as goal

pub returns-in-None : goal.returns-in-None
returns-in-None c =
    let nowhere : turn c.loop-i.state (class_of (get_or c.args.text.now c.loop-i.i 0)) ≡ None = cc (c.in-None.is, c.turn.ensures, c.class_of.ensures) in
    next_nowhere c.args.text.now c.loop-i.i c.loop-i.state c.loop-i-test.true c.loop-i.invariant nowhere

pub loop-i-preserved : goal.loop-i-preserved
loop-i-preserved c =
    let leads : turn c.loop-i.state (class_of (get_or c.args.text.now c.loop-i.i 0)) ≡ Some (c.in-Some.next, c.in-Some.field-0-1) = cc (c.in-Some.is, c.turn.ensures, c.class_of.ensures) in
    next_where c.args.text.now c.loop-i.i c.loop-i.state c.in-Some.next c.in-Some.field-0-1 c.loop-i-test.true c.loop-i.invariant leads

pub returns-then-is_final : goal.returns-then-is_final
returns-then-is_final c =
    let final : is_final c.loop-i.state ≡ true = cc (c.if-is_final.true, c.is_final.ensures) in
    let done : length c.args.text.now ≤ c.loop-i.i = omega arith in
    ends_whole c.args.text.now c.loop-i.i c.loop-i.state done c.loop-i.invariant final

pub returns-else-is_final : goal.returns-else-is_final
returns-else-is_final c =
    let open_still : is_final c.loop-i.state ≡ false = cc (c.if-is_final.false, c.is_final.ensures) in
    let done : length c.args.text.now ≤ c.loop-i.i = omega arith in
    ends_early c.args.text.now c.loop-i.i c.loop-i.state done c.loop-i.invariant open_still
