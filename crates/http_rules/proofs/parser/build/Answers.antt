use Rattle.std.proofs.Common.{◌≡◌, ◌≤◌, length, get_or, Some, None, Err, arith}
use Rattle.std.proofs.lemmas.Result.{err_from_is_err_and}
use Rattle.std.proofs.lemmas.Result.{IfOk-weaker}
use Rattle.http_rules.specs.declared.template.Template.{Template}
use Rattle.http_rules.specs.TemplateMachine.{turn, class_of}
use Rattle.http_rules.proofs.BuildLemmas.{keeps_ascii, build_goes_on, build_over, build_end, end_is_final, end_means, end_over, refuses_weaker}
use Rattle.http_rules.proofs.parser.build.Goals as goal

pub take-requires-clause-ascii : goal.take-requires-clause-ascii
take-requires-clause-ascii c =
    let leads : turn c.loop-byte.state (class_of (get_or c.args.text.now c.loop-byte.byte-index 0)) ≡ Some (c.in-Some.next, c.in-Some.act) = cc (c.in-Some.is, c.turn.ensures, c.class_of.ensures) in
    keeps_ascii c.loop-byte.state _ (c.in-Some.next, c.in-Some.act) leads

pub returns-in_err-take-in-Some-clause-over : goal.returns-in_err-take-in-Some-clause-over
returns-in_err-take-in-Some-clause-over c =
    let leads : turn c.loop-byte.state (class_of (get_or c.args.text.now c.loop-byte.byte-index 0)) ≡ Some (c.in-Some.next, c.in-Some.act) = cc (c.in-Some.is, c.turn.ensures, c.class_of.ensures) in
    let p = err_from_is_err_and c.from_residual.result c.from_residual.ensures.1 in
    rw (p.1, p.2) (refuses_weaker {T = Template} (Err c.in_err-take-in-Some.field-0.0) _ _
    (build_over c.args.text.now c.loop-byte.byte-index c.loop-byte.state c.in-Some.next c.in-Some.act c.loop-byte.parts c.loop-byte-test.true c.loop-byte.invariant.0 leads c.requires)
    c.in_err-take-in-Some.ensures.over)

pub unreachable-requires : goal.unreachable-requires
unreachable-requires c =
    let nowhere : turn c.loop-byte.state (class_of (get_or c.args.text.now c.loop-byte.byte-index 0)) ≡ None = cc (c.in-None.is, c.turn.ensures, c.class_of.ensures) in
    build_goes_on c.args.text.now c.loop-byte.byte-index c.loop-byte.state c.loop-byte.parts c.loop-byte-test.true c.loop-byte.invariant.0 nowhere c.requires

pub finish-requires-clause-state : goal.finish-requires-clause-state
finish-requires-clause-state c =
    let done : length c.args.text.now ≤ c.loop-byte.byte-index = omega arith in
    end_is_final c.args.text.now c.loop-byte.state c.loop-byte.parts (build_end _ _ _ _ done c.loop-byte.invariant.0) c.requires

pub returns-clause-means : goal.returns-clause-means
returns-clause-means c =
    let done : length c.args.text.now ≤ c.loop-byte.byte-index = omega arith in
    let ended = build_end c.args.text.now c.loop-byte.byte-index c.loop-byte.state c.loop-byte.parts done c.loop-byte.invariant.0 in
    IfOk-weaker c.finish.result _ _ (λ t e. end_means c.args.text.now c.loop-byte.state c.loop-byte.parts t ended e) c.finish.ensures.ok

pub returns-clause-over : goal.returns-clause-over
returns-clause-over c =
    let done : length c.args.text.now ≤ c.loop-byte.byte-index = omega arith in
    let ended = build_end c.args.text.now c.loop-byte.byte-index c.loop-byte.state c.loop-byte.parts done c.loop-byte.invariant.0 in
    refuses_weaker c.finish.result _ _ (end_over c.args.text.now c.loop-byte.state c.loop-byte.parts ended c.requires) c.finish.ensures.over
