use Rattle.std.proofs.Common.{[], IfSome, codes, subst, sym}
use Rattle.std.proofs.lemmas.Result.{err_from_is_err_and}
use Rattle.gateway_run.proofs.OutputLemmas.{stopped, wrote, wrote_part}
use Rattle.gateway_run.specs.CommandOutput.{IsOutput}
use Rattle.gateway_run.specs.CommandViews.{command_view}
use Rattle.gateway_run.specs.Commands.{set_of}
use Rattle.gateway_run.specs.InputReading.{OfInput}
use Rattle.gate_world.specs.ToldFiles.{told_file}
use Rattle.gateway_run.specs.declared.status.Status.TheVariants as status
use Rattle.gateway_run.specs.Outcomes.{AnswersTold, stop_line, stop_status}
use Rattle.gateway_run.proofs.offline.run_command.Goals as goal

pub returns-in_err-output-clause-answers : goal.returns-in_err-output-clause-answers
returns-in_err-output-clause-answers g c =
    let p = err_from_is_err_and c.from_residual.result c.from_residual.ensures.1 in
    let files = g.F.Files.contents c.args.files.now in
    let left = g.I.Source.left c.args.input.now in
    let out = g.O.Sink.written c.args.out.now in
    let e = c.in_err-output.field-0.0 in
    rw (p.1, p.2)
    (subst (λ z. AnswersTold z files left (stop_status e) (stop_line e) out out) c.in-Some.ensures
    (stopped (λ _. Unit {0}) _ (command_view c.in-Some.command) files left out out e c.in_err-output.ensures.gives c.in_err-output.ensures.missing))

pub returns-in_err-write_all-clause-answers : goal.returns-in_err-write_all-clause-answers
returns-in_err-write_all-clause-answers g c =
    let p = err_from_is_err_and c.from_residual-in_err-write_all.result c.from_residual-in_err-write_all.ensures.1 in
    let files = g.F.Files.contents c.args.files.now in
    let left = g.I.Source.left c.args.input.now in
    let old = g.O.Sink.written c.args.out.now in
    let new = g.O.Sink.written c.write_all.new.out in
    let view = command_view c.in-Some.command in
    let told = told_file files (set_of view) in
    let output = subst (λ z. IfSome told (λ file. OfInput left (λ held. IsOutput file held view z))) (sym c.as_slice.ensures.value) c.in_ok-output.ensures.gives in
    rw (p.1, p.2)
    (subst (λ z. AnswersTold z files left status.WriteFault (codes "write fault\n") old new) c.in-Some.ensures
    (wrote_part told left view c.as_slice.result.now old new output c.in_err-write_all.ensures.part, λ m. absurd (cc (c.in_ok-output.ensures.missing m))))

pub returns-clause-answers : goal.returns-clause-answers
returns-clause-answers g c =
    let files = g.F.Files.contents c.args.files.now in
    let left = g.I.Source.left c.args.input.now in
    let old = g.O.Sink.written c.args.out.now in
    let new = g.O.Sink.written c.write_all.new.out in
    let view = command_view c.in-Some.command in
    let told = told_file files (set_of view) in
    let output = subst (λ z. IfSome told (λ file. OfInput left (λ held. IsOutput file held view z))) (sym c.as_slice.ensures.value) c.in_ok-output.ensures.gives in
    subst (λ z. AnswersTold z files left status.Done [] old new) c.in-Some.ensures
    (wrote told left view c.as_slice.result.now old new output c.in_ok-write_all.ensures.written, λ m. absurd (cc (c.in_ok-output.ensures.missing m)))
