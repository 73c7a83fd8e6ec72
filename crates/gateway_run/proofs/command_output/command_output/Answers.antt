use Rattle.std.proofs.Common.{◌≡◌, ℕ, IfSome, Vec, Global, take, sym, subst, inr}
use Rattle.gate_world.specs.ToldFiles.{IsMissing, told_file}
use Rattle.gateway_run.proofs.InputLemmas.{follows}
use Rattle.gateway_run.proofs.OutputLemmas.{api_gives, link_stops, may_read}
use Rattle.gateway_run.specs.CommandOutput.{IsOutput}
use Rattle.gateway_run.specs.CommandViews.{command_view}
use Rattle.gateway_run.specs.Commands.{set_of}
use Rattle.gateway_run.specs.DeclaredApi.{Declares}
use Rattle.gateway_run.specs.InputReading.{OfInput}
use Rattle.gateway_run.specs.Outcomes.{status_of}
use Rattle.gateway_run.specs.declared.status.Status.TheVariants as status
use Rattle.linked_api.specs.LinkedApi.{IsLinked}
use Rattle.linked_api.specs.declared.api.Api.{Api}
use Rattle.gateway_run.proofs.command_output.command_output.Goals as goal

pub returns-in-Ok-clause-gives : goal.returns-in-Ok-clause-gives
returns-in-Ok-clause-gives g c =
    let files = g.F.Files.contents c.args.files.now in
    let view = command_view c.args.command in
    let told = told_file files (set_of view) in
    let own = subst (λ z. IfSome (told_file files z) (λ file. c.in_ok-bytes.bytes.items ≡ take 16777217 file)) c.set.ensures c.in_ok-bytes.ensures.gives in
    let front = subst (λ z. IfSome told (λ file. z ≡ take 16777217 file)) (sym c.as_slice.ensures.value) own in
    let there : IsMissing files (set_of view) → ⊥ = λ m. absurd (cc (c.in_ok-bytes.ensures.missing (subst (λ z. IsMissing files z) (sym c.set.ensures) m))) in
    api_gives _ _ told c.as_slice.result.now view _ c.in-Ok.api front c.in-Ok.ensures.gives.0
    (λ k. inr (may_read view files status.ReadFault c.as_slice.result.now c.in-Ok.api there front c.in-Ok.ensures.gives.0 k.0 tt, k.1))
    c.api_output.result c.api_output.ensures.gives

pub returns-in-Ok-clause-unread : goal.returns-in-Ok-clause-unread
returns-in-Ok-clause-unread g c n =
    let files = g.F.Files.contents c.args.files.now in
    let view = command_view c.args.command in
    let told = told_file files (set_of view) in
    let own = subst (λ z. IfSome (told_file files z) (λ file. c.in_ok-bytes.bytes.items ≡ take 16777217 file)) c.set.ensures c.in_ok-bytes.ensures.gives in
    let front = subst (λ z. IfSome told (λ file. z ≡ take 16777217 file)) (sym c.as_slice.ensures.value) own in
    let there : IsMissing files (set_of view) → ⊥ = λ m. absurd (cc (c.in_ok-bytes.ensures.missing (subst (λ z. IsMissing files z) (sym c.set.ensures) m))) in
    c.api_output.ensures.unread
    (λ b. n (may_read view files (status_of c.api_output.result) c.as_slice.result.now c.in-Ok.api there front c.in-Ok.ensures.gives.0 b (follows _ _ _ c.api_output.result c.api_output.ensures.gives)))

pub returns-clause-gives : goal.returns-clause-gives
returns-clause-gives g c =
    let files = g.F.Files.contents c.args.files.now in
    let view = command_view c.args.command in
    let told = told_file files (set_of view) in
    let own = subst (λ z. IfSome (told_file files z) (λ file. c.in_ok-bytes.bytes.items ≡ take 16777217 file)) c.set.ensures c.in_ok-bytes.ensures.gives in
    let front = subst (λ z. IfSome told (λ file. z ≡ take 16777217 file)) (sym c.as_slice.ensures.value) own in
    link_stops {A = Api} {B = Vec ℕ Global} (λ api. Declares c.as_slice.result.now api × IsLinked api)
    (λ out. IfSome told (λ file. OfInput (g.I.Source.left c.args.input.now) (λ held. IsOutput file held view out.items)))
    _ _ told c.as_slice.result.now front c.in-Err.stop c.in-Err.ensures.gives
