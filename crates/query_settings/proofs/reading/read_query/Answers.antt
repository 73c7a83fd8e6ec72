use Rattle.std.proofs.Common.{Ok, subst}
use Rattle.query_parameters.specs.ParameterParts.{encoded_of}
use Rattle.query_settings.proofs.QueryRuns.{stepped}
use Rattle.query_settings.specs.QueryScopes.{scope_of}
use Rattle.query_settings.specs.QuerySteps.{IsParameterStep}
use Rattle.query_settings.proofs.reading.read_query.Goals as goal

pub loop-parameter-preserved : goal.loop-parameter-preserved
loop-parameter-preserved c =
    let s = scope_of c.args.types.now c.args.input c.args.binding.now in
    let n = c.set_parameter-set.new.gathered in
    stepped s c.args.ignore.now c.args.query.now c.loop-parameter.gathered c.loop-parameter.left
    (encoded_of c.in-Some.parameter) c.next.new.self c.in-Some.ensures.steps c.loop-parameter.invariant n
    (λ made stands. subst (λ ignore. IsParameterStep s ignore made (encoded_of c.in-Some.parameter) n (Ok tt))
    c.as_slice.ensures (c.in_default-set.ensures made stands))
