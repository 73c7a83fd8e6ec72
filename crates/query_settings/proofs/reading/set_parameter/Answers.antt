use Rattle.std.proofs.Common.{◌≡◌, ◌∙◌, not, true, Ok, ap, inr, rules, subst, sym}
use Rattle.std.specs.List.{list_any}
use Rattle.std.specs.Str.{bytes_eq}
use Rattle.form_urlencoded.specs.Form.{decode}
use Rattle.query_parameters.specs.ParameterParts.{encoded_of}
use Rattle.query_settings.specs.QueryScopes.{scope_of}
use Rattle.query_settings.specs.QuerySettings.{counts}
use Rattle.query_settings.specs.QuerySteps.{IsNamedStep}
use Rattle.query_settings.proofs.reading.set_parameter.Goals as goal

pub returns-in-Ok : goal.returns-in-Ok
returns-in-Ok c made stands =
    let tested : c.as_slice.result.now ≡ decode c.args.parameter.name.now = search rules in
    let name : c.as_slice-2.result.now ≡ decode c.args.parameter.name.now = search rules in
    let told : counts c.args.ignore.now (encoded_of c.args.parameter) ≡ true =
    ap not (ap (λ n. list_any (bytes_eq n) c.args.ignore.now) (sym tested) ∙ sym c.is_one_of.ensures
    ∙ c.if-is_one_of.false) in
    inr (
      told,
      subst (λ n. IsNamedStep (scope_of c.args.types.now c.args.input c.args.binding.now) made n
          (decode c.args.parameter.value.now) c.set_named.new.gathered (Ok tt)) name (c.in-Ok.ensures made stands),
    )
