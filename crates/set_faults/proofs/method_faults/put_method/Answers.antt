use Rattle.std.proofs.Common.{◌∙◌, ◌++◌, ap}
use Rattle.std.proofs.lemmas.Result.{on_ok_weaker}
use Rattle.descriptor_pool.specs.SetMethods.{additional_rules}
use Rattle.set_faults.specs.MethodFaults.{templates_of}
use Rattle.set_faults.proofs.TemplateLemmas.{rule_and_more}
use Rattle.set_faults.proofs.method_faults.put_method.Goals as goal

pub returns-clause-templates : goal.returns-clause-templates
returns-clause-templates c =
    let rule = c.method.inside.rule.now in
    let one = c.put_template.new.out.items in
    rw (← c.method.view_is) (on_ok_weaker c.put_each_additional.result
    (λ e. rule_and_more rule (additional_rules rule) c.args.out.now.items one c.put_each_additional.new.out.items c.in_ok-put_template.ensures.template (e ∙ ap (λ z. one ++ templates_of z) c.as_slice.ensures))
    c.put_each_additional.ensures.templates)
