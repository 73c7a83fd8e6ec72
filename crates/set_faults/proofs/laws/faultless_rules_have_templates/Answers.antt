use Rattle.descriptor_pool.specs.SetMethods.{all_rules}
use Rattle.set_faults.proofs.LawfulMethods.{rules_have_templates, templates_are}
use Rattle.set_faults.proofs.laws.faultless_rules_have_templates.Goals as goal

pub returns-clause-each : goal.returns-clause-each
returns-clause-each c = λ types ms h. rules_have_templates (record { readings = c.a_text_has_one_reading.ensures.each; kinds = c.named_methods_are_kinds.ensures }) types ms h

pub returns-clause-all : goal.returns-clause-all
returns-clause-all c = λ types ms h. templates_are (all_rules ms) (rules_have_templates (record { readings = c.a_text_has_one_reading.ensures.each; kinds = c.named_methods_are_kinds.ensures }) types ms h)
