-- The templates of bindings can be parsed.
use Rattle.std.proofs.Common.{◌≡◌, ℕ, List, map, Option, Some, None, Result, Ok, Err, option_and_then, refl, sym, subst}
use Rattle.std.specs.List.{AllByRecursion}
use Rattle.std.specs.Result.{result_ok}
use Rattle.base.proofs.EachLemmas.{each_always}
use Rattle.descriptors.specs.declared.file_set.HttpInfo.{out-HttpInfo}
use Rattle.descriptors.specs.declared.file_set.PatternInfo.{PatternInfo}
use Rattle.descriptor_pool.specs.SetMethods.{http_method}
use Rattle.http_rules.specs.Template.{IsTemplate}
use Rattle.http_rules.specs.TemplateReading.{IsReading, reading}
use Rattle.http_rules.specs.declared.fault.TemplateFault.{TemplateFault}
use Rattle.http_rules.specs.declared.template.Binding.{Binding}
use Rattle.http_rules.specs.declared.template.Template.{Template}
use Rattle.linked_api.specs.declared.api.MethodInfo.{MethodInfo}
use Rattle.message_types.specs.declared.messages.Types.{Types}
use Rattle.schema_link.specs.SetApi.{NumberedRule, rule_binding}
use Rattle.set_faults.specs.MethodFaults.{pattern_template, pattern_text}
use Rattle.schema_link.proofs.BoundRules.{bound_rule, made_of}
use Rattle.schema_link.proofs.GivenItems.{all_given}

module _ (law : (text : List ℕ) → IsReading text (reading text)) where
  -- a text that is read as a template within the limits can be parsed
  text_parses : (text : List ℕ) (r : Result Template TemplateFault) → reading text ≡ r → (t : Template)
      → result_ok r ≡ Some t → IsTemplate t
  text_parses text (Ok u) is t h =
      let same : u ≡ t = cc h in
      let read = subst (λ z. IsReading text z) is (law text) in
      subst IsTemplate same (record { text = text; means = read.0; within = read.1 })
  text_parses text (Err e) is t h = absurd (cc h)

  pattern_parses : (o : Option PatternInfo) (t : Template) → option_and_then pattern_template o ≡ Some t → IsTemplate t
  pattern_parses None t h = absurd (cc h)
  pattern_parses (Some p) t h = text_parses (pattern_text p) (reading (pattern_text p)) refl t h

  parsed : (linked : Types) (methods : List MethodInfo) (r : NumberedRule) (b : Binding)
      → rule_binding linked methods r ≡ Some b → Unit {0} → IsTemplate b.template
  parsed linked methods r b h u =
      let bound = bound_rule linked methods r b h in
      let made = made_of linked bound.method r.call (http_method bound.pattern) r.rule bound.template b bound.binding in
      subst IsTemplate (sym made.2) (pattern_parses (out-HttpInfo r.rule).pattern bound.template bound.template_is)

  -- the templates of bindings that are linked of rules can be parsed
  pub bindings_parse : (linked : Types) (methods : List MethodInfo) (rules : List NumberedRule) (bs : List Binding)
      → map (λ b. Some b) bs ≡ map (rule_binding linked methods) rules
      → AllByRecursion (λ (b : Binding). IsTemplate b.template) bs
  bindings_parse linked methods rules bs h =
      all_given (rule_binding linked methods) (λ r. Unit {0}) (λ (b : Binding). IsTemplate b.template) rules bs h
      (parsed linked methods)
      (each_always (λ r. Unit {0}) (λ r. tt) rules)
