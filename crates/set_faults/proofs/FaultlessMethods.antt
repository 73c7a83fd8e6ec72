-- Lawful methods have no faults.
use Rattle.std.proofs.Common.{◌≡◌, ℕ, true, List, [], length, Some, Result, Ok, Err, nat_le, option_and_then, is_some, refl, sym, ap, ◌∙◌}
use Rattle.std.specs.List.{AllByRecursion}
use Rattle.std.specs.Result.{result_ok}
use Rattle.base.proofs.EachLemmas.{each_both, each_weaker}
use Rattle.descriptors.specs.declared.file_set.HttpInfo.{HttpInfo}
use Rattle.descriptors.specs.declared.file_set.PatternInfo.{PatternInfo}
use Rattle.descriptors.specs.declared.file_set.PatternInfo.TheVariants.{Get, Put, Post, Delete, Patch, Custom}
use Rattle.http_rules.specs.TemplateReading.{reading}
use Rattle.http_rules.specs.Tokens.{is_method_kind}
use Rattle.http_rules.specs.declared.fault.TemplateFault.{TemplateFault}
use Rattle.http_rules.specs.declared.template.Template.{Template}
use Rattle.descriptor_pool.specs.DeclaredTypes.{SetTypes, message_named}
use Rattle.descriptor_pool.specs.SetMethods.{BoundMethod, additional_rules, http_method}
use Rattle.set_faults.specs.LawfulSets.{IsLawfulMethod, IsLawfulRule}
use Rattle.set_faults.specs.MethodFaults.{additional_faults, kind_faults, method_faults, methods_faults, pattern_faults, pattern_template, pattern_text, reading_faults, rule_faults}
use Rattle.set_faults.specs.declared.fault.LinkFault.TheVariants.{At}
use Rattle.set_faults.specs.declared.fault.LinkKind.TheVariants.{BadMethod, NestedAdditional, UnknownType}
use Rattle.set_faults.proofs.NoFaultLemmas.{no_fault, no_fault_not, none_both, none_of_each}

no_reading_faults : (path : List ℕ) (r : Result Template TemplateFault) (t : Template) → result_ok r ≡ Some t
    → reading_faults path r ≡ []
no_reading_faults path (Ok u) t h = refl
no_reading_faults path (Err e) t h = absurd (cc h)

no_kind_faults : (path : List ℕ) (p : PatternInfo) → is_method_kind (http_method p) ≡ true → kind_faults path p ≡ []
no_kind_faults path (Get text) h = refl
no_kind_faults path (Put text) h = refl
no_kind_faults path (Post text) h = refl
no_kind_faults path (Delete text) h = refl
no_kind_faults path (Patch text) h = refl
no_kind_faults path (Custom kind text) h = no_fault_not (is_method_kind kind) (At BadMethod path kind) h

-- a lawful rule has no faults
no_rule_faults : (path : List ℕ) (rule : HttpInfo) → IsLawfulRule rule → rule_faults path rule ≡ []
no_rule_faults path rule l =
    let p = l.pattern in
    let read = sym (ap (option_and_then pattern_template) l.pattern_is) ∙ l.template_is in
    ap (pattern_faults path) l.pattern_is
    ∙ none_both (no_kind_faults path p l.method) (no_reading_faults path (reading (pattern_text p)) l.template read)

no_additional_faults : (path : List ℕ) (rule : HttpInfo) → IsLawfulRule rule × (additional_rules rule ≡ [])
    → additional_faults path rule ≡ []
no_additional_faults path rule l =
    let nested = nat_le 1 (length (additional_rules rule)) in
    let bare = ap (λ rs. nat_le 1 (length rs)) l.1 in
    none_both (no_fault nested (At NestedAdditional path []) bare) (no_rule_faults path rule l.0)

module _ (types : SetTypes) where
  no_method_faults : (m : BoundMethod) → IsLawfulMethod types m → method_faults types m ≡ []
  no_method_faults m l =
      let path = m.path in
      let behind = additional_rules m.rule in
      let known = λ (name : List ℕ) (h : is_some (message_named types name) ≡ true).
      no_fault_not (is_some (message_named types name)) (At UnknownType path name) h in
      let each = each_both IsLawfulRule (λ r. additional_rules r ≡ []) behind l.rules.1 l.flat in
      let more = each_weaker (λ (r : HttpInfo). IsLawfulRule r × (additional_rules r ≡ []))
      (λ r. additional_faults path r ≡ []) (no_additional_faults path) behind each in
      none_both (known m.input l.input)
      (none_both (known m.output l.output)
      (none_both (no_rule_faults path m.rule l.rules.0) (none_of_each (additional_faults path) behind more)))

  -- lawful methods have no faults
  pub no_methods_faults : (ms : List BoundMethod) → AllByRecursion (IsLawfulMethod types) ms
      → methods_faults types ms ≡ []
  no_methods_faults ms a =
      none_of_each (method_faults types) ms
      (each_weaker (IsLawfulMethod types) (λ m. method_faults types m ≡ []) no_method_faults ms a)
