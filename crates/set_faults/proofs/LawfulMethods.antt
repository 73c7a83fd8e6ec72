-- Methods without faults are lawful.
use Rattle.std.proofs.Common.{◌≡◌, ◌<◌, ℕ, true, false, List, [], ◌∷◌, length, map, Option, Some, None, Result, Ok, Err, IsSome, nat_le, option_and_then, is_some, refl, ap, ◌∙◌, arith}
use Rattle.std.proofs.lemmas.Bool.{leb-false}
use Rattle.std.specs.List.{AllByRecursion, cons_option, flat_map}
use Rattle.std.specs.Result.{result_ok}
use Rattle.base.proofs.EachLemmas.{each_flat, each_weaker}
use Rattle.descriptors.specs.declared.file_set.HttpInfo.{HttpInfo, out-HttpInfo}
use Rattle.descriptors.specs.declared.file_set.PatternInfo.{PatternInfo}
use Rattle.descriptors.specs.declared.file_set.PatternInfo.TheVariants.{Get, Put, Post, Delete, Patch, Custom}
use Rattle.http_rules.specs.Template.{IsTemplateText, IsWithinLimits}
use Rattle.http_rules.specs.TemplateReading.{IsReading, reading}
use Rattle.http_rules.specs.Tokens.{NamedMethodsAreKinds, is_method_kind}
use Rattle.http_rules.specs.declared.fault.TemplateFault.{TemplateFault}
use Rattle.http_rules.specs.declared.fault.TemplateFault.TheVariants as reasons
use Rattle.http_rules.specs.declared.template.Template.{Template}
use Rattle.descriptor_pool.specs.DeclaredTypes.{SetTypes, message_named}
use Rattle.descriptor_pool.specs.SetMethods.{BoundMethod, additional_rules, all_rules, http_method, method_rules}
use Rattle.set_faults.specs.LawfulSets.{IsLawfulMethod, IsLawfulRule}
use Rattle.set_faults.specs.LinkFaults.{fault_if}
use Rattle.set_faults.specs.MethodFaults.{additional_faults, kind_faults, method_faults, methods_faults, pattern_faults, pattern_template, pattern_text, reading_faults, rule_faults, rule_template, template_faults, templates_of, unknown_message}
use Rattle.set_faults.specs.declared.fault.LinkFault.TheVariants.{At}
use Rattle.set_faults.specs.declared.fault.LinkKind.TheVariants.{BadMethod, NestedAdditional, UnknownType}
use Rattle.set_faults.proofs.Theorems.{each_faultless, none_parts, test_fails, test_holds}

-- laws of texts and of methods of bindings
pub record HttpLaws : Type 0 where
  pub readings : (text : List ℕ) → IsReading text (reading text)
  pub kinds : NamedMethodsAreKinds

-- a template is what is read of a text, and what the text means
pub record IsReadAs (text : List ℕ) (r : Result Template TemplateFault) : Type 0 where
  pub template : Template
  pub is : r ≡ Ok template
  pub means : IsTemplateText text template
  pub within : IsWithinLimits template

-- where what is read has no fault, it is a template
read_as : (path text : List ℕ) (r : Result Template TemplateFault) → IsReading text r → reading_faults path r ≡ []
    → IsReadAs text r
read_as path text (Ok t) is h = record { template = t; is = refl; means = is.0; within = is.1 }
read_as path text (Err (reasons.Syntax n)) is h = absurd (cc h)
read_as path text (Err reasons.TooMany) is h = absurd (cc h)
read_as path text (Err reasons.NoMemory) is h = absurd is

-- a pattern whose kind has no fault has a method of a binding
kind_lawful : HttpLaws → (path : List ℕ) (p : PatternInfo) → kind_faults path p ≡ []
    → is_method_kind (http_method p) ≡ true
kind_lawful law path (Get text) h = law.kinds.get
kind_lawful law path (Put text) h = law.kinds.put
kind_lawful law path (Post text) h = law.kinds.post
kind_lawful law path (Delete text) h = law.kinds.delete
kind_lawful law path (Patch text) h = law.kinds.patch
kind_lawful law path (Custom kind text) h = test_holds (is_method_kind kind) (At BadMethod path kind) h

pattern_lawful : HttpLaws → (path : List ℕ) (rule : HttpInfo) (o : Option PatternInfo)
    → (out-HttpInfo rule).pattern ≡ o → pattern_faults path o ≡ [] → IsLawfulRule rule
pattern_lawful law path rule None e h = absurd (cc h)
pattern_lawful law path rule (Some p) e h =
    let parts = none_parts (kind_faults path p) (template_faults path (pattern_text p)) h in
    let read = read_as path (pattern_text p) (reading (pattern_text p)) (law.readings (pattern_text p)) parts.1 in
    record {
      pattern = p;
      pattern_is = e;
      method = kind_lawful law path p parts.0;
      template = read.template;
      template_is = ap (option_and_then pattern_template) e ∙ ap result_ok read.is;
      means = read.means;
      within = read.within;
    }

-- a rule without faults is lawful
rule_lawful : HttpLaws → (path : List ℕ) (rule : HttpInfo) → rule_faults path rule ≡ [] → IsLawfulRule rule
rule_lawful law path rule h = pattern_lawful law path rule (out-HttpInfo rule).pattern refl h

none_nested : (rules : List HttpInfo) → nat_le 1 (length rules) ≡ false → rules ≡ []
none_nested [] h = refl
none_nested (r ∷ rules) h =
    let few : length (r ∷ rules) < 1 = leb-false 1 (length (r ∷ rules)) h in absurd (omega arith)

-- an additional rule without faults
abbrev pub NoFault : List ℕ → HttpInfo → Type 0
NoFault path rule = additional_faults path rule ≡ []

-- has no fault of its own additional rules, and none of any rule
additional_parts : (path : List ℕ) (rule : HttpInfo) → NoFault path rule
    → (additional_rules rule ≡ []) × (rule_faults path rule ≡ [])
additional_parts path rule h =
    let nested = nat_le 1 (length (additional_rules rule)) in
    let parts = none_parts (fault_if nested (At NestedAdditional path [])) (rule_faults path rule) h in
    (none_nested (additional_rules rule) (test_fails nested (At NestedAdditional path []) parts.0), parts.1)

module _ (law : HttpLaws) (types : SetTypes) where
  -- a method without faults is lawful
  method_lawful : (m : BoundMethod) → method_faults types m ≡ [] → IsLawfulMethod types m
  method_lawful m h =
      let path = m.path in
      let behind = additional_rules m.rule in
      let input = none_parts (unknown_message types path m.input) _ h in
      let output = none_parts (unknown_message types path m.output) _ input.1 in
      let rules = none_parts (rule_faults path m.rule) (flat_map (additional_faults path) behind) output.1 in
      let more = each_faultless (additional_faults path) behind rules.1 in
      let any = λ (r : HttpInfo) (k : NoFault path r). rule_lawful law path r (additional_parts path r k).1 in
      let bare = λ (r : HttpInfo) (k : NoFault path r). (additional_parts path r k).0 in
      record {
        input = test_holds (is_some (message_named types m.input)) (At UnknownType path m.input) input.0;
        output = test_holds (is_some (message_named types m.output)) (At UnknownType path m.output) output.0;
        rules = (rule_lawful law path m.rule rules.0, each_weaker (NoFault path) IsLawfulRule any behind more);
        flat = each_weaker (NoFault path) (λ r. additional_rules r ≡ []) bare behind more;
      }

  -- methods without faults are lawful
  pub methods_lawful : (ms : List BoundMethod) → methods_faults types ms ≡ [] → AllByRecursion (IsLawfulMethod types) ms
  methods_lawful ms h =
      each_weaker (λ m. method_faults types m ≡ []) (IsLawfulMethod types) method_lawful ms
      (each_faultless (method_faults types) ms h)

  -- a rule has a template
  abbrev HasTemplate : HttpInfo → Type 0
  HasTemplate rule = IsSome (rule_template rule)

  has_template : (rule : HttpInfo) → IsLawfulRule rule → HasTemplate rule
  has_template rule l = ap is_some l.template_is

  -- the rules of methods without faults have templates
  pub rules_have_templates : (ms : List BoundMethod) → methods_faults types ms ≡ []
      → AllByRecursion (λ rule. IsSome (rule_template rule)) (all_rules ms)
  rules_have_templates ms h =
      let own = λ (m : BoundMethod) (l : IsLawfulMethod types m).
      each_weaker IsLawfulRule HasTemplate has_template (method_rules m) l.rules in
      each_flat method_rules HasTemplate ms
      (each_weaker (IsLawfulMethod types) (λ m. AllByRecursion HasTemplate (method_rules m)) own ms
      (methods_lawful ms h))

all_some : {T : Type 0} (o : Option T) (os : List (Option T)) (ts : List T) → IsSome o → os ≡ map Some ts
    → o ∷ os ≡ map Some (cons_option o ts)
all_some None os ts h e = absurd (cc h)
all_some (Some t) os ts h e = ap (λ z. Some t ∷ z) e

-- where each rule has a template, the templates are those of the rules, one by one
pub templates_are : (rules : List HttpInfo) → AllByRecursion (λ rule. IsSome (rule_template rule)) rules
    → map rule_template rules ≡ map Some (templates_of rules)
templates_are [] a = refl
templates_are (r ∷ rules) a =
    all_some (rule_template r) (map rule_template rules) (templates_of rules) a.0 (templates_are rules a.1)
