-- The templates of rules, one after another.
use Rattle.std.proofs.Common.{◌≡◌, ◌<◌, ◌+◌, ◌++◌, ℕ, List, ◌∷◌, length, drop, get_or, Option, Some, None, option_to_list, refl, sym, ap, ◌∙◌}
use Rattle.std.proofs.lemmas.List.{append_assoc, drop_more}
use Rattle.std.proofs.lemmas.List.Elements.{filter_map-append}
use Rattle.std.specs.List.{cons_option}
use Rattle.descriptors.specs.declared.file_set.HttpInfo.{HttpInfo}
use Rattle.descriptor_pool.specs.SetMethods.{BoundMethod, all_rules, method_rules}
use Rattle.http_rules.specs.declared.template.Template.{Template}
use Rattle.set_faults.specs.MethodFaults.{rule_template, templates_of}

listed : (o : Option Template) (ts : List Template) → option_to_list o ++ ts ≡ cons_option o ts
listed None ts = refl
listed (Some t) ts = refl

-- the templates of a rule and then of more rules
pub rule_and_more : (rule : HttpInfo) (rules : List HttpInfo) (old one new : List Template)
    → one ≡ old ++ option_to_list (rule_template rule)
    → new ≡ one ++ templates_of rules → new ≡ old ++ templates_of (rule ∷ rules)
rule_and_more rule rules old one new e f =
    f ∙ ap (λ z. z ++ templates_of rules) e ∙ append_assoc old (option_to_list (rule_template rule)) (templates_of rules)
    ∙ ap (λ z. old ++ z) (listed (rule_template rule) (templates_of rules))

-- the templates of a method's rules are the first of those that are left
pub templates_past : (ms : List BoundMethod) (i : ℕ) (m : BoundMethod) → i < length ms → m ≡ get_or ms i m
    → (old new : List Template) → new ≡ old ++ templates_of (method_rules m)
    → new ++ templates_of (all_rules (drop (i + 1) ms)) ≡ old ++ templates_of (all_rules (drop i ms))
templates_past ms i m lt is old new e =
    let rest = all_rules (drop (i + 1) ms) in
    ap (λ z. z ++ templates_of rest) e ∙ append_assoc old (templates_of (method_rules m)) (templates_of rest)
    ∙ ap (λ z. old ++ z) (sym (filter_map-append rule_template (method_rules m) rest))
    ∙ ap (λ z. old ++ templates_of (all_rules z)) (ap (λ z. z ∷ drop (i + 1) ms) is ∙ sym (drop_more ms i m lt))
