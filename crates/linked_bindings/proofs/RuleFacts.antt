-- The worked examples of rules: a rule is seen by its body and its response.
use Rattle.std.proofs.Common.{◌≡◌, ◌++◌, ℕ, List, [], map}
use Rattle.descriptors.specs.declared.file_set.HttpInfo.{out-roll-HttpInfo}
use Rattle.http_rules.specs.declared.template.Template.{Template}
use Rattle.linked_api.specs.LinkedExamples.{library}
use Rattle.linked_api.specs.declared.api.MethodInfo.{MethodInfo}
use Rattle.message_types.specs.Types.{fields_of}
use Rattle.linked_bindings.specs.BindingFaults.{binding_faults, body_faults, path_faults, response_faults}
use Rattle.linked_bindings.specs.LinkedBinding.{binding_with, body_of, linked_binding, paths_of, response_of}
use Rattle.linked_bindings.specs.RuleExamples.{rule_with, template_with, variable_of_path}

-- the faults of a rule are those of its paths, of its body and of its response
pub faults_are : (m : MethodInfo) (paths : List (List (List ℕ))) (body response : List ℕ)
    → binding_faults library m (rule_with body response) (template_with paths)
    ≡ path_faults library m [] (map variable_of_path paths)
    ++ (body_faults library m body ++ response_faults library m response)
faults_are m paths body response = simp out-roll-HttpInfo

-- and the binding of a rule is that of these
pub linked_are : (m : MethodInfo) (call : ℕ) (method body response : List ℕ) (t : Template)
    → linked_binding library m call method (rule_with body response) t
    ≡ binding_with method call t (paths_of library m.input t.variables) (body_of (fields_of library m.input) body)
    (response_of (fields_of library m.output) response)
linked_are m call method body response t = simp out-roll-HttpInfo
