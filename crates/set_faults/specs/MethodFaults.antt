-- Faults of methods that have an annotation (google/api/http.proto).
use Rattle.std.specs.Prelude.{◌++◌, ℕ, List, [], ◌∷◌, length, codes, decimal, nat_le, not, Option, Some, None, Result, Ok, Err, is_some, option_and_then}
use Rattle.std.specs.List.{filter_map, flat_map}
use Rattle.std.specs.Result.{result_ok}
use Rattle.descriptors.specs.declared.file_set.HttpInfo.{HttpInfo, out-HttpInfo}
use Rattle.descriptors.specs.declared.file_set.PatternInfo.{PatternInfo}
use Rattle.descriptors.specs.declared.file_set.PatternInfo.TheVariants.{Get, Put, Post, Delete, Patch, Custom}
use Rattle.http_rules.specs.TemplateReading.{reading}
use Rattle.http_rules.specs.Tokens.{is_method_kind}
use Rattle.http_rules.specs.declared.fault.TemplateFault.{TemplateFault}
use Rattle.http_rules.specs.declared.fault.TemplateFault.TheVariants as reasons
use Rattle.http_rules.specs.declared.template.Template.{Template}
use Rattle.descriptor_pool.specs.DeclaredTypes.{SetTypes, message_named}
use Rattle.set_faults.specs.LinkFaults.{fault_if}
use Rattle.descriptor_pool.specs.SetMethods.{BoundMethod, additional_rules}
use Rattle.set_faults.specs.declared.fault.LinkFault.{LinkFault}
use Rattle.set_faults.specs.declared.fault.LinkFault.TheVariants.{At}
use Rattle.set_faults.specs.declared.fault.LinkKind.TheVariants.{UnknownType, NestedAdditional, NoPattern, BadMethod, TemplateAt}

-- a type name names no message of the set
abbrev pub unknown_message : SetTypes → List ℕ → List ℕ → List LinkFault
unknown_message types path name = fault_if (not (is_some (message_named types name))) (At UnknownType path name)

-- the text of the path template of a pattern
abbrev pub pattern_text : PatternInfo → List ℕ
pattern_text (Get text) = text
pattern_text (Put text) = text
pattern_text (Post text) = text
pattern_text (Delete text) = text
pattern_text (Patch text) = text
pattern_text (Custom kind text) = text

-- the template that is read of a pattern, where its text is one within the limits
abbrev pub pattern_template : PatternInfo → Option Template
pattern_template p = result_ok (reading (pattern_text p))

-- the template of a rule
abbrev pub rule_template : HttpInfo → Option Template
rule_template rule = option_and_then pattern_template (out-HttpInfo rule).pattern

-- the templates of rules, in order
abbrev pub templates_of : List HttpInfo → List Template
templates_of rules = filter_map rule_template rules

-- what is read of a text is no template: it goes wrong at an offset, or means one with too many segments or variables
abbrev pub reading_faults : List ℕ → Result Template TemplateFault → List LinkFault
reading_faults path (Ok t) = []
reading_faults path (Err (reasons.Syntax offset)) = At TemplateAt path (decimal offset) ∷ []
reading_faults path (Err reasons.TooMany) = At TemplateAt path (codes "many") ∷ []
reading_faults path (Err reasons.NoMemory) = []

-- a text is no template, or one with too many segments or variables
abbrev pub template_faults : List ℕ → List ℕ → List LinkFault
template_faults path text = reading_faults path (reading text)

-- a custom pattern has a kind that is no method
abbrev pub kind_faults : List ℕ → PatternInfo → List LinkFault
kind_faults path (Custom kind text) = fault_if (not (is_method_kind kind)) (At BadMethod path kind)
kind_faults path _ = []

-- a rule has no pattern, or one with a fault of its kind or then of its template
abbrev pub pattern_faults : List ℕ → Option PatternInfo → List LinkFault
pattern_faults path None = At NoPattern path [] ∷ []
pattern_faults path (Some p) = kind_faults path p ++ template_faults path (pattern_text p)

-- the faults of the pattern of a rule
abbrev pub rule_faults : List ℕ → HttpInfo → List LinkFault
rule_faults path rule = pattern_faults path (out-HttpInfo rule).pattern

-- an additional rule has additional rules, or a fault of any rule
abbrev pub additional_faults : List ℕ → HttpInfo → List LinkFault
additional_faults path rule = fault_if (nat_le 1 (length (additional_rules rule))) (At NestedAdditional path []) ++ rule_faults path rule

-- the faults of a method: its input, then its output, then its rules in order
abbrev pub method_faults : SetTypes → BoundMethod → List LinkFault
method_faults types m =
    unknown_message types m.path m.input
    ++ (unknown_message types m.path m.output
    ++ (rule_faults m.path m.rule ++ flat_map (additional_faults m.path) (additional_rules m.rule)))

-- the faults of methods, in order
abbrev pub methods_faults : SetTypes → List BoundMethod → List LinkFault
methods_faults types ms = flat_map (method_faults types) ms
