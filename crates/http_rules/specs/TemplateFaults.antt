-- What is answered to a text.
use Rattle.std.specs.Prelude.{◌≡◌, List, ℕ, Result, Ok, Err, ⊤}
use Rattle.http_rules.specs.declared.template.Template.{Template}
use Rattle.http_rules.specs.declared.fault.TemplateFault.{TemplateFault}
use Rattle.http_rules.specs.declared.fault.TemplateFault.TheVariants as faults
use Rattle.http_rules.specs.Template.{IsTemplateText, IsWithinLimits}

-- the text is a template past the limits
abbrev pub IsTooMany : List ℕ → Type 0
IsTooMany text = (t : Template) × IsTemplateText text t × (IsWithinLimits t → ⊥)

-- the answer is this one, but for out of memory
abbrev pub IsUnlessNoMemory : Result Template TemplateFault → Result Template TemplateFault → Type 0
IsUnlessNoMemory (Ok t) r = Ok t ≡ r
IsUnlessNoMemory (Err faults.NoMemory) r = ⊤
IsUnlessNoMemory (Err faults.TooMany) r = Err faults.TooMany ≡ r
IsUnlessNoMemory (Err (faults.Syntax n)) r = Err (faults.Syntax n) ≡ r
