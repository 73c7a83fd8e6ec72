-- The texts of why a template is not read.
use Rattle.std.specs.Prelude.{◌++◌, ℕ, List, codes, decimal}
use Rattle.base.specs.NoMemoryText.{no_memory_text}
use Rattle.http_rules.specs.declared.fault.TemplateFault.{TemplateFault}
use Rattle.http_rules.specs.declared.fault.TemplateFault.TheVariants as found

-- the text of a fault, with its offset in decimal
abbrev pub template_fault_text : TemplateFault → List ℕ
template_fault_text (found.Syntax offset) = codes "syntax fault at " ++ decimal offset
template_fault_text found.TooMany = codes "too many segments or variables"
template_fault_text found.NoMemory = no_memory_text
