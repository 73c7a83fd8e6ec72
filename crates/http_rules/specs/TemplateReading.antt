-- What is read of a text, whether or not it is a template (google/api/http.proto, path template syntax).
use Rattle.std.specs.Prelude.{ℕ, suc, nat_le, Bool, ◌&&◌, List, [], ◌∷◌, length, Option, Some, None, Result, Ok, Err, if◌then◌else◌}
use Rattle.http_rules.specs.declared.fault.TemplateFault.{TemplateFault}
use Rattle.http_rules.specs.declared.fault.TemplateFault.TheVariants as faults
use Rattle.http_rules.specs.declared.state.State.{State}
use Rattle.http_rules.specs.declared.state.State.TheVariants as state
use Rattle.http_rules.specs.declared.template.Template.{Template}
use Rattle.http_rules.specs.Template.{IsTemplateText, IsWithinLimits}
use Rattle.http_rules.specs.TemplateFaults.{IsTooMany}
use Rattle.http_rules.specs.TemplateMachine.{after, read_template}
use Rattle.http_rules.specs.TemplatePrefix.{IsSyntaxFault}

-- this is what is read of the text: the template that it means, within the limits, or that it means one past them, or
-- where it goes wrong. Want of memory is never what is read.
abbrev pub IsReading : List ℕ → Result Template TemplateFault → Type 0
IsReading text (Ok t) = IsTemplateText text t × IsWithinLimits t
IsReading text (Err faults.TooMany) = IsTooMany text
IsReading text (Err (faults.Syntax n)) = IsSyntaxFault text n
IsReading text (Err faults.NoMemory) = ⊥

-- one more, where there is a state
abbrev pub one_more : Option State → ℕ → ℕ
one_more None n = n
one_more (Some p) n = suc n

-- how many bytes lead from a state to another, one after another
abbrev pub led_from : Option State → List ℕ → ℕ
led_from None s = 0
led_from (Some p) [] = 0
led_from (Some p) (b ∷ s) = one_more (after p b) (led_from (after p b) s)

-- the offset of the byte that leads nowhere, or the length of the text
abbrev pub fault_offset : List ℕ → ℕ
fault_offset text = led_from (Some state.Start) text

-- whether a template is within the limits: at most 64 segments and 16 variables
abbrev pub is_within_limits : Template → Bool
is_within_limits t = nat_le (length t.segments) 64 && nat_le (length t.variables) 16

-- the template that a text means is read within the limits; where it means none, its fault is at this offset
abbrev pub read_or_fault : ℕ → Option Template → Result Template TemplateFault
read_or_fault offset None = Err (faults.Syntax offset)
read_or_fault offset (Some t) = if is_within_limits t then Ok t else Err faults.TooMany

-- what is read of a text
abbrev pub reading : List ℕ → Result Template TemplateFault
reading text = read_or_fault (fault_offset text) (read_template text)
