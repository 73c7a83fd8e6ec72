-- Where a text that is no template goes wrong.
use Rattle.std.specs.Prelude.{◌≡◌, ◌≤◌, ◌<◌, ◌+◌, ℕ, List, ◌++◌, length, take}
use Rattle.http_rules.specs.declared.template.Template.{Template}
use Rattle.http_rules.specs.Template.{IsTemplateText}

-- some bytes complete these to a template
abbrev pub BeginsTemplate : List ℕ → Type 0
BeginsTemplate bytes = (rest : List ℕ) × (t : Template) × IsTemplateText (bytes ++ rest) t

-- the text is a template
abbrev pub IsSomeTemplate : List ℕ → Type 0
IsSomeTemplate text = (t : Template) × IsTemplateText text t

-- the offset is that of the first byte after which no template begins with the bytes so far, or, of
-- a text that begins a template and is none, its length
pub record IsSyntaxFault (text : List ℕ) (offset : ℕ) : Type 0 where
  pub within : offset ≤ length text
  pub begins : BeginsTemplate (take offset text)
  pub stops : offset < length text → BeginsTemplate (take (offset + 1) text) → ⊥
  pub ends : offset ≡ length text → IsSomeTemplate text → ⊥
