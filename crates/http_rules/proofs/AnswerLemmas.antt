-- The answer to a text, by its fault or its meaning.
use Rattle.std.proofs.Common.{◌≡◌, ℕ, List, Some, Ok, Err, Result, ◌↔◌, refl, sym, ap, ◌∙◌, subst}
use Rattle.std.specs.Prelude.{IfOk}
use Rattle.http_rules.specs.declared.template.Template.{Template}
use Rattle.http_rules.specs.declared.fault.TemplateFault.{TemplateFault}
use Rattle.http_rules.specs.declared.fault.TemplateFault.TheVariants as faults
use Rattle.http_rules.specs.Template.{IsTemplateText, IsWithinLimits, IsTemplate}
use Rattle.http_rules.specs.TemplatePrefix.{IsSomeTemplate, IsSyntaxFault}
use Rattle.http_rules.specs.TemplateLimits.{RefusesOver}
use Rattle.http_rules.specs.TemplateFaults.{IsTooMany, IsUnlessNoMemory}
use Rattle.http_rules.proofs.MachineRuns.{template_is_read}
use Rattle.http_rules.proofs.PrefixLemmas.{whole_has_none, one_fault}

-- a text has one meaning
pub one_meaning : (s : List ℕ) (t u : Template) → IsTemplateText s t → IsTemplateText s u → t ≡ u
one_meaning s t u h k = let same : Some t ≡ Some u = sym (template_is_read s t h) ∙ template_is_read s u k in cc (same)

-- the refusal of a syntax fault at this offset
abbrev pub refused_at : ℕ → Result Template TemplateFault
refused_at n = Err (faults.Syntax n)

-- a text that has a fault is refused at that offset and at no other
pub fault_exact : (s : List ℕ) (n k : ℕ) → IsSyntaxFault s n → (refused_at n ≡ refused_at k) ↔ IsSyntaxFault s k
fault_exact s n k h = ((λ e. let same : n ≡ k = cc in subst (IsSyntaxFault s) same h), (λ f. ap refused_at (one_fault s n k h f)))

-- a text that has a fault is no template
pub fault_read : (s : List ℕ) (n : ℕ) (t : Template) → IsSyntaxFault s n → IsTemplateText s t → ⊥
fault_read s n t h k = whole_has_none s n h (t, k)

-- a text that has a fault is no template past the limits
pub fault_many : (s : List ℕ) (n : ℕ) → IsSyntaxFault s n → IsTooMany s → ⊥
fault_many s n h k = whole_has_none s n h (k.0, k.1)

-- a template is not refused for its syntax, and has no fault
pub whole_exact : (r : Result Template TemplateFault) (s : List ℕ) (k : ℕ) → IsSomeTemplate s → RefusesOver r (IsTooMany s) → (r ≡ Err (faults.Syntax k)) ↔ IsSyntaxFault s k
whole_exact (Ok t) s k w h = ((λ e. absurd (cc (e))), (λ f. absurd (whole_has_none s k f w)))
whole_exact (Err faults.TooMany) s k w h = ((λ e. absurd (cc (e))), (λ f. absurd (whole_has_none s k f w)))
whole_exact (Err faults.NoMemory) s k w h = ((λ e. absurd (cc (e))), (λ f. absurd (whole_has_none s k f w)))
whole_exact (Err (faults.Syntax n)) s k w h = absurd h

-- what is refused as too many is a template past the limits
pub whole_only_many : (r : Result Template TemplateFault) (s : List ℕ) → RefusesOver r (IsTooMany s) → r ≡ Err faults.TooMany → IsTooMany s
whole_only_many r s h e = subst (λ x. RefusesOver x (IsTooMany s)) e h

-- a template within the limits is what is read, unless memory runs out
pub whole_read : (r : Result Template TemplateFault) (s : List ℕ) (t : Template) → IfOk r (IsTemplateText s) → RefusesOver r (IsTooMany s) → IsTemplateText s t → IsWithinLimits t → IsUnlessNoMemory r (Ok t)
whole_read (Ok u) s t m h k w = ap Ok (one_meaning s u t m k)
whole_read (Err faults.TooMany) s t m h k w = absurd (h.2 (subst IsWithinLimits (one_meaning s t h.0 k h.1) w))
whole_read (Err faults.NoMemory) s t m h k w = tt
whole_read (Err (faults.Syntax n)) s t m h k w = absurd h

-- a template past the limits is refused as too many, unless memory runs out
pub whole_many : (r : Result Template TemplateFault) (s : List ℕ) → IfOk r (IsTemplateText s) → IfOk r IsWithinLimits → RefusesOver r (IsTooMany s) → IsTooMany s → IsUnlessNoMemory r (Err faults.TooMany)
whole_many (Ok u) s m f h k = absurd (k.2 (subst IsWithinLimits (one_meaning s u k.0 m k.1) f))
whole_many (Err faults.TooMany) s m f h k = refl
whole_many (Err faults.NoMemory) s m f h k = tt
whole_many (Err (faults.Syntax n)) s m f h k = absurd h

-- what is read within the limits is a template that can be parsed
pub whole_template : (r : Result Template TemplateFault) (s : List ℕ) → IfOk r (IsTemplateText s) → IfOk r IsWithinLimits → IfOk r IsTemplate
whole_template (Ok u) s m f = record { text = s; means = m; within = f }
whole_template (Err e) s m f = tt
