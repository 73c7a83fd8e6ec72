-- Each text has one reading.
use Rattle.std.proofs.Common.{◌≡◌, ◌<◌, ◌≤◌, ℕ, suc, ◌+◌, Bool, true, false, cond, List, [], ◌∷◌, length, take, Option, Some, None, Result, Ok, Err, ◌⊎◌, inl, inr, ◌↔◌, refl, sym, ap, ◌∙◌, subst, arith}
use Rattle.std.proofs.lemmas.Bool.{cases_lt}
use Rattle.std.proofs.lemmas.Bool.Decides.{nat_tests}
use Rattle.std.proofs.lemmas.List.{take_all}
use Rattle.std.specs.Prelude.{IfOk}
use Rattle.http_rules.specs.declared.template.Template.{Template}
use Rattle.http_rules.specs.declared.fault.TemplateFault.{TemplateFault}
use Rattle.http_rules.specs.declared.fault.TemplateFault.TheVariants as faults
use Rattle.http_rules.specs.declared.state.State.{State}
use Rattle.http_rules.specs.declared.state.State.TheVariants as state
use Rattle.http_rules.specs.Template.{IsTemplateText, IsWithinLimits, IsTemplate}
use Rattle.http_rules.specs.TemplateFaults.{IsTooMany, IsUnlessNoMemory}
use Rattle.http_rules.specs.TemplateMachine.{after, is_final, reach, read_template}
use Rattle.http_rules.specs.TemplatePrefix.{IsSyntaxFault}
use Rattle.http_rules.specs.TemplateReading.{IsReading, fault_offset, is_within_limits, led_from, one_more, read_or_fault, reading}
use Rattle.http_rules.proofs.AnswerLemmas.{fault_many, fault_read, one_meaning, refused_at}
use Rattle.http_rules.proofs.MachineReads.{read_is_template}
use Rattle.http_rules.proofs.MachineRuns.{template_is_read}
use Rattle.http_rules.proofs.PrefixLemmas.{one_fault, stops_at, stops_at_end, whole_where}

-- a text has one reading at most
pub one_reading : (s : List ℕ) (r u : Result Template TemplateFault) → IsReading s r → IsReading s u → r ≡ u
one_reading s (Ok t) (Ok u) h k = ap Ok (one_meaning s t u h.0 k.0)
one_reading s (Ok t) (Err faults.TooMany) h k = absurd (k.2 (subst IsWithinLimits (one_meaning s t k.0 h.0 k.1) h.1))
one_reading s (Ok t) (Err (faults.Syntax n)) h k = absurd (fault_read s n t k h.0)
one_reading s (Ok t) (Err faults.NoMemory) h k = absurd k
one_reading s (Err faults.TooMany) (Ok u) h k = absurd (h.2 (subst IsWithinLimits (one_meaning s u h.0 k.0 h.1) k.1))
one_reading s (Err faults.TooMany) (Err faults.TooMany) h k = refl
one_reading s (Err faults.TooMany) (Err (faults.Syntax n)) h k = absurd (fault_many s n k h)
one_reading s (Err faults.TooMany) (Err faults.NoMemory) h k = absurd k
one_reading s (Err (faults.Syntax n)) (Ok u) h k = absurd (fault_read s n u h k.0)
one_reading s (Err (faults.Syntax n)) (Err faults.TooMany) h k = absurd (fault_many s n h k)
one_reading s (Err (faults.Syntax n)) (Err (faults.Syntax m)) h k = ap refused_at (one_fault s n m h k)
one_reading s (Err (faults.Syntax n)) (Err faults.NoMemory) h k = absurd k
one_reading s (Err faults.NoMemory) u h k = absurd h

-- so many bytes lead from a state to another, and the next one nowhere
record Leads (p : State) (s : List ℕ) (n : ℕ) : Type 0 where
  last : State
  within : n ≤ length s
  before : reach (Some p) (take n s) ≡ Some last
  stops : n < length s → reach (Some p) (take (n + 1) s) ≡ None

-- the bytes that are counted lead from a state to another
leads : (p : State) (s : List ℕ) → Leads p s (led_from (Some p) s)
leads p [] = record { last = p; within = omega arith; before = refl; stops = λ h. absurd (omega (arith, h)) }
leads p (b ∷ s) = by_next (after p b) refl (λ q. leads q s)
  where
    by_next : (o : Option State) → after p b ≡ o → ((q : State) → Leads q s (led_from (Some q) s))
        → Leads p (b ∷ s) (one_more o (led_from o s))
    by_next None e go = record { last = p; within = omega arith; before = refl; stops = λ _. ap (λ o. reach o []) e }
    by_next (Some q) e go =
        let n = led_from (Some q) s in
        let next : suc n + 1 ≡ suc (n + 1) = omega arith in
        let shorter : suc n < length (b ∷ s) → n < length s = λ h. omega (arith, h) in
        record {
          last = (go q).last;
          within = omega (arith, (go q).within);
          before = ap (λ o. reach o (take n s)) e ∙ (go q).before;
          stops = λ h. ap (λ k. reach (Some p) (take k (b ∷ s))) next
              ∙ ap (λ o. reach o (take (n + 1) s)) e ∙ (go q).stops (shorter h);
        }

-- a text that means no template goes wrong at the offset that is counted
fault_is : (s : List ℕ) → read_template s ≡ None → IsSyntaxFault s (fault_offset s)
fault_is s none = by_order (cases_lt (fault_offset s) (length s))
  where
    by_end : (p : State) (f : Bool) → is_final p ≡ f → reach (Some state.Start) s ≡ Some p → IsSyntaxFault s (length s)
    by_end p true e r =
        let t = whole_where s p r e in
        let some : None ≡ Some t.0 = sym none ∙ template_is_read s t.0 t.1 in
        absurd (cc (some))
    by_end p false e r = stops_at_end s p r e

    by_order : (fault_offset s < length s) ⊎ (length s ≤ fault_offset s) → IsSyntaxFault s (fault_offset s)
    by_order (inl lt) = let l = leads state.Start s in stops_at s (fault_offset s) l.last lt l.before (l.stops lt)
    by_order (inr le) =
        let l = leads state.Start s in
        let same : length s ≡ fault_offset s = omega (arith, le, l.within) in
        let whole : reach (Some state.Start) s ≡ Some l.last =
        ap (reach (Some state.Start)) (sym (take_all (fault_offset s) s le)) ∙ l.before in
        subst (IsSyntaxFault s) same (by_end l.last (is_final l.last) refl whole)

-- the test of the limits tells them
limits_hold : (t : Template) → is_within_limits t ≡ true → IsWithinLimits t
limits_hold t h = (grind (arith, nat_tests), grind (arith, nat_tests))

-- where it is false the template is past them
limits_fail : (t : Template) → is_within_limits t ≡ false → IsWithinLimits t → ⊥
limits_fail t h w = let a = w.0 in let b = w.1 in grind (arith, nat_tests)

-- a template is read within the limits
template_reading : (s : List ℕ) (t : Template) (b : Bool) → is_within_limits t ≡ b → IsTemplateText s t
    → IsReading s (cond b (Ok t) (Err faults.TooMany))
template_reading s t true e h = (h, limits_hold t e)
template_reading s t false e h = (t, h, limits_fail t e)

-- what is read of a text is its reading
pub reading_is : (s : List ℕ) → IsReading s (reading s)
reading_is s = by_read (read_template s) refl
  where
    by_read : (o : Option Template) → read_template s ≡ o → IsReading s (read_or_fault (fault_offset s) o)
    by_read None e = fault_is s e
    by_read (Some t) e = template_reading s t (is_within_limits t) refl (read_is_template s t e)

-- a reading is what is read
pub reading_only : (s : List ℕ) (r : Result Template TemplateFault) → IsReading s r → r ≡ reading s
reading_only s r h = one_reading s r (reading s) h (reading_is s)

-- an answer that is right where it is no want of memory is what is read
pub answer_reads : (r : Result Template TemplateFault) (s : List ℕ) → IfOk r (IsTemplateText s) → IfOk r IsTemplate
    → (r ≡ Err faults.TooMany → IsTooMany s) → ((n : ℕ) → (r ≡ Err (faults.Syntax n)) ↔ IsSyntaxFault s n)
    → IsUnlessNoMemory r (reading s)
answer_reads (Ok t) s means template many syntax = reading_only s (Ok t) (means, template.within)
answer_reads (Err faults.TooMany) s means template many syntax = reading_only s (Err faults.TooMany) (many refl)
answer_reads (Err faults.NoMemory) s means template many syntax = tt
answer_reads (Err (faults.Syntax n)) s means template many syntax = reading_only s (refused_at n) ((syntax n).0 refl)
