-- What building a template keeps: the bytes left complete the parts to what the text means.
use Rattle.std.proofs.Common.{◌≡◌, ◌<◌, ◌≤◌, ℕ, suc, ◌+◌, Bool, true, false, List, [], ◌∷◌, length, drop, get_or, Option, Some, None, refl, sym, ap, ◌∙◌, subst, arith, length-append, drop-cons}
use Rattle.std.proofs.lemmas.List.{drop_all}
use Rattle.std.proofs.lemmas.Bool.Decides.{nat_tests}
use Rattle.std.specs.Prelude.{option_map, IfSome, Result, Ok, Err}
use Rattle.http_rules.specs.declared.template.Template.{Template}
use Rattle.http_rules.specs.declared.fault.TemplateFault.{TemplateFault}
use Rattle.http_rules.specs.declared.fault.TemplateFault.TheVariants as faults
use Rattle.http_rules.specs.declared.state.Class.{Class}
use Rattle.http_rules.specs.declared.state.Class.TheVariants as class
use Rattle.http_rules.specs.declared.state.Level.TheVariants as level
use Rattle.http_rules.specs.declared.state.State.{State}
use Rattle.http_rules.specs.declared.state.State.TheVariants as state
use Rattle.http_rules.specs.declared.state.Act.{Act}
use Rattle.http_rules.specs.declared.state.Act.TheVariants as act
use Rattle.http_rules.specs.declared.parts.Parts.{Parts}
use Rattle.http_rules.specs.Template.{is_literal_byte, IsTemplateText, IsWithinLimits}
use Rattle.http_rules.specs.TemplatePrefix.{IsSomeTemplate}
use Rattle.http_rules.specs.TemplateMachine.{class_of, turn, is_final, did, kept, finish, run, read_template}
use Rattle.http_rules.specs.TemplateLimits.{AreFew, KeepsAscii, RefusesOver}
use Rattle.http_rules.proofs.PartLemmas.{ClassSays, class_says}
use Rattle.http_rules.proofs.MachineReads.{read_is_template}
use Rattle.http_rules.proofs.MachineRuns.{template_is_read}
use Rattle.http_rules.proofs.PrefixLemmas.{did_grows, finish_none}

-- the parts only grow

-- the parts have no more segments and variables than the template
abbrev Grows : Parts → Template → Type 0
Grows m t = (length m.segments ≤ length t.segments) × (length m.variables ≤ length t.variables)

same_grows : (m : Parts) (u t : Template) → Some u ≡ Some t → Grows m u → Grows m t
same_grows m u t e h = let same : u ≡ t = cc in subst (Grows m) same h

finish_grows : (p : State) (m : Parts) (t : Template) → finish p m ≡ Some t → Grows m t
finish_grows state.Start m t e = absurd (cc)
finish_grows (state.Segment l) m t e = absurd (cc)
finish_grows (state.Star level.Outer) m t e = same_grows m _ t e (simp length-append (omega arith), omega arith)
finish_grows (state.Star level.Inner) m t e = absurd (cc)
finish_grows (state.Stars level.Outer) m t e = same_grows m _ t e (simp length-append (omega arith), omega arith)
finish_grows (state.Stars level.Inner) m t e = absurd (cc)
finish_grows (state.Literal level.Outer) m t e = same_grows m _ t e (simp length-append (omega arith), omega arith)
finish_grows (state.Literal level.Inner) m t e = absurd (cc)
finish_grows state.Name m t e = absurd (cc)
finish_grows state.Path m t e = absurd (cc)
finish_grows state.Closed m t e = same_grows m _ t e (omega arith, omega arith)
finish_grows state.ClosedRest m t e = same_grows m _ t e (omega arith, omega arith)
finish_grows state.Colon m t e = absurd (cc)
finish_grows state.Verb m t e = same_grows m _ t e (omega arith, omega arith)

run_grows : (s : List ℕ) (p : State) (m : Parts) (t : Template) → run (Some p) m s ≡ Some t → Grows m t
run_grows [] p m t e = finish_grows p m t e
run_grows (b ∷ s) p m t e = by_turn (turn p (class_of b)) (λ q n f. run_grows s q n t f) e
  where
    by_turn : (o : Option (State × Act)) → ((q : State) (n : Parts) → run (Some q) n s ≡ Some t → Grows n t) → run (option_map (λ x. x.0) o) (kept o b m) s ≡ Some t → Grows m t
    by_turn None go f = absurd (cc)
    by_turn (Some x) go f =
        let g = did_grows x.1 b m in
        let h = go x.0 (did x.1 b m) f in
        (omega (arith, g.0, h.0), omega (arith, g.1, h.1))

-- parts past the limits lead to a template past the limits
pub over_limits : (s : List ℕ) (p : State) (m : Parts) (t : Template) → run (Some p) m s ≡ Some t → (AreFew m → ⊥) → IsWithinLimits t → ⊥
over_limits s p m t e over w = let g = run_grows s p m t e in over (omega (arith, g.0, w.0), omega (arith, g.1, w.1))

-- a byte that is kept is ASCII

literal_ascii : (b : ℕ) → is_literal_byte b ≡ true → b < 128
literal_ascii b h = grind (arith, nat_tests)

any_keeps : (a : Act) (b : ℕ) → b < 128 → KeepsAscii a b
any_keeps act.Skip b h = tt
any_keeps act.Keep b h = h
any_keeps act.EndName b h = tt
any_keeps act.OpenRange b h = tt
any_keeps act.CloseBare b h = tt
any_keeps (act.EndSegment x) b h = tt
any_keeps (act.CloseRange x) b h = tt

nowhere_by_other : (p : State) → turn p class.Other ≡ None
nowhere_by_other state.Start = refl
nowhere_by_other (state.Segment level.Outer) = refl
nowhere_by_other (state.Segment level.Inner) = refl
nowhere_by_other (state.Star level.Outer) = refl
nowhere_by_other (state.Star level.Inner) = refl
nowhere_by_other (state.Stars level.Outer) = refl
nowhere_by_other (state.Stars level.Inner) = refl
nowhere_by_other (state.Literal level.Outer) = refl
nowhere_by_other (state.Literal level.Inner) = refl
nowhere_by_other state.Name = refl
nowhere_by_other state.Path = refl
nowhere_by_other state.Closed = refl
nowhere_by_other state.ClosedRest = refl
nowhere_by_other state.Colon = refl
nowhere_by_other state.Verb = refl

keeps_at : (p : State) (c : Class) (b : ℕ) (x : State × Act) → ClassSays c b → turn p c ≡ Some x → KeepsAscii x.1 b
keeps_at p (class.Literal k) b x e f = any_keeps x.1 b (literal_ascii b e.0)
keeps_at p class.Slash b x e f = any_keeps x.1 b (omega (arith, e))
keeps_at p class.Star b x e f = any_keeps x.1 b (omega (arith, e))
keeps_at p class.Colon b x e f = any_keeps x.1 b (omega (arith, e))
keeps_at p class.Open b x e f = any_keeps x.1 b (omega (arith, e))
keeps_at p class.Close b x e f = any_keeps x.1 b (omega (arith, e))
keeps_at p class.Other b x e f = let none : None ≡ Some x = sym (nowhere_by_other p) ∙ f in absurd (cc (none))

-- the machine keeps bytes of ASCII alone
pub keeps_ascii : (p : State) (b : ℕ) (x : State × Act) → turn p (class_of b) ≡ Some x → KeepsAscii x.1 b
keeps_ascii p b x e = keeps_at p (class_of b) b x (class_says b) e

-- one step of the run
pub run_step : (p q : State) (a : Act) (m : Parts) (b : ℕ) (s : List ℕ) → turn p (class_of b) ≡ Some (q, a) → run (Some p) m (b ∷ s) ≡ run (Some q) (did a b m) s
run_step p q a m b s e = ap (λ o. run (option_map (λ x. x.0) o) (kept o b m) s) e

-- where no byte leads on, nothing is read
pub run_stops : (p : State) (m : Parts) (b : ℕ) (s : List ℕ) → turn p (class_of b) ≡ None → run (Some p) m (b ∷ s) ≡ None
run_stops p m b s e = ap (λ o. run (option_map (λ x. x.0) o) (kept o b m) s) e

-- the steps of the loop

-- the byte that the loop takes leads from what is left to what is left behind it
pub build_step : (s : List ℕ) (i : ℕ) (p q : State) (a : Act) (m : Parts) → i < length s → run (Some p) m (drop i s) ≡ read_template s → turn p (class_of (get_or s i 0)) ≡ Some (q, a)
    → run (Some q) (did a (get_or s i 0) m) (drop (i + 1) s) ≡ read_template s
build_step s i p q a m h e f =
    let more : i + 1 ≡ suc i = omega arith in
    ap (λ k. run (Some q) (did a (get_or s i 0) m) (drop k s)) more
    ∙ sym (run_step p q a m (get_or s i 0) (drop (suc i) s) f)
    ∙ ap (run (Some p) m) (sym (drop-cons s i 0 h))
    ∙ e

read_some : (s : List ℕ) (h : IsSomeTemplate s) → read_template s ≡ Some h.0
read_some s h = template_is_read s h.0 h.1

-- a template has no byte that leads nowhere
pub build_goes_on : (s : List ℕ) (i : ℕ) (p : State) (m : Parts) → i < length s → run (Some p) m (drop i s) ≡ read_template s → turn p (class_of (get_or s i 0)) ≡ None → IsSomeTemplate s → ⊥
build_goes_on s i p m h e f w =
    let none : None ≡ Some w.0 = sym (run_stops p m (get_or s i 0) (drop (suc i) s) f) ∙ ap (run (Some p) m) (sym (drop-cons s i 0 h)) ∙ e ∙ read_some s w in
    absurd (cc (none))

-- a template that is meant and past the limits
abbrev pub IsOver : List ℕ → Type 0
IsOver s = (t : Template) × IsTemplateText s t × (IsWithinLimits t → ⊥)

-- parts that pass the limits with a byte are those of a template past the limits
pub build_over : (s : List ℕ) (i : ℕ) (p q : State) (a : Act) (m : Parts) → i < length s → run (Some p) m (drop i s) ≡ read_template s → turn p (class_of (get_or s i 0)) ≡ Some (q, a) → IsSomeTemplate s
    → (AreFew (did a (get_or s i 0) m) → ⊥) → IsOver s
build_over s i p q a m h e f w over =
    (w.0, w.1, over_limits (drop (i + 1) s) q (did a (get_or s i 0) m) w.0 (build_step s i p q a m h e f ∙ read_some s w) over)

-- with no byte left, the parts are finished to what the text means
pub build_end : (s : List ℕ) (i : ℕ) (p : State) (m : Parts) → length s ≤ i → run (Some p) m (drop i s) ≡ read_template s → finish p m ≡ read_template s
build_end s i p m h e = ap (run (Some p) m) (sym (drop_all i s h)) ∙ e

-- a template ends in a final state
pub end_is_final : (s : List ℕ) (p : State) (m : Parts) → finish p m ≡ read_template s → IsSomeTemplate s → is_final p ≡ true
end_is_final s p m e w = by_test (is_final p) refl
  where
    by_test : (b : Bool) → is_final p ≡ b → b ≡ true
    by_test true f = refl
    by_test false f = let none : None ≡ Some w.0 = sym (finish_none p m f) ∙ e ∙ read_some s w in absurd (cc (none))

-- what the parts are finished to is what the text means
pub end_means : (s : List ℕ) (p : State) (m : Parts) (t : Template) → finish p m ≡ read_template s → finish p m ≡ Some t → IsTemplateText s t
end_means s p m t e f = read_is_template s t (sym e ∙ f)

-- parts that are finished past the limits are those of a template past the limits
pub end_over : (s : List ℕ) (p : State) (m : Parts) → finish p m ≡ read_template s → IsSomeTemplate s → IfSome (finish p m) (λ t. IsWithinLimits t → ⊥) → IsOver s
end_over s p m e w over = (w.0, w.1, subst (λ o. IfSome o (λ t. IsWithinLimits t → ⊥)) (e ∙ read_some s w) over)

-- a refusal for one reason is one for each reason that follows from it
pub refuses_weaker : {T : Type 0} (r : Result T TemplateFault) (P Q : Type 0) → (P → Q) → RefusesOver r P → RefusesOver r Q
refuses_weaker (Ok x) P Q f h = tt
refuses_weaker (Err faults.TooMany) P Q f h = f h
refuses_weaker (Err faults.NoMemory) P Q f h = tt
refuses_weaker (Err (faults.Syntax n)) P Q f h = h
