-- What the state of the machine says of the bytes so far.
use Rattle.std.proofs.Common.{◌≡◌, ◌<◌, ◌≤◌, ℕ, ◌+◌, true, false, List, [], ◌∷◌, ◌++◌, length, take, drop, get_or, Option, Some, None, ◌⊎◌, inl, inr, refl, sym, ap, ◌∙◌, subst, arith, append_assoc, length-append}
use Rattle.std.proofs.lemmas.List.{append-nil, take-take, take-append-drop, take_all, take_more}
use Rattle.std.proofs.lemmas.Bool.{cases_lt}
use Rattle.std.specs.Prelude.{option_map}
use Rattle.http_rules.specs.declared.template.Template.{Template}
use Rattle.http_rules.specs.declared.state.Level.TheVariants as level
use Rattle.http_rules.specs.declared.state.State.{State}
use Rattle.http_rules.specs.declared.state.State.TheVariants as state
use Rattle.http_rules.specs.declared.state.Act.{Act}
use Rattle.http_rules.specs.declared.state.Act.TheVariants as act
use Rattle.http_rules.specs.declared.parts.Parts.{Parts}
use Rattle.http_rules.specs.Template.{IsTemplateText}
use Rattle.http_rules.specs.TemplatePrefix.{BeginsTemplate, IsSomeTemplate, IsSyntaxFault}
use Rattle.http_rules.specs.TemplateMachine.{class_of, turn, is_final, after, reach, no_parts, did, kept, finish, run, read_template}
use Rattle.http_rules.proofs.MachineReads.{read_is_template}
use Rattle.http_rules.proofs.MachineRuns.{template_is_read}

-- bytes are read one after another
run_through : (a : List ℕ) (o : Option State) (m : Parts) → (n : Parts) × ((b : List ℕ) → run o m (a ++ b) ≡ run (reach o a) n b)
run_through [] None m = (m, λ b. refl)
run_through [] (Some p) m = (m, λ b. refl)
run_through (x ∷ a) None m = (m, λ b. refl)
run_through (x ∷ a) (Some p) m = run_through a (after p x) (kept (turn p (class_of x)) x m)

reach_nil : (o : Option State) → reach o [] ≡ o
reach_nil None = refl
reach_nil (Some p) = refl

same_state : (p q : State) → Some p ≡ Some q → p ≡ q
same_state p q e = cc

-- one byte more leads one step further
pub reach_more : (a : List ℕ) (o : Option State) (p : State) (b : ℕ) → reach o a ≡ Some p → reach o (a ++ b ∷ []) ≡ after p b
reach_more [] None p b e = absurd (cc)
reach_more [] (Some q) p b e = reach_nil (after q b) ∙ ap (λ x. after x b) (same_state q p e)
reach_more (x ∷ a) None p b e = absurd (cc)
reach_more (x ∷ a) (Some q) p b e = reach_more a (after q x) p b e

-- from each state some bytes lead to the end of a template
completes : (p : State) (m : Parts) → (b : List ℕ) × (t : Template) × (run (Some p) m b ≡ Some t)
completes state.Start m = (47 ∷ 42 ∷ [], _, refl)
completes (state.Segment level.Outer) m = (42 ∷ [], _, refl)
completes (state.Segment level.Inner) m = (42 ∷ 125 ∷ [], _, refl)
completes (state.Star level.Outer) m = ([], _, refl)
completes (state.Star level.Inner) m = (125 ∷ [], _, refl)
completes (state.Stars level.Outer) m = ([], _, refl)
completes (state.Stars level.Inner) m = (125 ∷ [], _, refl)
completes (state.Literal level.Outer) m = ([], _, refl)
completes (state.Literal level.Inner) m = (125 ∷ [], _, refl)
completes state.Name m = (97 ∷ 125 ∷ [], _, refl)
completes state.Path m = (125 ∷ [], _, refl)
completes state.Closed m = ([], _, refl)
completes state.ClosedRest m = ([], _, refl)
completes state.Colon m = (97 ∷ [], _, refl)
completes state.Verb m = ([], _, refl)

-- bytes that lead to a state begin a template
pub begins_where : (s : List ℕ) (p : State) → reach (Some state.Start) s ≡ Some p → BeginsTemplate s
begins_where s p e =
    let r = run_through s (Some state.Start) no_parts in
    let c = completes p r.0 in
    (c.0, c.1, read_is_template (s ++ c.0) c.1 (r.1 c.0 ∙ ap (λ o. run o r.0 c.0) e ∙ c.2))

-- others do not
pub begins_nowhere : (s : List ℕ) → reach (Some state.Start) s ≡ None → BeginsTemplate s → ⊥
begins_nowhere s e h =
    let r = run_through s (Some state.Start) no_parts in
    let none : None ≡ Some h.1 = sym (ap (λ o. run o r.0 h.0) e) ∙ sym (r.1 h.0) ∙ template_is_read (s ++ h.0) h.1 h.2 in
    absurd (cc (none))

-- at a final state, and there alone, the text is a template
finish_some : (p : State) (m : Parts) → is_final p ≡ true → (t : Template) × (finish p m ≡ Some t)
finish_some state.Start m e = absurd (cc)
finish_some (state.Segment l) m e = absurd (cc)
finish_some (state.Star level.Outer) m e = (_, refl)
finish_some (state.Star level.Inner) m e = absurd (cc)
finish_some (state.Stars level.Outer) m e = (_, refl)
finish_some (state.Stars level.Inner) m e = absurd (cc)
finish_some (state.Literal level.Outer) m e = (_, refl)
finish_some (state.Literal level.Inner) m e = absurd (cc)
finish_some state.Name m e = absurd (cc)
finish_some state.Path m e = absurd (cc)
finish_some state.Closed m e = (_, refl)
finish_some state.ClosedRest m e = (_, refl)
finish_some state.Colon m e = absurd (cc)
finish_some state.Verb m e = (_, refl)

-- where no template may end, none is finished
pub finish_none : (p : State) (m : Parts) → is_final p ≡ false → finish p m ≡ None
finish_none state.Start m e = refl
finish_none (state.Segment l) m e = refl
finish_none (state.Star level.Outer) m e = absurd (cc)
finish_none (state.Star level.Inner) m e = refl
finish_none (state.Stars level.Outer) m e = absurd (cc)
finish_none (state.Stars level.Inner) m e = refl
finish_none (state.Literal level.Outer) m e = absurd (cc)
finish_none (state.Literal level.Inner) m e = refl
finish_none state.Name m e = refl
finish_none state.Path m e = refl
finish_none state.Closed m e = absurd (cc)
finish_none state.ClosedRest m e = absurd (cc)
finish_none state.Colon m e = refl
finish_none state.Verb m e = absurd (cc)

read_at : (s : List ℕ) (p : State) → reach (Some state.Start) s ≡ Some p → (m : Parts) × (read_template s ≡ finish p m)
read_at s p e =
    let r = run_through s (Some state.Start) no_parts in
    (r.0, ap read_template (sym (append-nil s)) ∙ r.1 [] ∙ ap (λ o. run o r.0 []) e)

-- a text whose last state is final is a template
pub whole_where : (s : List ℕ) (p : State) → reach (Some state.Start) s ≡ Some p → is_final p ≡ true → IsSomeTemplate s
whole_where s p e f =
    let r = read_at s p e in
    let t = finish_some p r.0 f in
    (t.0, read_is_template s t.0 (r.1 ∙ t.1))

-- a text whose last state is not final is no template
pub no_whole : (s : List ℕ) (p : State) → reach (Some state.Start) s ≡ Some p → is_final p ≡ false → IsSomeTemplate s → ⊥
no_whole s p e f h =
    let r = read_at s p e in
    let none : None ≡ Some h.0 = sym (finish_none p r.0 f) ∙ sym r.1 ∙ template_is_read s h.0 h.1 in
    absurd (cc (none))

-- the fault of a text

-- the byte that leads nowhere is the fault
pub stops_at : (s : List ℕ) (n : ℕ) (p : State) → n < length s → reach (Some state.Start) (take n s) ≡ Some p → reach (Some state.Start) (take (n + 1) s) ≡ None → IsSyntaxFault s n
stops_at s n p h e f = record {
  within = omega (arith, h);
  begins = begins_where (take n s) p e;
  stops = λ _ b. begins_nowhere (take (n + 1) s) f b;
  ends = λ x. absurd (omega (arith, x, h));
}

-- a text that ends too early has its fault at its end
pub stops_at_end : (s : List ℕ) (p : State) → reach (Some state.Start) s ≡ Some p → is_final p ≡ false → IsSyntaxFault s (length s)
stops_at_end s p e f = record {
  within = omega arith;
  begins = subst BeginsTemplate (sym (take_all (length s) s (omega arith))) (begins_where s p e);
  stops = λ x. absurd (omega (arith, x));
  ends = λ _ h. no_whole s p e f h;
}

-- the steps of the search

-- the byte that the search takes leads nowhere, so there is the fault
pub next_nowhere : (s : List ℕ) (i : ℕ) (p : State) → i < length s → reach (Some state.Start) (take i s) ≡ Some p → turn p (class_of (get_or s i 0)) ≡ None → IsSyntaxFault s i
next_nowhere s i p h e f =
    stops_at s i p h e (ap (reach (Some state.Start)) (take_more s i 0 h) ∙ reach_more (take i s) (Some state.Start) p (get_or s i 0) e ∙ ap (option_map (λ x. x.0)) f)

-- the byte that the search takes leads to the next state
pub next_where : (s : List ℕ) (i : ℕ) (p q : State) (a : Act) → i < length s → reach (Some state.Start) (take i s) ≡ Some p → turn p (class_of (get_or s i 0)) ≡ Some (q, a) → reach (Some state.Start) (take (i + 1) s) ≡ Some q
next_where s i p q a h e f =
    ap (reach (Some state.Start)) (take_more s i 0 h) ∙ reach_more (take i s) (Some state.Start) p (get_or s i 0) e ∙ ap (option_map (λ x. x.0)) f

-- with no byte left, a final state tells a template
pub ends_whole : (s : List ℕ) (i : ℕ) (p : State) → length s ≤ i → reach (Some state.Start) (take i s) ≡ Some p → is_final p ≡ true → IsSomeTemplate s
ends_whole s i p h e f = whole_where s p (ap (reach (Some state.Start)) (sym (take_all i s h)) ∙ e) f

-- with no byte left, any other state tells a fault at the end
pub ends_early : (s : List ℕ) (i : ℕ) (p : State) → length s ≤ i → reach (Some state.Start) (take i s) ≡ Some p → is_final p ≡ false → IsSyntaxFault s (length s)
ends_early s i p h e f = stops_at_end s p (ap (reach (Some state.Start)) (sym (take_all i s h)) ∙ e) f

-- what begins a template with more bytes does so with fewer
pub begins_shorter : (m n : ℕ) (s : List ℕ) → m ≤ n → BeginsTemplate (take n s) → BeginsTemplate (take m s)
begins_shorter m n s h b =
    let all : take m s ++ drop m (take n s) ≡ take n s = ap (λ l. l ++ drop m (take n s)) (sym (take-take m n s h)) ∙ take-append-drop m (take n s) in
    (drop m (take n s) ++ b.0, b.1, subst (λ l. IsTemplateText l b.1) (ap (λ l. l ++ b.0) (sym all) ∙ append_assoc (take m s) (drop m (take n s)) b.0) b.2)

-- a template has no fault
pub whole_has_none : (s : List ℕ) (n : ℕ) → IsSyntaxFault s n → IsSomeTemplate s → ⊥
whole_has_none s n f h = by_order (cases_lt n (length s))
  where
    whole_begins : BeginsTemplate s
    whole_begins = ([], h.0, subst (λ l. IsTemplateText l h.0) (sym (append-nil s)) h.1)

    by_order : (n < length s) ⊎ (length s ≤ n) → ⊥
    by_order (inl lt) = f.stops lt (begins_shorter (n + 1) (length s) s (omega (arith, lt)) (subst BeginsTemplate (sym (take_all (length s) s (omega arith))) whole_begins))
    by_order (inr le) = let same : n ≡ length s = omega (arith, le, f.within) in f.ends same h

-- a text has one fault at most
pub one_fault : (s : List ℕ) (m n : ℕ) → IsSyntaxFault s m → IsSyntaxFault s n → m ≡ n
one_fault s m n f g = by_order (cases_lt m n) (cases_lt n m)
  where
    not_below : (i j : ℕ) → IsSyntaxFault s i → IsSyntaxFault s j → i < j → ⊥
    not_below i j a b lt = let within : j ≤ length s = b.within in a.stops (omega (arith, lt, within)) (begins_shorter (i + 1) j s (omega (arith, lt)) b.begins)

    by_order : (m < n) ⊎ (n ≤ m) → (n < m) ⊎ (m ≤ n) → m ≡ n
    by_order (inl a) b = absurd (not_below m n f g a)
    by_order (inr a) (inl b) = absurd (not_below n m g f b)
    by_order (inr a) (inr b) = omega (arith, a, b)

-- the parts only grow

-- a byte takes no segment and no variable away
pub did_grows : (a : Act) (b : ℕ) (m : Parts) → (length m.segments ≤ length (did a b m).segments) × (length m.variables ≤ length (did a b m).variables)
did_grows act.Skip b m = (omega arith, omega arith)
did_grows act.Keep b m = (omega arith, omega arith)
did_grows act.EndName b m = (omega arith, omega arith)
did_grows act.OpenRange b m = (omega arith, omega arith)
did_grows act.CloseBare b m = (simp length-append (omega arith), simp length-append (omega arith))
did_grows (act.EndSegment x) b m = (simp length-append (omega arith), omega arith)
did_grows (act.CloseRange x) b m = (simp length-append (omega arith), simp length-append (omega arith))

-- a fault ends the longest prefix that begins a template
pub longest_prefix : (s : List ℕ) (offset n : ℕ) → IsSyntaxFault s offset → n ≤ length s → BeginsTemplate (take n s) → n ≤ offset
longest_prefix s offset n f h b = by_order (cases_lt offset n)
  where
    by_order : (offset < n) ⊎ (n ≤ offset) → n ≤ offset
    by_order (inl lt) = absurd (f.stops (omega (arith, lt, h)) (begins_shorter (offset + 1) n s (omega (arith, lt)) b))
    by_order (inr le) = le
