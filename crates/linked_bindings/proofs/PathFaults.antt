-- The faults of the paths of variables, one after another: there is none exactly where each leads to a leaf and none
-- begins another.
use Rattle.std.proofs.Common.{◌≡◌, ◌++◌, ◌+◌, ◌<◌, ℕ, take, drop, get_or, Bool, false, cond, List, [], ◌∷◌, length, Option, Some, None, IsSome, is_none, refl, sym, ap, subst, ◌∙◌}
use Rattle.std.proofs.lemmas.Bool.{or_parts, or_from}
use Rattle.std.proofs.lemmas.List.{drop_more}
use Rattle.std.proofs.lemmas.List.Folds.{list_any-append}
use Rattle.std.specs.List.{AllByRecursion}
use Rattle.base.proofs.EachLemmas.{each_both, each_weaker}
use Rattle.http_rules.specs.declared.template.Variable.{Variable}
use Rattle.linked_api.specs.FieldPaths.{path_numbers}
use Rattle.linked_api.specs.declared.api.MethodInfo.{MethodInfo}
use Rattle.message_types.specs.declared.messages.Types.{Types}
use Rattle.schema.specs.Apart.{AreApart}
use Rattle.set_faults.proofs.Theorems.{first_more, none_parts, none_more, test_fails}
use Rattle.set_faults.specs.LinkFaults.{IsFirst, fault_if}
use Rattle.set_faults.specs.declared.fault.LinkFault.{LinkFault}
use Rattle.linked_bindings.specs.BindingFaults.{begins_names, is_bad_path, is_beginning, path_fault, path_faults, path_faults_at}
use Rattle.linked_bindings.specs.LinkedBinding.{paths_of, with_first}
use Rattle.linked_bindings.specs.RuleBindings.{paths_overlap}

-- a test that fails has no fault
no_fault : (b : Bool) (f : LinkFault) → b ≡ false → fault_if b f ≡ []
no_fault b f h = ap (λ (x : Bool). cond x (f ∷ []) []) h

-- what is there is not absent, and the other way
there : {X : Type 0} (o : Option X) → is_none o ≡ false → IsSome o
there None h = absurd (cc h)
there (Some x) h = refl

not_absent : {X : Type 0} (o : Option X) → IsSome o → is_none o ≡ false
not_absent None h = absurd (cc h)
not_absent (Some x) h = refl

-- a list is there where its first item and the rest are, and only there
pub both_there : {X : Type 0} (o : Option X) (os : Option (List X)) → IsSome o → IsSome os → IsSome (with_first o os)
both_there None os h k = absurd (cc h)
both_there (Some x) None h k = absurd (cc k)
both_there (Some x) (Some xs) h k = refl

each_there : {X : Type 0} (o : Option X) (os : Option (List X)) → IsSome (with_first o os) → IsSome o × IsSome os
each_there None os h = absurd (cc h)
each_there (Some x) None h = absurd (cc h)
each_there (Some x) (Some xs) h = (refl, refl)

-- the paths of variables that have no fault lead to leaves
pub numbers_there : (types : Types) (m : MethodInfo) (before vs : List Variable) → path_faults types m before vs ≡ []
    → IsSome (paths_of types m.input vs)
numbers_there types m before [] h = refl
numbers_there types m before (v ∷ vs) h =
    let parts = none_parts (fault_if (is_bad_path types m.input (before ++ vs) v) (path_fault m v)) _ h in
    let good = test_fails (is_bad_path types m.input (before ++ vs) v) (path_fault m v) parts.0 in
    let first = or_parts (is_none (path_numbers types m.input v.path)) (is_beginning v (before ++ vs)) good in
    both_there (path_numbers types m.input v.path) (paths_of types m.input vs)
    (there (path_numbers types m.input v.path) first.0) (numbers_there types m (before ++ v ∷ []) vs parts.1)

-- the path of one variable does not begin that of another
abbrev BeginsNot : Variable → Variable → Type 0
BeginsNot v w = begins_names v.path w.path ≡ false

-- the same, seen from the other
abbrev IsNotBegun : Variable → Variable → Type 0
IsNotBegun v w = begins_names w.path v.path ≡ false

-- neither begins the other
abbrev DoNotOverlap : Variable → Variable → Type 0
DoNotOverlap v w = paths_overlap v w ≡ false

-- the path of a variable begins none of a list
abbrev BeginsNone : List Variable → Variable → Type 0
BeginsNone before w = is_beginning w before ≡ false

-- a variable that begins none of two lists begins none of each
beginning_parts : (v : Variable) (xs ys : List Variable) → BeginsNone (xs ++ ys) v
    → BeginsNone xs v × BeginsNone ys v
beginning_parts v xs ys h =
    or_parts (is_beginning v xs) (is_beginning v ys)
    (sym (list_any-append (λ (w : Variable). begins_names v.path w.path) xs ys) ∙ h)

-- and one that begins none of each begins none of both
beginning_joined : (v : Variable) (xs ys : List Variable) → BeginsNone xs v → BeginsNone ys v
    → BeginsNone (xs ++ ys) v
beginning_joined v xs ys h k =
    list_any-append (λ (w : Variable). begins_names v.path w.path) xs ys
    ∙ or_from (is_beginning v xs) (is_beginning v ys) h k

-- a variable that begins none of a list begins each of it not
begins_each : (v : Variable) (ws : List Variable) → BeginsNone ws v → AllByRecursion (BeginsNot v) ws
begins_each v [] h = tt
begins_each v (w ∷ ws) h =
    let parts = or_parts (begins_names v.path w.path) (is_beginning v ws) h in (parts.0, begins_each v ws parts.1)

-- and the other way
begins_none : (v : Variable) (ws : List Variable) → AllByRecursion (BeginsNot v) ws → BeginsNone ws v
begins_none v [] h = refl
begins_none v (w ∷ ws) h = or_from (begins_names v.path w.path) (is_beginning v ws) h.0 (begins_none v ws h.1)

-- what begins none of a list with one behind it begins none of the list, nor that one
begins_last : (v : Variable) (before : List Variable) (w : Variable) → BeginsNone (before ++ v ∷ []) w
    → BeginsNone before w × IsNotBegun v w
begins_last v before w h =
    let parts = beginning_parts w before (v ∷ []) h in
    (parts.0, (or_parts (begins_names w.path v.path) false parts.1).0)

-- and the other way
begins_more : (v : Variable) (before : List Variable) (w : Variable) → BeginsNone before w × IsNotBegun v w
    → BeginsNone (before ++ v ∷ []) w
begins_more v before w h =
    beginning_joined w before (v ∷ []) h.0 (or_from (begins_names w.path v.path) false h.1 refl)

-- two that do not begin one another do not overlap
overlap_parts : (v w : Variable) → DoNotOverlap v w → BeginsNot v w × IsNotBegun v w
overlap_parts v w h = or_parts (begins_names v.path w.path) (begins_names w.path v.path) h

overlap_from : (v w : Variable) → BeginsNot v w × IsNotBegun v w → DoNotOverlap v w
overlap_from v w h = or_from (begins_names v.path w.path) (begins_names w.path v.path) h.0 h.1

-- where no path has a fault, none begins another, nor one of those before
pub paths_apart : (types : Types) (m : MethodInfo) (before vs : List Variable) → path_faults types m before vs ≡ []
    → AreApart paths_overlap vs × AllByRecursion (BeginsNone before) vs
paths_apart types m before [] h = (tt, tt)
paths_apart types m before (v ∷ vs) h =
    let bad = is_bad_path types m.input (before ++ vs) v in
    let parts = none_parts (fault_if bad (path_fault m v)) _ h in
    let good = test_fails bad (path_fault m v) parts.0 in
    let begins = or_parts (is_none (path_numbers types m.input v.path)) (is_beginning v (before ++ vs)) good in
    let own = beginning_parts v before vs begins.1 in
    let rest = paths_apart types m (before ++ v ∷ []) vs parts.1 in
    let each =
    each_weaker (BeginsNone (before ++ v ∷ [])) (λ w. BeginsNone before w × IsNotBegun v w) (begins_last v before) vs
    rest.1 in
    let back = each_weaker (λ w. BeginsNone before w × IsNotBegun v w) (IsNotBegun v) (λ w e. e.1) vs each in
    let apart =
    each_weaker (λ w. BeginsNot v w × IsNotBegun v w) (DoNotOverlap v) (overlap_from v) vs
    (each_both (BeginsNot v) (IsNotBegun v) vs (begins_each v vs own.1) back) in (
      (apart, rest.0),
      (own.0, each_weaker (λ w. BeginsNone before w × IsNotBegun v w) (BeginsNone before) (λ w e. e.0) vs each),
    )

-- paths that lead to leaves have no fault, where none begins another, nor one of those before
pub apart_faultless : (types : Types) (m : MethodInfo) (before vs : List Variable) → AreApart paths_overlap vs
    → AllByRecursion (BeginsNone before) vs → IsSome (paths_of types m.input vs) → path_faults types m before vs ≡ []
apart_faultless types m before [] apart back h = refl
apart_faultless types m before (v ∷ vs) apart back h =
    let bad = is_bad_path types m.input (before ++ vs) v in
    let both = each_there (path_numbers types m.input v.path) (paths_of types m.input vs) h in
    let each = each_weaker (DoNotOverlap v) (λ w. BeginsNot v w × IsNotBegun v w) (overlap_parts v) vs apart.0 in
    let ahead = each_weaker (λ w. BeginsNot v w × IsNotBegun v w) (BeginsNot v) (λ w e. e.0) vs each in
    let behind = each_weaker (λ w. BeginsNot v w × IsNotBegun v w) (IsNotBegun v) (λ w e. e.1) vs each in
    let more =
    each_weaker (λ w. BeginsNone before w × IsNotBegun v w) (BeginsNone (before ++ v ∷ [])) (begins_more v before) vs
    (each_both (BeginsNone before) (IsNotBegun v) vs back.1 behind) in
    let good : bad ≡ false =
    or_from (is_none (path_numbers types m.input v.path)) (is_beginning v (before ++ vs))
    (not_absent (path_numbers types m.input v.path) both.0)
    (beginning_joined v before vs back.0 (begins_none v vs ahead)) in
    none_more (fault_if bad (path_fault m v)) (path_faults types m (before ++ v ∷ []) vs)
    (no_fault bad (path_fault m v) good) (apart_faultless types m (before ++ v ∷ []) vs apart.1 more both.1)

-- no variable begins one of none
pub none_before : (vs : List Variable) → AllByRecursion (BeginsNone []) vs
none_before [] = tt
none_before (v ∷ vs) = (refl, none_before vs)

-- the first fault of a path is the first of all, where those before it have none
pub first_of_path : (types : Types) (m : MethodInfo) (e : LinkFault) (vs : List Variable) (i : ℕ) (v : Variable)
    (behind : List Variable) → i < length vs → v ≡ get_or vs i v → behind ≡ drop (i + 1) vs
    → path_faults types m (take i vs) (drop i vs) ≡ path_faults types m [] vs
    → IsFirst e (path_faults_at types m (take i vs ++ behind) v) → IsFirst e (path_faults types m [] vs)
first_of_path types m e vs i v behind lt is rest held h =
    let split : drop i vs ≡ v ∷ drop (i + 1) vs =
    drop_more vs i v lt ∙ ap (λ (x : Variable). x ∷ drop (i + 1) vs) (sym is) in
    let all : path_faults types m (take i vs) (v ∷ drop (i + 1) vs) ≡ path_faults types m [] vs =
    ap (path_faults types m (take i vs)) (sym split) ∙ held in
    subst (IsFirst e) all
    (first_more e (path_faults_at types m (take i vs ++ drop (i + 1) vs) v)
    (path_faults types m (take i vs ++ v ∷ []) (drop (i + 1) vs))
    (subst (λ (b : List Variable). IsFirst e (path_faults_at types m (take i vs ++ b) v)) rest h))
