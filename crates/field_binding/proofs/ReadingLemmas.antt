-- The variables of a binding, from what is read of each to what is bound.
use Rattle.std.proofs.Common.{◌≡◌, ◌<◌, ◌+◌, ◌++◌, ℕ, zero, suc, List, [], ◌∷◌, Some, Ok, Err, length, get_or, slice_get, length-append, arith, refl, ap, ◌∙◌, subst, sym, inl, inr}
use Rattle.std.proofs.lemmas.Option.{slice_get_cases, slice_get_read}
use Rattle.field_binding.specs.Assignments.{assignments}
use Rattle.field_binding.specs.PathReadings.{AreRead, AreReadable, AreSetInOrder, IsValueReading, IsVariableReading}
use Rattle.std.specs.List.{AllByRecursion}
use Rattle.field_binding.specs.PathSettings.{AreCapturesOf, BindsScalars, EndsAtScalar, IsCall, IsPathBinding, IsVariable, SetsAt, text_at}
use Rattle.field_binding.specs.ValueFaults.{fault_of_variable}
use Rattle.field_binding.specs.declared.fault.BindFault.{BindFault}
use Rattle.field_binding.specs.declared.fault.BindFault.TheVariants.{Path, NoMemory}
use Rattle.field_binding.specs.declared.fault.ValueFault.{ValueFault}
use Rattle.field_binding.specs.declared.fault.ValueFault.TheVariants.{Wrong, NoMemory as NoValueMemory}
use Rattle.field_settings.specs.declared.setting.Setting.{Setting}
use Rattle.http_rules.specs.Template.{IsTemplate}
use Rattle.http_rules.specs.declared.template.Binding.{Binding}
use Rattle.linked_api.specs.declared.api.Api.{Api}
use Rattle.linked_api.specs.declared.api.MethodInfo.{MethodInfo}
use Rattle.message_types.specs.declared.messages.TypeId.{TypeId}
use Rattle.message_types.specs.declared.messages.Types.{Types}
use Rattle.path_router.specs.declared.captures.Span.{Span}

-- what is found at one place is one thing
pub one_found : {X : Type 0} (xs : List X) (i : ℕ) (x y : X) → slice_get xs i ≡ Some x → slice_get xs i ≡ Some y → x ≡ y
one_found xs i x y p q = cc

-- what holds of the items of a list at their indexes, and of one more at the next, holds of all
pub at_each : {X : Type 0} (P : ℕ → X → Type 0) (xs : List X) (x : X)
    → ((i : ℕ) (y : X) → slice_get xs i ≡ Some y → P i y) → P (length xs) x
    → (i : ℕ) (y : X) → slice_get (xs ++ x ∷ []) i ≡ Some y → P i y
at_each P [] x h new zero y e = let same : x ≡ y = cc e in subst (P 0) same new
at_each P [] x h new (suc i) y e = absurd (cc e)
at_each P (z ∷ xs) x h new zero y e = h zero y e
at_each P (z ∷ xs) x h new (suc i) y e = at_each (λ j w. P (suc j) w) xs x (λ j w f. h (suc j) w f) new i y e

-- there is an item at each index below the length
pub there_is : {X : Type 0} (xs : List X) (i : ℕ) → i < length xs → (x : X) × (slice_get xs i ≡ Some x)
there_is xs i lt = elim (slice_get_cases xs i).1 [ inl w ↦ (w.0, w.2) | inr w ↦ absurd (omega (arith, w.0)) ]

module _ (api : Api) (index : ℕ) (path : List ℕ) (spans : List Span) (b : Binding) (m : MethodInfo)
    (call : IsCall api index b m) where
  -- the variables of a binding can be read
  pub readable : IsTemplate b.template → length b.paths ≡ length b.template.variables
      → AreCapturesOf api index path spans → BindsScalars api index → AreReadable api.types m.input b path spans
  readable template paths captures scalars =
      let caught : captures.binding ≡ b =
      one_found api.bindings index captures.binding b captures.binding_is call.binding_is in
      let bound : scalars.binding ≡ b =
      one_found api.bindings index scalars.binding b scalars.call.binding_is call.binding_is in
      let called : scalars.method ≡ m =
      one_found api.methods b.call scalars.method m
      (subst (λ (x : Binding). slice_get api.methods x.call ≡ Some scalars.method) bound scalars.call.method_is)
      call.method_is in
      record {
        can_be_parsed = template;
        one_path_each = paths;
        one_span_each =
            subst (λ (x : Binding). length spans ≡ length x.template.variables) caught captures.one_each;
        inside = captures.inside;
        ends =
            subst (λ (x : MethodInfo). AllByRecursion (EndsAtScalar api.types x.input) b.paths) called
            (subst (λ (x : Binding). AllByRecursion (EndsAtScalar api.types scalars.method.input) x.paths) bound
            scalars.each);
      }

  -- settings of all variables are what is bound
  pub bound : (query settings : List Setting) → query ≡ [] → AreRead api.types m.input b path spans (Ok settings)
      → IsPathBinding api index path spans (Ok (assignments query settings))
  bound query settings none h = record {
    binding = b;
    method = m;
    call = call;
    query = none;
    one_each = h.0;
    each = h.1;
  }

  -- the first fault is why the path is refused
  pub refused : (fault : BindFault) → AreRead api.types m.input b path spans (Err fault)
      → IsPathBinding api index path spans (Err fault)
  refused (Path n kind) h = record {
    binding = b;
    method = m;
    call = call;
    before = h.before;
    number = h.number;
    fails = h.fails;
    first = h.first;
  }
  refused NoMemory h = tt

-- a list with one item more is longer by one
pub longer : {X : Type 0} (xs ys : List X) (x : X) (i : ℕ) → ys ≡ xs ++ x ∷ [] → length xs ≡ i → length ys ≡ i + 1
longer xs ys x i e l = let grown = ap length e ∙ length-append xs (x ∷ []) in omega (arith, grown, l)

-- a variable by its numbers and its text
pub variable_of : (b : Binding) (path : List ℕ) (spans : List Span) (all : List (List ℕ)) (i : ℕ)
    (item numbers text : List ℕ) → all ≡ b.paths → length b.paths ≡ length b.template.variables → i < length b.paths
    → item ≡ get_or all i item → numbers ≡ item → text_at b path spans i ≡ Some text
    → IsVariable b path spans i numbers text
variable_of b path spans all i item numbers text same one_each lt is copied text_is =
    let count : length all ≡ length b.paths = ap length same in
    record {
      there = omega (arith, one_each, lt);
      numbers_are =
          subst (λ (ps : List (List ℕ)). slice_get ps i ≡ Some numbers) same
          (subst (λ (x : List ℕ). slice_get all i ≡ Some x) (sym copied)
          (slice_get_read all (length all) i item refl (omega (arith, count, lt)) is));
      text_is = text_is;
    }

module _ (types : Types) (input : TypeId) (b : Binding) (path : List ℕ) (spans : List Span) where
  -- what is wrong with the value of a variable is what is wrong with the variable
  pub fails_at : (i : ℕ) (numbers text : List ℕ) (fault : ValueFault) → IsVariable b path spans i numbers text
      → IsValueReading types input numbers text (Err fault)
      → IsVariableReading types input b path spans i (Err (fault_of_variable fault (i + 1)))
  fails_at i numbers text (Wrong kind) variable h =
      (refl, record { numbers = numbers; text = text; variable = variable; wrong = h })
  fails_at i numbers text NoValueMemory variable h = tt

  -- the variable behind those that set their fields is the first at fault
  pub failing : (settings : List Setting) (i : ℕ) (fault : BindFault) → length settings ≡ i
      → AreSetInOrder types input b path spans settings
      → IsVariableReading types input b path spans i (Err fault) → AreRead types input b path spans (Err fault)
  failing settings i (Path n kind) grown each h = record {
    before = i;
    number = h.0;
    fails = h.1;
    first = λ j lt. let there = there_is settings j (omega (arith, grown, lt)) in (there.0, each j there.0 there.1);
  }
  failing settings i NoMemory grown each h = tt

  -- settings with one more, which the next variable sets, are those of the first variables
  pub next_set : (old new : List Setting) (s : Setting) (i : ℕ) → new ≡ old ++ s ∷ [] → length old ≡ i
      → AreSetInOrder types input b path spans old → SetsAt types input b path spans i s
      → AreSetInOrder types input b path spans new
  next_set old new s i e l each set =
      subst (AreSetInOrder types input b path spans) (sym e)
      (at_each (λ j x. SetsAt types input b path spans j x) old s each
      (subst (λ (n : ℕ). SetsAt types input b path spans n s) (sym l) set))
