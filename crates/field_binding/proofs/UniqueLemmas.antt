-- What is bound of a path is one thing.
use Rattle.std.proofs.Common.{◌≡◌, ◌≢◌, ◌<◌, ◌≤◌, ◌+◌, ℕ, zero, suc, List, [], ◌∷◌, Some, Result, Ok, Err, length, slice_get, arith, refl, ap, ap₂, ◌∙◌, subst, sym, inl, inr, ◌⊎◌}
use Rattle.std.proofs.lemmas.Bool.{cases_lt}
use Rattle.field_binding.proofs.ReadingLemmas.{one_found, there_is}
use Rattle.field_binding.specs.Assignments.{Assignments, assignments}
use Rattle.field_binding.specs.PathSettings.{EndsAt, FailsAt, HasTextFault, IsBound, IsCall, IsPathBinding, IsRefused, IsValueFault, IsVariable, MeansSetting, SetsAt}
use Rattle.field_binding.specs.ValueFaults.{value_fault}
use Rattle.field_binding.specs.declared.fault.BindFault.{BindFault}
use Rattle.field_binding.specs.declared.fault.BindFault.TheVariants.{Path, NoMemory}
use Rattle.field_binding.specs.declared.fault.ValueFault.{ValueFault}
use Rattle.field_binding.specs.declared.fault.ValueFault.TheVariants.{Wrong, NoMemory as NoValueMemory}
use Rattle.field_binding.specs.declared.fault.ValueKind.{ValueKind}
use Rattle.field_binding.specs.declared.fault.ValueKind.TheVariants.{BadText, BadNumber, OutOfRange, BadEnum, NotUtf8, TooDeep}
use Rattle.field_settings.specs.declared.setting.Setting.{Setting}
use Rattle.http_rules.specs.declared.template.Binding.{Binding}
use Rattle.linked_api.specs.declared.api.Api.{Api}
use Rattle.linked_api.specs.declared.api.MethodInfo.{MethodInfo}
use Rattle.message_types.specs.declared.fields.Field.{Field}
use Rattle.message_types.specs.declared.fields.Kind.{Kind}
use Rattle.message_types.specs.declared.fields.Kind.TheVariants.{One as OneOf}
use Rattle.message_types.specs.declared.fields.Scalar.{Scalar}
use Rattle.message_types.specs.declared.messages.TypeId.{TypeId}
use Rattle.message_types.specs.declared.messages.Types.{Types}
use Rattle.path_router.specs.declared.captures.Span.{Span}
use Rattle.scalar_texts.specs.ScalarTexts.{IsScalarReading, IsScalarText, IsScalarTextFault}
use Rattle.scalar_texts.specs.declared.fault.ScalarFault.{ScalarFault}
use Rattle.scalar_texts.specs.declared.fault.ScalarFault.TheVariants as faults
use Rattle.schema.specs.declared.value.Item.{Item, out-Item}
use Rattle.schema.specs.declared.value.Slot.{One}

-- two readings of a text are one, but for out of memory
abbrev pub OneReading : Type 0
OneReading =
    (types : Types) (scalar : Scalar) (text : List ℕ) (r s : Result Item ScalarFault)
    → IsScalarReading types scalar text r → IsScalarReading types scalar text s
    → r ≢ Err faults.NoMemory → s ≢ Err faults.NoMemory → r ≡ s

-- a variable has one list of numbers, and one text
one_variable : (b : Binding) (path : List ℕ) (spans : List Span) (i : ℕ) (n t m u : List ℕ)
    → IsVariable b path spans i n t → IsVariable b path spans i m u → (n ≡ m) × (t ≡ u)
one_variable b path spans i n t m u v w =
    let text : t ≡ u = cc (v.text_is, w.text_is) in
    (one_found b.paths i n m v.numbers_are w.numbers_are, text)

-- numbers lead to one scalar kind
one_scalar : (types : Types) (id : TypeId) (n : List ℕ) (s r : Scalar) → EndsAt types id n s → EndsAt types id n r
    → s ≡ r
one_scalar types id n s r e d =
    let field : e.field ≡ d.field = cc (e.field_is, d.field_is) in
    let kind : ◌≡◌ {A = Kind} (OneOf s) (OneOf r) =
    sym e.kind_is ∙ ap (λ (f : Field). f.kind) field ∙ d.kind_is in
    cc kind

-- a text that is not that of its kind is read so
wrong_reading : (types : Types) (s : Scalar) (t : List ℕ) (f : ScalarFault) → IsScalarTextFault types s t f
    → IsScalarReading types s t (Err f)
wrong_reading types s t faults.BadText h = h
wrong_reading types s t faults.BadNumber h = h
wrong_reading types s t faults.OutOfRange h = h
wrong_reading types s t faults.BadEnum h = h
wrong_reading types s t faults.NotUtf8 h = h
wrong_reading types s t faults.NoMemory h = absurd h

-- a fault that is told is not that of memory
told : (f : ScalarFault) (k : ValueKind) → value_fault f ≡ Wrong k
    → ◌≡◌ {A = Result Item ScalarFault} (Err f) (Err faults.NoMemory) → ⊥
told f k e same =
    let fault : f ≡ faults.NoMemory = cc same in
    let none : ◌≡◌ {A = ValueFault} NoValueMemory (Wrong k) = ap value_fault (sym fault) ∙ e in
    cc none

-- an item that is read is not out of memory
item_told : (i : Item) → ◌≡◌ {A = Result Item ScalarFault} (Ok i) (Err faults.NoMemory) → ⊥
item_told i e = cc e

-- what is wrong with a variable: its path is too deep, or its text has a fault
seen : (types : Types) (id : TypeId) (n t : List ℕ) (k : ValueKind) → IsValueFault types id n t k
    → ((k ≡ TooDeep) × (100 < length n))
    ⊎ ((f : ScalarFault) × HasTextFault types id n t f × (value_fault f ≡ Wrong k))
seen types id n t TooDeep h = inl (refl, h)
seen types id n t BadText h = inr (faults.BadText, h, refl)
seen types id n t BadNumber h = inr (faults.BadNumber, h, refl)
seen types id n t OutOfRange h = inr (faults.OutOfRange, h, refl)
seen types id n t BadEnum h = inr (faults.BadEnum, h, refl)
seen types id n t NotUtf8 h = inr (faults.NotUtf8, h, refl)

-- lists that have the same at each index are one
same_items : {X : Type 0} (xs ys : List X) → length xs ≡ length ys
    → ((i : ℕ) (x y : X) → slice_get xs i ≡ Some x → slice_get ys i ≡ Some y → x ≡ y) → xs ≡ ys
same_items [] [] l h = refl
same_items [] (y ∷ ys) l h = absurd (omega arith)
same_items (x ∷ xs) [] l h = absurd (omega arith)
same_items {X = X} (x ∷ xs) (y ∷ ys) l h =
    ap₂ (λ (z : X) (zs : List X). z ∷ zs) (h zero x y refl refl)
    (same_items xs ys (omega arith) (λ i a b p q. h (suc i) a b p q))

module _ (reads_once : OneReading) where
  -- a variable sets one thing
  one_setting : (types : Types) (id : TypeId) (n t : List ℕ) (s r : Setting) → MeansSetting types id n t s
      → MeansSetting types id n t r → s ≡ r
  one_setting types id n t s r h k =
      let scalar : k.scalar ≡ h.scalar = one_scalar types id n k.scalar h.scalar k.ends h.ends in
      let read : ◌≡◌ {A = Result Item ScalarFault} (Ok h.item) (Ok k.item) =
      reads_once types h.scalar t (Ok h.item) (Ok k.item) h.means
      (subst (λ (x : Scalar). IsScalarText types x t (out-Item k.item)) scalar k.means)
      (item_told h.item) (item_told k.item) in
      let item : h.item ≡ k.item = cc read in
      h.setting_is ∙ ap (λ (i : Item). setting_of i) item ∙ sym k.setting_is
    where
      setting_of : Item → Setting
      setting_of i = record { path = n; slot = One i }

  -- a variable that sets something is not at fault
  not_both : (types : Types) (id : TypeId) (n t : List ℕ) (s : Setting) (k : ValueKind) → MeansSetting types id n t s
      → IsValueFault types id n t k → ⊥
  not_both types id n t s k h w = elim (seen types id n t k w) [ inl d ↦ deep d.1 | inr f ↦ wrong f.0 f.1 f.2 ]
    where
      deep : 100 < length n → ⊥
      deep d = let few = h.shallow in omega (arith, few, d)

      wrong : (f : ScalarFault) → HasTextFault types id n t f → value_fault f ≡ Wrong k → ⊥
      wrong f e told_as =
          let scalar : e.scalar ≡ h.scalar = one_scalar types id n e.scalar h.scalar e.ends h.ends in
          let read : ◌≡◌ {A = Result Item ScalarFault} (Ok h.item) (Err f) =
          reads_once types h.scalar t (Ok h.item) (Err f) h.means
          (wrong_reading types h.scalar t f
          (subst (λ (x : Scalar). IsScalarTextFault types x t f) scalar e.wrong))
          (item_told h.item) (told f k told_as) in
          cc read

  -- one thing is wrong with a variable
  one_fault : (types : Types) (id : TypeId) (n t : List ℕ) (k j : ValueKind) → IsValueFault types id n t k
      → IsValueFault types id n t j → k ≡ j
  one_fault types id n t k j v w =
      elim (seen types id n t k v) [
        | inl d ↦ elim (seen types id n t j w) [ inl e ↦ d.0 ∙ sym e.0 | inr f ↦ absurd (apart d.1 f.0 f.1) ]
        | inr f ↦ elim (seen types id n t j w) [
          | inl d ↦ absurd (apart d.1 f.0 f.1)
          | inr g ↦ same f.0 g.0 f.1 g.1 f.2 g.2
        ]
      ]
    where
      apart : 100 < length n → (f : ScalarFault) → HasTextFault types id n t f → ⊥
      apart d f h = let few = h.shallow in omega (arith, few, d)

      same : (f g : ScalarFault) → HasTextFault types id n t f → HasTextFault types id n t g → value_fault f ≡ Wrong k
          → value_fault g ≡ Wrong j → k ≡ j
      same f g h e p q =
          let scalar : e.scalar ≡ h.scalar = one_scalar types id n e.scalar h.scalar e.ends h.ends in
          let read : ◌≡◌ {A = Result Item ScalarFault} (Err f) (Err g) =
          reads_once types h.scalar t (Err f) (Err g) (wrong_reading types h.scalar t f h.wrong)
          (wrong_reading types h.scalar t g
          (subst (λ (x : Scalar). IsScalarTextFault types x t g) scalar e.wrong))
          (told f k p) (told g j q) in
          let fault : f ≡ g = cc read in
          let kinds : ◌≡◌ {A = ValueFault} (Wrong k) (Wrong j) = sym p ∙ ap value_fault fault ∙ q in
          cc kinds

  module _ (types : Types) (id : TypeId) (b : Binding) (path : List ℕ) (spans : List Span) where
    -- the variable of an index sets one thing
    set_once : (i : ℕ) (s r : Setting) → SetsAt types id b path spans i s → SetsAt types id b path spans i r → s ≡ r
    set_once i s r h k =
        let same = one_variable b path spans i k.numbers k.text h.numbers h.text k.variable h.variable in
        one_setting types id h.numbers h.text s r h.sets
        (subst (λ (t : List ℕ). MeansSetting types id h.numbers t r) same.1
        (subst (λ (n : List ℕ). MeansSetting types id n k.text r) same.0 k.sets))

    -- and is not at fault
    set_well : (i : ℕ) (s : Setting) (k : ValueKind) → SetsAt types id b path spans i s
        → FailsAt types id b path spans i k → ⊥
    set_well i s k h w =
        let same = one_variable b path spans i w.numbers w.text h.numbers h.text w.variable h.variable in
        not_both types id h.numbers h.text s k h.sets
        (subst (λ (t : List ℕ). IsValueFault types id h.numbers t k) same.1
        (subst (λ (n : List ℕ). IsValueFault types id n w.text k) same.0 w.wrong))

    -- or has one fault
    fails_once : (i : ℕ) (k j : ValueKind) → FailsAt types id b path spans i k → FailsAt types id b path spans i j
        → k ≡ j
    fails_once i k j h w =
        let same = one_variable b path spans i w.numbers w.text h.numbers h.text w.variable h.variable in
        one_fault types id h.numbers h.text k j h.wrong
        (subst (λ (t : List ℕ). IsValueFault types id h.numbers t j) same.1
        (subst (λ (n : List ℕ). IsValueFault types id n w.text j) same.0 w.wrong))

    -- settings of all variables are one list
    one_list : (xs ys : List Setting) → length xs ≡ length ys
        → ((i : ℕ) (s : Setting) → slice_get xs i ≡ Some s → SetsAt types id b path spans i s)
        → ((i : ℕ) (s : Setting) → slice_get ys i ≡ Some s → SetsAt types id b path spans i s) → xs ≡ ys
    one_list xs ys l h k = same_items xs ys l (λ i s r p q. set_once i s r (h i s p) (k i r q))

    -- faults that come first come at one variable
    first_once : (i j : ℕ) (k : ValueKind) → FailsAt types id b path spans i k
        → ((l : ℕ) → l < j → (s : Setting) × SetsAt types id b path spans l s) → j ≤ i
    first_once i j k fails first =
        elim (cases_lt i j) [ inl lt ↦ absurd (set_well i (first i lt).0 k (first i lt).1 fails) | inr le ↦ le ]

  module _ (api : Api) (index : ℕ) (path : List ℕ) (spans : List Span) where
    -- a binding has one method
    one_call : (b c : Binding) (m n : MethodInfo) → IsCall api index b m → IsCall api index c n → (b ≡ c) × (m ≡ n)
    one_call b c m n h k =
        let same : b ≡ c = one_found api.bindings index b c h.binding_is k.binding_is in (
          same,
          one_found api.methods c.call m n
              (subst (λ (x : Binding). slice_get api.methods x.call ≡ Some m) same h.method_is) k.method_is,
        )

    -- what is bound is one thing
    bound_once : (a d : Assignments) → IsBound api index path spans a → IsBound api index path spans d → a ≡ d
    bound_once a d h k =
        let called = one_call k.binding h.binding k.method h.method k.call h.call in
        let query : a.query ≡ d.query = h.query ∙ sym k.query in
        let count : length d.path ≡ length h.binding.template.variables =
        k.one_each ∙ ap (λ (x : Binding). length x.template.variables) called.0 in
        let settings : a.path ≡ d.path =
        one_list api.types h.method.input h.binding path spans a.path d.path (h.one_each ∙ sym count) h.each
        (λ i s e. subst (λ (x : MethodInfo). SetsAt api.types x.input h.binding path spans i s) called.1
        (subst (λ (x : Binding). SetsAt api.types k.method.input x path spans i s) called.0 (k.each i s e))) in
        ap₂ (λ (q p : List Setting). assignments q p) query settings

    -- the refusal, of a binding and method
    abbrev Fails : Binding → MethodInfo → ℕ → ValueKind → Type 0
    Fails b m i k = FailsAt api.types m.input b path spans i k

    -- what stands before it, of a binding and method
    abbrev First : Binding → MethodInfo → ℕ → Type 0
    First b m j = (l : ℕ) → l < j → (s : Setting) × SetsAt api.types m.input b path spans l s

    -- what is bound is not refused
    bound_well : (a : Assignments) (n : ℕ) (k : ValueKind) → IsBound api index path spans a
        → IsRefused api index path spans n k → ⊥
    bound_well a n k h r =
        let called = one_call r.binding h.binding r.method h.method r.call h.call in
        let fails : Fails h.binding h.method r.before k =
        subst (λ (x : MethodInfo). Fails h.binding x r.before k) called.1
        (subst (λ (x : Binding). Fails x r.method r.before k) called.0 r.fails) in
        let within : r.before < length a.path =
        subst (λ (l : ℕ). r.before < l) (sym h.one_each) fails.variable.there in
        let there = there_is a.path r.before within in
        set_well api.types h.method.input h.binding path spans r.before there.0 k (h.each r.before there.0 there.1)
        fails

    -- a path is refused for one reason
    refused_once : (n l : ℕ) (k j : ValueKind) → IsRefused api index path spans n k → IsRefused api index path spans l j
        → (n ≡ l) × (k ≡ j)
    refused_once n l k j h r =
        let called = one_call r.binding h.binding r.method h.method r.call h.call in
        let fails : Fails h.binding h.method r.before j =
        subst (λ (x : MethodInfo). Fails h.binding x r.before j) called.1
        (subst (λ (x : Binding). Fails x r.method r.before j) called.0 r.fails) in
        let first : First h.binding h.method r.before =
        subst (λ (x : MethodInfo). First h.binding x r.before) called.1
        (subst (λ (x : Binding). First x r.method r.before) called.0 r.first) in
        let low : r.before ≤ h.before =
        first_once api.types h.method.input h.binding path spans h.before r.before k h.fails first in
        let high : h.before ≤ r.before =
        first_once api.types h.method.input h.binding path spans r.before h.before j fails h.first in
        let same : r.before ≡ h.before = omega arith in (
          h.number ∙ ap (λ (i : ℕ). i + 1) (sym same) ∙ sym r.number,
          fails_once api.types h.method.input h.binding path spans h.before k j h.fails
              (subst (λ (i : ℕ). Fails h.binding h.method i j) same fails),
        )

    -- a path has one binding, but for out of memory
    pub bound_in_one_way : (r s : Result Assignments BindFault) → IsPathBinding api index path spans r
        → IsPathBinding api index path spans s → r ≢ Err NoMemory → s ≢ Err NoMemory → r ≡ s
    bound_in_one_way (Ok a) (Ok d) h k p q = ap (λ (x : Assignments). Ok x) (bound_once a d h k)
    bound_in_one_way (Ok a) (Err (Path n kind)) h k p q = absurd (bound_well a n kind h k)
    bound_in_one_way (Ok a) (Err NoMemory) h k p q = absurd (q refl)
    bound_in_one_way (Err (Path n kind)) (Ok d) h k p q = absurd (bound_well d n kind k h)
    bound_in_one_way (Err (Path n kind)) (Err (Path l other)) h k p q =
        let same = refused_once n l kind other h k in
        ap₂ (λ (x : ℕ) (y : ValueKind). Err (Path x y)) same.0 same.1
    bound_in_one_way (Err (Path n kind)) (Err NoMemory) h k p q = absurd (q refl)
    bound_in_one_way (Err NoMemory) s h k p q = absurd (p refl)
