-- Each path is bound or refused (`each_path_is_bound`).
use Rattle.std.proofs.Common.{◌≡◌, ◌≢◌, ◌<◌, ◌≤◌, ◌⊎◌, inl, inr, ◌+◌, ◌^◌, ◌++◌, ℕ, zero, suc, List, [], ◌∷◌, Some, Result, Ok, Err, length, drop, option_map, slice_get, length-append, arith, refl, sym, ap, subst}
use Rattle.std.proofs.lemmas.Bool.{cases_lt}
use Rattle.std.proofs.lemmas.List.{length-drop}
use Rattle.std.proofs.lemmas.List.Folds.{drop_split}
use Rattle.std.specs.List.{AllByRecursion, slice_range}
use Rattle.field_binding.proofs.ReadingLemmas.{bound, failing, longer, next_set, readable, refused, there_is}
use Rattle.field_binding.specs.Assignments.{Assignments, assignments}
use Rattle.field_binding.specs.PathReadings.{AreReadable, AreSetInOrder, FailsFirst}
use Rattle.field_binding.specs.PathSettings.{AreCapturesOf, BindsScalars, EndsAtScalar, FailsAt, HasTextFault, IsPathBinding, IsValueFault, IsVariable, MeansSetting, SetsAt}
use Rattle.field_binding.specs.declared.fault.BindFault.{BindFault}
use Rattle.field_binding.specs.declared.fault.BindFault.TheVariants.{Path, NoMemory}
use Rattle.field_binding.specs.declared.fault.ValueKind.{ValueKind}
use Rattle.field_binding.specs.declared.fault.ValueKind.TheVariants as kinds
use Rattle.field_settings.specs.declared.setting.Setting.{Setting}
use Rattle.http_rules.specs.PercentDecoding.{captured}
use Rattle.http_rules.specs.Template.{IsTemplate}
use Rattle.http_rules.specs.declared.template.Binding.{Binding}
use Rattle.http_rules.specs.declared.template.Template.{Template}
use Rattle.linked_api.specs.declared.api.Api.{Api}
use Rattle.message_types.specs.declared.fields.Scalar.{Scalar}
use Rattle.message_types.specs.declared.messages.TypeId.{TypeId}
use Rattle.message_types.specs.declared.messages.Types.{Types}
use Rattle.path_router.specs.declared.captures.Span.{Span}
use Rattle.scalar_texts.specs.ScalarTexts.{IsRead, IsScalarText}
use Rattle.scalar_texts.specs.declared.fault.ScalarFault.{ScalarFault}
use Rattle.scalar_texts.specs.declared.fault.ScalarFault.TheVariants as faults
use Rattle.schema.specs.declared.value.Item.{out-roll-Item, roll-Item}
use Rattle.schema.specs.declared.value.Slot.{One}

-- each text means an item or has a fault
abbrev pub EachTextIsRead : Type 0
EachTextIsRead =
    (types : Types) (scalar : Scalar) (text : List ℕ) → IsRead types scalar text

-- the item of an index has what each has
each_found : {X : Type 0} (P : X → Type 0) (xs : List X) (i : ℕ) (x : X) → AllByRecursion P xs
    → slice_get xs i ≡ Some x → P x
each_found P [] i x a e = absurd (cc e)
each_found P (y ∷ xs) zero x a e = let same : y ≡ x = cc e in subst P same a.0
each_found P (y ∷ xs) (suc i) x a e = each_found P xs i x a.1 e

module _ (types : Types) (input : TypeId) (numbers text : List ℕ) where
  -- what is wrong with a text is wrong with the value
  told : (f : ScalarFault) → HasTextFault types input numbers text f
      → (k : ValueKind) × IsValueFault types input numbers text k
  told faults.BadText h = (kinds.BadText, h)
  told faults.BadNumber h = (kinds.BadNumber, h)
  told faults.OutOfRange h = (kinds.OutOfRange, h)
  told faults.BadEnum h = (kinds.BadEnum, h)
  told faults.NotUtf8 h = (kinds.NotUtf8, h)
  told faults.NoMemory h = absurd h.wrong

  -- a text sets its field or is at fault
  each_value : EachTextIsRead → EndsAtScalar types input numbers
      → ((s : Setting) × MeansSetting types input numbers text s)
      ⊎ ((k : ValueKind) × IsValueFault types input numbers text k)
  each_value read e =
      elim (cases_lt 100 (length numbers)) [
        | inl deep ↦ inr (kinds.TooDeep, deep)
        | inr shallow ↦ elim (read types e.scalar text) [
          | inl r ↦ inl (
            record { path = numbers; slot = One (roll-Item r.0) },
            record {
              shallow = shallow;
              scalar = e.scalar;
              ends = e.ends;
              item = roll-Item r.0;
              means = subst (IsScalarText types e.scalar text) (sym (out-roll-Item r.0)) r.1;
              setting_is = refl;
            },
          )
          | inr w ↦ inr (told w.0 (record { shallow = shallow; scalar = e.scalar; ends = e.ends; wrong = w.1 }))
        ]
      ]

module _ (read : EachTextIsRead) (types : Types) (input : TypeId) (b : Binding) (path : List ℕ) (spans : List Span)
    (r : AreReadable types input b path spans) where
  -- a variable sets its field or is at fault
  each_variable : (i : ℕ) → i < length b.template.variables
      → ((s : Setting) × SetsAt types input b path spans i s) ⊎ ((k : ValueKind) × FailsAt types input b path spans i k)
  each_variable i lt =
      let numbers = there_is b.paths i (omega (arith, r.one_path_each, lt)) in
      let span = there_is spans i (omega (arith, r.one_span_each, lt)) in
      let text = captured b.template i (slice_range path span.0.from span.0.to) in
      let variable : IsVariable b path spans i numbers.0 text = record {
        there = lt;
        numbers_are = numbers.1;
        text_is =
            ap (option_map (λ (s : Span). captured b.template i (slice_range path s.from s.to))) span.1;
      } in
      let ends = each_found (EndsAtScalar types input) b.paths i numbers.0 r.ends numbers.1 in
      elim (each_value types input numbers.0 text read ends) [
        | inl s ↦ inl (s.0, record { numbers = numbers.0; text = text; variable = variable; sets = s.1 })
        | inr k ↦ inr (k.0, record { numbers = numbers.0; text = text; variable = variable; wrong = k.1 })
      ]

  -- the first variables set their fields, or one of them is the first at fault
  each_first : (k : ℕ) → k ≤ length b.template.variables
      → ((settings : List Setting) × (length settings ≡ k) × AreSetInOrder types input b path spans settings)
      ⊎ ((n : ℕ) × (kind : ValueKind) × FailsFirst types input b path spans n kind)
  each_first zero le = inl ([], refl, λ i s e. absurd (cc e))
  each_first (suc k) le = more (each_first k (omega (arith, le))) (each_variable k (omega (arith, le)))
    where
      more : ((settings : List Setting) × (length settings ≡ k) × AreSetInOrder types input b path spans settings)
          ⊎ ((n : ℕ) × (kind : ValueKind) × FailsFirst types input b path spans n kind)
          → ((s : Setting) × SetsAt types input b path spans k s)
          ⊎ ((kind : ValueKind) × FailsAt types input b path spans k kind)
          → ((settings : List Setting) × (length settings ≡ suc k) × AreSetInOrder types input b path spans settings)
          ⊎ ((n : ℕ) × (kind : ValueKind) × FailsFirst types input b path spans n kind)
      more (inr f) v = inr f
      more (inl o) (inl s) =
          let grown = longer o.0 (o.0 ++ s.0 ∷ []) s.0 k refl o.1 in
          inl (
            o.0 ++ s.0 ∷ [],
            omega (arith, grown),
            next_set types input b path spans o.0 (o.0 ++ s.0 ∷ []) s.0 k refl o.1 o.2 s.1,
          )
      more (inl o) (inr f) =
          inr (k + 1, f.0, failing types input b path spans o.0 k (Path (k + 1) f.0) o.1 o.2 (refl, f.1))

-- an answer that is not out of memory
abbrev pub HasBinding : Api → ℕ → List ℕ → List Span → Type 0
HasBinding api index path spans =
    (r : Result Assignments BindFault) × IsPathBinding api index path spans r × (r ≢ Err NoMemory)

ok_told : (a : Assignments) → ◌≡◌ {A = Result Assignments BindFault} (Ok a) (Err NoMemory) → ⊥
ok_told a e = cc e

fault_told : (n : ℕ) (kind : ValueKind) → ◌≡◌ {A = Result Assignments BindFault} (Err (Path n kind)) (Err NoMemory) → ⊥
fault_told n kind e = let same : Path n kind ≡ NoMemory = cc e in cc same

-- each path is bound or refused
pub each_path : EachTextIsRead → (api : Api) (index : ℕ) (path : List ℕ) (spans : List Span)
    → AreCapturesOf api index path spans → (s : BindsScalars api index) → IsTemplate s.binding.template
    → length s.binding.paths ≡ length s.binding.template.variables
    → HasBinding api index path spans
each_path read api index path spans captures s template paths =
    let b = s.binding in
    let input = s.method.input in
    let r = readable api index path spans b s.method s.call template paths captures s in
    elim (each_first read api.types input b path spans r (length b.template.variables)
    (let le : length b.template.variables ≤ length b.template.variables = omega arith in le)) [
      | inl o ↦ (
        Ok (assignments [] o.0),
        bound api index path spans b s.method s.call [] o.0 refl (o.1, o.2),
        ok_told (assignments [] o.0),
      )
      | inr f ↦ (
        Err (Path f.0 f.1),
        refused api index path spans b s.method s.call (Path f.0 f.1) f.2,
        fault_told f.0 f.1,
      )
    ]
