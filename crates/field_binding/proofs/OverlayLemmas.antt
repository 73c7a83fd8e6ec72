-- What a path binds fits the input of the method.
use Rattle.std.proofs.Common.{◌≡◌, ◌-◌, ℕ, zero, suc, Bool, true, false, cond, List, [], ◌∷◌, Option, Some, None, length, slice_get, option_and_then, refl, subst, sym}
use Rattle.std.specs.List.{AllByRecursion}
use Rattle.field_binding.specs.Assignments.{Assignments}
use Rattle.field_binding.specs.PathSettings.{IsBound, SetsAt}
use Rattle.field_binding.specs.RequestMessages.{IsOverlayOf}
use Rattle.field_binding.proofs.ReadingLemmas.{one_found}
use Rattle.field_settings.specs.AppliedSettings.{FitsSetting, IsSettable, LeadsToSlot}
use Rattle.field_settings.specs.declared.setting.Setting.{Setting}
use Rattle.http_rules.specs.declared.template.Binding.{Binding}
use Rattle.linked_api.specs.FieldPaths.{IsSingular, LeadsInto, inner_message, is_plain_message}
use Rattle.linked_api.specs.NumberPaths.{IsServable, NumbersLeadToLeaf, last_field}
use Rattle.linked_api.specs.declared.api.Api.{Api}
use Rattle.linked_api.specs.declared.api.MethodInfo.{MethodInfo}
use Rattle.message_types.specs.declared.fields.Field.{Field}
use Rattle.message_types.specs.declared.fields.Kind.{Kind}
use Rattle.message_types.specs.declared.fields.Kind.TheVariants.{One as OneOf, Message}
use Rattle.message_types.specs.declared.fields.Scalar.{Scalar}
use Rattle.message_types.specs.declared.fields.Shape.{Shape}
use Rattle.message_types.specs.declared.fields.Shape.TheVariants.{Single, Member, Many, Map}
use Rattle.message_types.specs.declared.messages.TypeId.{TypeId}
use Rattle.message_types.specs.declared.messages.Types.{Types}
use Rattle.path_router.specs.declared.captures.Span.{Span}
use Rattle.scalar_texts.specs.ScalarTexts.{IsScalarText}
use Rattle.schema.specs.Layers.{ItemLayer}
use Rattle.schema.specs.Validity.{Inner, IsItem, IsScalarItem, valid_within}
use Rattle.schema.specs.declared.value.Item.{Item, out-Item}
use Rattle.schema.specs.declared.value.Slot.{One, out-Slot}
use Rattle.schema.specs.declared.value.Slot.TheVariants.{outs-One}

-- what holds of each index of a list holds of each item
each_from : {X : Type 0} (P : X → Type 0) (xs : List X) → ((i : ℕ) (x : X) → slice_get xs i ≡ Some x → P x)
    → AllByRecursion P xs
each_from P [] h = tt
each_from P (x ∷ xs) h = (h zero x refl, each_from P xs (λ i y e. h (suc i) y e))

-- the numbers of each variable lead to a leaf
lead_at : (types : Types) (input : TypeId) (paths : List (List ℕ)) (i : ℕ) (numbers : List ℕ)
    → AllByRecursion (NumbersLeadToLeaf types input) paths → slice_get paths i ≡ Some numbers
    → NumbersLeadToLeaf types input numbers
lead_at types input [] i numbers h e = absurd (cc e)
lead_at types input (p ∷ paths) zero numbers h e =
    let same : p ≡ numbers = cc e in subst (NumbersLeadToLeaf types input) same h.0
lead_at types input (p ∷ paths) (suc i) numbers h e = lead_at types input paths i numbers h.1 e

-- a scalar can be set in a singular field of its kind
settable : (inner : Inner) (f : Field) (shape : Shape) (s : Scalar) (i : Item) → IsSingular shape → f.kind ≡ OneOf s
    → IsScalarItem s (out-Item i) → IsSettable inner f shape (out-Slot (One i))
settable inner f Single s i one kind is = rw outs-One (subst (λ (k : Kind). IsItem inner k (out-Item i)) (sym kind) is)
settable inner f (Member n) s i one kind is =
    rw outs-One (subst (λ (k : Kind). IsItem inner k (out-Item i)) (sym kind) is)
settable inner f Many s i one kind is = absurd one
settable inner f (Map key) s i one kind is = absurd one

-- behind a number the last field is looked up in the message that the number leads into
behind : (types : Types) (kind : Kind) (next : TypeId) (numbers : List ℕ) (f : Field) → LeadsInto types kind next
    → option_and_then (λ (t : TypeId). last_field types t numbers) (inner_message types kind) ≡ Some f
    → last_field types next numbers ≡ Some f
behind types (OneOf s) next numbers f into e = absurd into
behind types (Message k) next numbers f into e = pick (is_plain_message types k) e
  where
    pick : (b : Bool)
        → option_and_then (λ (t : TypeId). last_field types t numbers) (cond b (Some k) None) ≡ Some f
        → last_field types next numbers ≡ Some f
    pick true d = subst (λ (t : TypeId). last_field types t numbers ≡ Some f) into.0 d
    pick false d = absurd (cc d)

-- numbers that lead to a leaf, which is of a scalar kind, lead to where its items can be set
leads : (inner : Inner) (types : Types) (id : TypeId) (numbers : List ℕ) (f : Field) (s : Scalar) (i : Item)
    → NumbersLeadToLeaf types id numbers → last_field types id numbers ≡ Some f → f.kind ≡ OneOf s
    → IsScalarItem s (out-Item i) → LeadsToSlot inner types id numbers (One i)
leads inner types id [] f s i h e kind is = absurd h
leads inner types id (n ∷ []) f s i h e kind is =
    let same : h.0.field ≡ f = cc (h.0.field_is, e) in
    (f, e, settable inner f f.shape s i (subst (λ (x : Field). IsSingular x.shape) same h.0.singular) kind is)
leads inner types id (n ∷ m ∷ numbers) f s i h e kind is =
    let found : option_and_then (λ (t : TypeId). last_field types t (m ∷ numbers))
    (option_and_then (λ (x : Field). inner_message types x.kind) (Some h.0.field)) ≡ Some f =
    subst (λ (o : Option Field). option_and_then (λ (t : TypeId). last_field types t (m ∷ numbers))
    (option_and_then (λ (x : Field). inner_message types x.kind) o) ≡ Some f) h.0.field_is e in (
      h.0,
      h.1,
      h.2,
      leads inner types h.1 (m ∷ numbers) f s i h.3
          (behind types h.0.field.kind h.1 (m ∷ numbers) f h.2 found) kind is,
    )

-- what a text means is an item of the scalar kind
abbrev pub TextsAreScalars : Type 0
TextsAreScalars =
    (types : Types) (scalar : Scalar) (text : List ℕ) (i : ItemLayer) → IsScalarText types scalar text i
    → IsScalarItem scalar i

-- what a variable sets fits the input
fits : TextsAreScalars → (types : Types) (input : TypeId) (b : Binding) (path : List ℕ) (spans : List Span) (i : ℕ)
    (s : Setting) → AllByRecursion (NumbersLeadToLeaf types input) b.paths → SetsAt types input b path spans i s
    → FitsSetting types input s
fits scalars types input b path spans i s lead h =
    subst (FitsSetting types input) (sym h.sets.setting_is)
    (record {
      levels = h.sets.shallow;
      leads =
          leads (valid_within (100 - length h.numbers) types) types input h.numbers h.sets.ends.field h.sets.scalar
          h.sets.item (lead_at types input b.paths i h.numbers lead h.variable.numbers_are)
          h.sets.ends.field_is h.sets.ends.kind_is
          (scalars types h.sets.scalar h.text (out-Item h.sets.item) h.sets.means);
    })

-- what a path binds fits the input
pub overlay_of : TextsAreScalars → (api : Api) (index : ℕ) (path : List ℕ) (spans : List Span) (a : Assignments)
    → (h : IsBound api index path spans a) → IsServable api h.binding → IsOverlayOf api index a
overlay_of scalars api index path spans a h served =
    let same : served.method ≡ h.method =
    one_found api.methods h.binding.call served.method h.method served.method_is h.call.method_is in
    let lead : AllByRecursion (NumbersLeadToLeaf api.types h.method.input) h.binding.paths =
    subst (λ (m : MethodInfo). AllByRecursion (NumbersLeadToLeaf api.types m.input) h.binding.paths) same
    served.paths in
    record {
      binding = h.binding;
      method = h.method;
      call = h.call;
      query = subst (AllByRecursion (FitsSetting api.types h.method.input)) (sym h.query) tt;
      path =
          each_from (FitsSetting api.types h.method.input) a.path
          (λ i s e. fits scalars api.types h.method.input h.binding path spans i s lead (h.each i s e));
    }
