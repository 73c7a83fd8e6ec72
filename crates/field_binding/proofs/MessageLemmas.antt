-- The empty message, from which the message of a request is made.
use Rattle.std.proofs.Common.{◌≡◌, ℕ, List, [], Some, nat_eq, slice_get, refl, ap, ◌∙◌, subst, sym}
use Rattle.std.specs.List.{AllByRecursion}
use Rattle.field_binding.proofs.ReadingLemmas.{one_found}
use Rattle.field_binding.specs.Assignments.{Assignments}
use Rattle.field_binding.specs.RequestMessages.{IsInput, IsOverlayOf, IsRequestMessage}
use Rattle.field_settings.specs.AppliedSettings.{AreSet, FitsSetting}
use Rattle.field_settings.specs.declared.setting.Setting.{Setting}
use Rattle.http_rules.specs.declared.template.Binding.{Binding}
use Rattle.linked_api.specs.declared.api.Api.{Api}
use Rattle.linked_api.specs.declared.api.MethodInfo.{MethodInfo}
use Rattle.message_types.specs.Types.{fields_of}
use Rattle.message_types.specs.declared.messages.TypeId.{TypeId}
use Rattle.message_types.specs.declared.messages.Types.{Types}
use Rattle.schema.specs.Apart.{AreApart}
use Rattle.schema.specs.Soundness.{IsSound}
use Rattle.schema.specs.Validity.{AreFieldSlots, IsValid, oneofs_in, valid_within}
use Rattle.schema.specs.Value.{RiseFrom, slots_of}
use Rattle.schema.specs.declared.value.Slot.{Slot}
use Rattle.schema.specs.declared.value.Value.{Value}

-- a message without fields is one of every type
pub empty_is_valid : (types : Types) (id : TypeId) (v : Value) → slots_of v ≡ [] → IsValid types id v
unfolding valid_within
empty_is_valid types id v none = record {
  rising = subst (RiseFrom 0) (sym none) tt;
  slots = subst (AreFieldSlots (valid_within 99 types) (fields_of types id)) (sym none) tt;
  oneofs = subst (λ es. AreApart nat_eq (oneofs_in (fields_of types id) es)) (sym none) tt;
}

-- settings are made in one way
abbrev pub OneAreSet : Type 0
OneAreSet =
    (types : Types) (id : TypeId) (settings : List Setting) (v w x : Value)
    → AreSet types id settings v w → AreSet types id settings v x → w ≡ x

-- a request has one message
pub one_message : OneAreSet → (api : Api) (index : ℕ) (a : Assignments) (v w : Value)
    → IsRequestMessage api index a v → IsRequestMessage api index a w → v ≡ w
one_message once api index a v w h k =
    let binding : k.binding ≡ h.binding =
    one_found api.bindings index k.binding h.binding k.call.binding_is h.call.binding_is in
    let method : k.method ≡ h.method =
    one_found api.methods h.binding.call k.method h.method
    (subst (λ (x : Binding). slice_get api.methods x.call ≡ Some k.method) binding k.call.method_is)
    h.call.method_is in
    let empty : k.empty ≡ h.empty =
    ap (λ (fields : List (ℕ × Slot)). record_of fields) (k.nothing ∙ sym h.nothing) in
    let by_query : AreSet api.types h.method.input a.query h.empty k.queried =
    subst (λ (e : Value). AreSet api.types h.method.input a.query e k.queried) empty
    (subst (λ (m : MethodInfo). AreSet api.types m.input a.query k.empty k.queried) method k.by_query) in
    let queried : k.queried ≡ h.queried =
    once api.types h.method.input a.query h.empty k.queried h.queried by_query h.by_query in
    let by_path : AreSet api.types h.method.input a.path h.queried w =
    subst (λ (q : Value). AreSet api.types h.method.input a.path q w) queried
    (subst (λ (m : MethodInfo). AreSet api.types m.input a.path k.queried w) method k.by_path) in
    once api.types h.method.input a.path h.queried v w h.by_path by_path
  where
    record_of : List (ℕ × Slot) → Value
    record_of fields = record { fields = fields }

-- settings that fit can be made in a valid value, and give one
abbrev pub FitsAreSet : Type 0
FitsAreSet =
    (types : Types) (id : TypeId) (settings : List Setting) (v : Value) → IsSound types
    → AllByRecursion (FitsSetting types id) settings → IsValid types id v
    → (w : Value) × AreSet types id settings v w × IsValid types id w

-- of what fits there is a message
pub some_message : FitsAreSet → (api : Api) (index : ℕ) (a : Assignments) → IsSound api.types
    → IsOverlayOf api index a → (v : Value) × IsRequestMessage api index a v × IsInput api index v
some_message set api index a sound h =
    let valid : IsValid api.types h.method.input nothing = empty_is_valid api.types h.method.input nothing refl in
    let queried = set api.types h.method.input a.query nothing sound h.query valid in
    let done = set api.types h.method.input a.path queried.0 sound h.path queried.2 in (
      done.0,
      record {
        binding = h.binding;
        method = h.method;
        call = h.call;
        empty = nothing;
        nothing = refl;
        queried = queried.0;
        by_query = queried.1;
        by_path = done.1;
      },
      record { binding = h.binding; method = h.method; call = h.call; valid = done.2 },
    )
  where
    nothing : Value
    nothing = record { fields = [] }
