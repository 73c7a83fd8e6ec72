-- What is valid, one level opened.
use Rattle.std.proofs.Common.{◌≡◌, ◌↔◌, ◌-◌, ℕ, zero, suc, Bool, true, IsTrue, arith, refl, subst}
use Rattle.schema.specs.Validity.{IsScalarItem, IsItem, key_item, valid_within}
use Rattle.schema.specs.declared.key.Key.{Key}
use Rattle.schema.specs.declared.value.Item.{out-Item, Item}
use Rattle.message_types.specs.declared.fields.Kind.{Kind}
use Rattle.message_types.specs.declared.fields.Scalar.{Scalar}
use Rattle.message_types.specs.declared.messages.TypeId.{TypeId}
use Rattle.message_types.specs.declared.messages.Types.{Types}
use Rattle.schema.specs.Value.{RiseFrom, slots_of}
use Rattle.schema.specs.declared.value.Value.{Value}

-- an entry whose key fits is valid where its item is
pub entry_by_item : (k : ℕ) (types : Types) (s : Scalar) (kind : Kind) (key : Key) (i : Item) (b c : Bool) → (k ≡ 0 → ⊥) → (IsTrue b ↔ IsScalarItem s (key_item key)) → b ≡ true
    → (IsTrue c ↔ IsItem (valid_within (k - 1) types) kind (out-Item i)) → (IsTrue c ↔ (valid_within k types).entry s kind (key, i))
unfolding valid_within
entry_by_item zero types s kind key i b c z h t g = absurd (z refl)
entry_by_item (suc k) types s kind key i b c z h t g =
    let e : suc k - 1 ≡ k = omega arith in
    let item : IsTrue c ↔ IsItem (valid_within k types) kind (out-Item i) = subst (λ (n : ℕ). IsTrue c ↔ IsItem (valid_within n types) kind (out-Item i)) e g in
    let fits : IsScalarItem s (key_item key) = h.0 t in
    (λ x. (fits, item.0 x), λ q. item.1 q.1)

-- the numbers of a valid value rise
pub valid_rises : (k : ℕ) (types : Types) (id : TypeId) (v : Value) → (valid_within k types).message id v → RiseFrom 0 (slots_of v)
unfolding valid_within
valid_rises zero types id v h = absurd h
valid_rises (suc k) types id v h = h.rising
