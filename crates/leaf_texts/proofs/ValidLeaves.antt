-- What the text of a leaf means is a valid item.
use Rattle.std.proofs.Common.{◌≡◌, ◌<◌, ℕ, suc, Bool, true, false, cond, List, [], ◌∷◌, nat_eq, Option, Some, None, Ok, arith, refl, sym, ap, subst}
use Rattle.std.specs.List.{cons_option}
use Rattle.json_meanings.specs.SpotTables.{known_of, scalar_in, wrapped_scalar}
use Rattle.known_types.specs.KnownTexts.{known_value}
use Rattle.leaf_texts.specs.LeafTexts.{IsKnownText, IsLeafText, IsMessageText, scalar_of_wrapper, wrapper_of}
use Rattle.message_types.specs.Types.{field_in, field_of, fields_of}
use Rattle.message_types.specs.declared.fields.Field.{Field}
use Rattle.message_types.specs.declared.fields.Kind.{Kind}
use Rattle.message_types.specs.declared.fields.Kind.TheVariants.{One as OneOf, Message as MessageOf}
use Rattle.message_types.specs.declared.fields.Scalar.{Scalar}
use Rattle.message_types.specs.declared.messages.Known.{Known}
use Rattle.message_types.specs.declared.messages.Known.TheVariants.{Plain, Timestamp, Duration, FieldMask, Wrapper}
use Rattle.message_types.specs.declared.messages.TypeId.{TypeId}
use Rattle.message_types.specs.declared.messages.Types.{Types}
use Rattle.scalar_texts.specs.ScalarTexts.{IsScalarText}
use Rattle.schema.specs.Apart.{AreApart}
use Rattle.schema.specs.Layers.{ItemLayer}
use Rattle.schema.specs.Soundness.{HasKnownFields, IsSound, IsValueField}
use Rattle.schema.specs.Validity.{Inner, IsFieldSlot, IsItem, IsMessage, IsScalarItem, IsSlot, IsStored, is_default, oneof_of, valid_within}
use Rattle.schema.specs.declared.value.Item.TheOpen.{One}
use Rattle.schema.specs.declared.value.Item.{Item, out-Item}
use Rattle.schema.specs.declared.value.Slot.{One as OneSlot}
use Rattle.schema.specs.declared.value.Slot.TheVariants.{outs-One}
use Rattle.schema.specs.declared.value.Value.{Value}

-- ---- wrappers

one_oneof : (o : Option ℕ) → AreApart nat_eq (cons_option o [])
one_oneof None = tt
one_oneof (Some k) = (tt, tt)

-- the message of a wrapper's value is one of its type
module _ (inner : Inner) (types : Types) (id : TypeId) (j : Item) where
  wrapper_slot : (f : Field) → IsValueField (Some f) → IsScalarItem (wrapped_scalar (Some f)) (out-Item j)
      → is_default (out-Item j) ≡ false → IsFieldSlot inner (Some f) (OneSlot j)
  wrapper_slot f v h stored =
      let form = v.2.1 in
      let item : IsScalarItem v.0 (out-Item j) =
      subst (λ s. IsScalarItem s (out-Item j)) (ap scalar_in form.0) h in
      rw outs-One (subst (λ shape. IsSlot inner f shape (One j)) (sym form.1) (
        subst (λ kind. IsItem inner kind (out-Item j)) (sym form.0) item,
        subst (λ p. IsStored p (out-Item j)) (sym form.2) stored,
      ))

  wrapper_fields : (o : Option Field) → field_of types id 1 ≡ o → IsValueField o
      → IsScalarItem (wrapped_scalar o) (out-Item j) → (b : Bool) → is_default (out-Item j) ≡ b
      → IsMessage inner types id (record { fields = cond b [] ((1, OneSlot j) ∷ []) })
  wrapper_fields o e v h true d = record { rising = tt; slots = tt; oneofs = tt }
  wrapper_fields None e v h false d = absurd v.2
  wrapper_fields (Some f) e v h false d = record {
    rising = (let lt : 0 < 1 = omega arith in lt, tt);
    slots = (subst (λ o. IsFieldSlot inner o (OneSlot j)) (sym e) (wrapper_slot f v h d), tt);
    oneofs = one_oneof (oneof_of (field_in (fields_of types id) 1));
  }

  wrapper_valid : IsValueField (field_of types id 1) → IsScalarItem (scalar_of_wrapper types id) (out-Item j)
      → IsMessage inner types id (wrapper_of j)
  wrapper_valid v h = wrapper_fields (field_of types id 1) refl v h (is_default (out-Item j)) refl

-- a message whose parts are valid in so many levels is valid in one more
in_next : (k : ℕ) (types : Types) (id : TypeId) (v : Value) → IsMessage (valid_within k types) types id v
    → (valid_within (suc k) types).message id v
unfolding valid_within
in_next k types id v h = h

-- ---- leaves, by what is known of scalars' texts, of sound types and of the texts of well-known types

module _ (scalars : (types : Types) (scalar : Scalar) (text : List ℕ) (i : ItemLayer)
    → IsScalarText types scalar text i → IsScalarItem scalar i)
    (fields : (types : Types) (id : TypeId) → IsSound types → HasKnownFields (known_of types id) (fields_of types id))
    (known : (types : Types) (id : TypeId) (k : ℕ) (known : Known) (text : List ℕ) (v : Value)
    → HasKnownFields known (fields_of types id) → known_value known text ≡ Ok v
    → (valid_within (suc k) types).message id v) (types : Types) where
  known_valid : (id : TypeId) (type : Known) (text : List ℕ) (i : ItemLayer) (k : ℕ)
      → HasKnownFields type (fields_of types id) → IsKnownText type text i
      → IsItem (valid_within (suc k) types) (MessageOf id) i
  known_valid id type text i k has h =
      subst (IsItem (valid_within (suc k) types) (MessageOf id)) (sym h.2) (known types id k type text h.0 has h.1)

  message_valid : (id : TypeId) (type : Known) (text : List ℕ) (i : ItemLayer) (k : ℕ)
      → HasKnownFields type (fields_of types id) → IsMessageText types id type text i
      → IsItem (valid_within (suc k) types) (MessageOf id) i
  message_valid id Plain text i k has h = known_valid id Plain text i k has h
  message_valid id Timestamp text i k has h = known_valid id Timestamp text i k has h
  message_valid id Duration text i k has h = known_valid id Duration text i k has h
  message_valid id FieldMask text i k has h = known_valid id FieldMask text i k has h
  message_valid id Wrapper text i k has h =
      subst (IsItem (valid_within (suc k) types) (MessageOf id)) (sym h.2)
      (in_next k types id (wrapper_of h.0)
      (wrapper_valid (valid_within k types) types id h.0 has.1
      (scalars types (scalar_of_wrapper types id) text (out-Item h.0) h.1)))

  -- what a text means is valid, wherever a message may stand
  pub leaf_valid : (kind : Kind) (text : List ℕ) (i : ItemLayer) (k : ℕ) → IsSound types → IsLeafText types kind text i
      → IsItem (valid_within (suc k) types) kind i
  leaf_valid (OneOf s) text i k sound h = scalars types s text i h
  leaf_valid (MessageOf id) text i k sound h = message_valid id (known_of types id) text i k (fields types id sound) h
