-- A text of a leaf means one item or has one fault.
use Rattle.std.proofs.Common.{◌≡◌, ◌≢◌, ◌∙◌, ℕ, List, Result, Ok, Err, refl, sym, ap}
use Rattle.json_meanings.specs.SpotTables.{known_of}
use Rattle.known_types.specs.KnownTexts.{known_value}
use Rattle.known_types.specs.declared.fault.TextFault.{TextFault}
use Rattle.known_types.specs.declared.fault.TextFault.TheVariants as text_faults
use Rattle.leaf_texts.specs.LeafTexts.{IsKnownText, IsKnownTextFault, IsLeafReading, IsLeafText, IsLeafTextFault, IsMessageText, IsMessageTextFault, scalar_of_wrapper, wrapper_of}
use Rattle.message_types.specs.declared.fields.Kind.{Kind}
use Rattle.message_types.specs.declared.fields.Kind.TheVariants.{One as OneOf, Message as MessageOf}
use Rattle.message_types.specs.declared.fields.Scalar.{Scalar}
use Rattle.message_types.specs.declared.messages.Known.{Known}
use Rattle.message_types.specs.declared.messages.Known.TheVariants.{Plain, Timestamp, Duration, FieldMask, Wrapper}
use Rattle.message_types.specs.declared.messages.TypeId.{TypeId}
use Rattle.message_types.specs.declared.messages.Types.{Types}
use Rattle.scalar_texts.specs.ScalarTexts.{IsScalarText, IsScalarTextFault}
use Rattle.scalar_texts.specs.declared.fault.ScalarFault.{ScalarFault}
use Rattle.scalar_texts.specs.declared.fault.ScalarFault.TheVariants.{BadText, BadNumber, OutOfRange, BadEnum, NotUtf8, NoMemory}
use Rattle.schema.specs.Layers.{ItemLayer}
use Rattle.schema.specs.declared.value.Item.TheOpen.{Message}
use Rattle.schema.specs.declared.value.Item.{Item, out-Item, roll-Item, roll-out-Item}
use Rattle.schema.specs.declared.value.Value.{Value}

-- ---- texts of timestamps, durations and field masks

one_known_item : (known : Known) (text : List ℕ) (i j : ItemLayer) → IsKnownText known text i → IsKnownText known text j
    → i ≡ j
one_known_item known text i j h k =
    let results : ◌≡◌ {A = Result Value TextFault} (Ok h.0) (Ok k.0) = sym h.1 ∙ k.1 in
    let same : h.0 ≡ k.0 = cc results in h.2 ∙ ap Message same ∙ sym k.2

-- the fault of a text that is read, as one of a leaf
abbrev told : TextFault → ScalarFault
told text_faults.BadText = BadText
told text_faults.OutOfRange = OutOfRange
told text_faults.NoMemory = NoMemory

fault_told : (known : Known) (text : List ℕ) (f : ScalarFault) → IsKnownTextFault known text f
    → (t : TextFault) × (known_value known text ≡ Err t) × (f ≡ told t)
fault_told known text BadText h = (text_faults.BadText, h, refl)
fault_told known text OutOfRange h = (text_faults.OutOfRange, h, refl)
fault_told known text BadNumber h = absurd h
fault_told known text BadEnum h = absurd h
fault_told known text NotUtf8 h = absurd h
fault_told known text NoMemory h = absurd h

one_known_fault : (known : Known) (text : List ℕ) (f g : ScalarFault) → IsKnownTextFault known text f
    → IsKnownTextFault known text g → f ≡ g
one_known_fault known text f g h k =
    let a = fault_told known text f h in
    let b = fault_told known text g k in
    let results : ◌≡◌ {A = Result Value TextFault} (Err a.0) (Err b.0) = sym a.1 ∙ b.1 in
    let same : a.0 ≡ b.0 = cc results in a.2 ∙ ap told same ∙ sym b.2

known_apart : (known : Known) (text : List ℕ) (i : ItemLayer) (f : ScalarFault) → IsKnownText known text i
    → IsKnownTextFault known text f → ⊥
known_apart known text i f h k =
    let a = fault_told known text f k in
    let results : ◌≡◌ {A = Result Value TextFault} (Ok h.0) (Err a.0) = sym h.1 ∙ a.1 in cc results

-- ---- texts of leaves, by what is known of those of scalars

-- the text of a scalar means one item at most, or has one fault, and not both
pub record ScalarsAreApart : Type 0 where
  pub item : (types : Types) (scalar : Scalar) (text : List ℕ) (i j : ItemLayer)
      → IsScalarText types scalar text i → IsScalarText types scalar text j → i ≡ j
  pub apart : (types : Types) (scalar : Scalar) (text : List ℕ) (i : ItemLayer) (fault : ScalarFault)
      → IsScalarText types scalar text i → IsScalarTextFault types scalar text fault → ⊥
  pub fault : (types : Types) (scalar : Scalar) (text : List ℕ) (f g : ScalarFault)
      → IsScalarTextFault types scalar text f → IsScalarTextFault types scalar text g → f ≡ g

module _ (scalars : ScalarsAreApart) (types : Types) where
  message_item : (id : TypeId) (known : Known) (text : List ℕ) (i j : ItemLayer) → IsMessageText types id known text i
      → IsMessageText types id known text j → i ≡ j
  message_item id Plain text i j h k = one_known_item Plain text i j h k
  message_item id Timestamp text i j h k = one_known_item Timestamp text i j h k
  message_item id Duration text i j h k = one_known_item Duration text i j h k
  message_item id FieldMask text i j h k = one_known_item FieldMask text i j h k
  message_item id Wrapper text i j h k =
      let opened : out-Item h.0 ≡ out-Item k.0 =
      scalars.item types (scalar_of_wrapper types id) text (out-Item h.0) (out-Item k.0) h.1 k.1 in
      let same : h.0 ≡ k.0 = sym (roll-out-Item h.0) ∙ ap roll-Item opened ∙ roll-out-Item k.0 in
      h.2 ∙ ap (λ x. Message (wrapper_of x)) same ∙ sym k.2

  message_apart : (id : TypeId) (known : Known) (text : List ℕ) (i : ItemLayer) (f : ScalarFault)
      → IsMessageText types id known text i → IsMessageTextFault types id known text f → ⊥
  message_apart id Plain text i f h k = known_apart Plain text i f h k
  message_apart id Timestamp text i f h k = known_apart Timestamp text i f h k
  message_apart id Duration text i f h k = known_apart Duration text i f h k
  message_apart id FieldMask text i f h k = known_apart FieldMask text i f h k
  message_apart id Wrapper text i f h k =
      scalars.apart types (scalar_of_wrapper types id) text (out-Item h.0) f h.1 k

  message_fault : (id : TypeId) (known : Known) (text : List ℕ) (f g : ScalarFault)
      → IsMessageTextFault types id known text f → IsMessageTextFault types id known text g → f ≡ g
  message_fault id Plain text f g h k = one_known_fault Plain text f g h k
  message_fault id Timestamp text f g h k = one_known_fault Timestamp text f g h k
  message_fault id Duration text f g h k = one_known_fault Duration text f g h k
  message_fault id FieldMask text f g h k = one_known_fault FieldMask text f g h k
  message_fault id Wrapper text f g h k = scalars.fault types (scalar_of_wrapper types id) text f g h k

  -- a text means one item
  pub one_item : (kind : Kind) (text : List ℕ) (i j : ItemLayer) → IsLeafText types kind text i
      → IsLeafText types kind text j → i ≡ j
  one_item (OneOf s) text i j h k = scalars.item types s text i j h k
  one_item (MessageOf id) text i j h k = message_item id (known_of types id) text i j h k

  -- what means an item has no fault
  pub items_apart : (kind : Kind) (text : List ℕ) (i : ItemLayer) (f : ScalarFault) → IsLeafText types kind text i
      → IsLeafTextFault types kind text f → ⊥
  items_apart (OneOf s) text i f h k = scalars.apart types s text i f h k
  items_apart (MessageOf id) text i f h k = message_apart id (known_of types id) text i f h k

  -- a text has one fault
  pub one_fault : (kind : Kind) (text : List ℕ) (f g : ScalarFault) → IsLeafTextFault types kind text f
      → IsLeafTextFault types kind text g → f ≡ g
  one_fault (OneOf s) text f g h k = scalars.fault types s text f g h k
  one_fault (MessageOf id) text f g h k = message_fault id (known_of types id) text f g h k

  module _ (kind : Kind) (text : List ℕ) where
    fault_read : (f : ScalarFault) → (f ≡ NoMemory → ⊥) → IsLeafReading types kind text (Err f)
        → IsLeafTextFault types kind text f
    fault_read BadText n h = h
    fault_read BadNumber n h = h
    fault_read OutOfRange n h = h
    fault_read BadEnum n h = h
    fault_read NotUtf8 n h = h
    fault_read NoMemory n h = absurd (n refl)

    -- a text has one reading
    pub one_reading : (r s : Result Item ScalarFault) → IsLeafReading types kind text r
        → IsLeafReading types kind text s → r ≢ Err NoMemory → s ≢ Err NoMemory → r ≡ s
    one_reading (Ok i) (Ok j) h k n m =
        ap Ok
        (sym (roll-out-Item i) ∙ ap roll-Item (one_item kind text (out-Item i) (out-Item j) h k) ∙ roll-out-Item j)
    one_reading (Ok i) (Err g) h k n m =
        absurd (items_apart kind text (out-Item i) g h (fault_read g (λ e. m (ap Err e)) k))
    one_reading (Err f) (Ok j) h k n m =
        absurd (items_apart kind text (out-Item j) f k (fault_read f (λ e. n (ap Err e)) h))
    one_reading (Err f) (Err g) h k n m =
        ap Err (one_fault kind text f g (fault_read f (λ e. n (ap Err e)) h) (fault_read g (λ e. m (ap Err e)) k))
