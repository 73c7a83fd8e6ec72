-- What is found of a text is what the definitions say, and a text has one reading.
use Rattle.std.proofs.Common.{◌≡◌, ◌≢◌, ◌⊎◌, inl, inr, ℕ, Bool, true, false, List, Option, Some, None, refl, sym, ap, subst, ◌∙◌}
use Rattle.std.specs.Prelude.{ℤ, Result, Ok, Err}
use Rattle.std.specs.Str.{IsUtf8}
use Rattle.json_events.specs.JsonNumbers.{DenotesInteger}
use Rattle.json_integers.specs.IntegerTexts.{IsIntegerText}
use Rattle.json_integers.specs.declared.integer_text.IntegerText.TheVariants.{NotANumber, PastRange}
use Rattle.message_types.specs.declared.fields.Scalar.{Scalar}
use Rattle.message_types.specs.declared.fields.Scalar.TheVariants.{Int32, Int64, Uint32, Uint64, Sint32, Sint64, Fixed32, Fixed64, Sfixed32, Sfixed64, Bool as BoolOf, Text as TextOf, Bytes as BytesOf, Enumeration}
use Rattle.message_types.specs.declared.messages.Types.{Types}
use Rattle.schema.specs.Layers.{ItemLayer}
use Rattle.schema.specs.Validity.{IsScalarItem}
use Rattle.schema.specs.declared.value.Item.TheOpen.{Number, Truth, Text, Bytes, Message}
use Rattle.schema.specs.declared.value.Item.{Item, out-Item, roll-Item, roll-out-Item}
use Rattle.known_types.specs.BytesTexts.{IsBytesText}
use Rattle.json_meanings.specs.JsonScalars.{IsNumberKind}
use Rattle.scalar_texts.proofs.Theorems.{number_told}
use Rattle.scalar_texts.specs.ScalarMeanings.{IsNumberReading, IsNumberMeaning}
use Rattle.scalar_texts.specs.ScalarTexts.{named_number, DenotesNumber, IsScalarText, IsEnumKind, IsOtherText, IsScalarTextFault, IsScalarReading, MayLackMemory}
use Rattle.json_meanings.specs.JsonScalars.{truth_text}
use Rattle.scalar_texts.specs.declared.fault.ScalarFault.{ScalarFault}
use Rattle.scalar_texts.specs.declared.fault.ScalarFault.TheVariants.{BadText, BadNumber, OutOfRange, BadEnum, NotUtf8, NoMemory}

-- a kind of which a number is a value
number_kind : (s : Scalar) (z : ℤ) → IsScalarItem s (Number z) → IsNumberKind s
number_kind Int32 z h = tt
number_kind Int64 z h = tt
number_kind Uint32 z h = tt
number_kind Uint64 z h = tt
number_kind Sint32 z h = tt
number_kind Sint64 z h = tt
number_kind Fixed32 z h = tt
number_kind Fixed64 z h = tt
number_kind Sfixed32 z h = tt
number_kind Sfixed64 z h = tt
number_kind BoolOf z h = absurd h
number_kind TextOf z h = absurd h
number_kind BytesOf z h = absurd h
number_kind (Enumeration id) z h = tt

-- the kind of which a truth value is a value
truth_kind : (s : Scalar) (b : Bool) → IsScalarItem s (Truth b) → s ≡ BoolOf
truth_kind Int32 b h = absurd h
truth_kind Int64 b h = absurd h
truth_kind Uint32 b h = absurd h
truth_kind Uint64 b h = absurd h
truth_kind Sint32 b h = absurd h
truth_kind Sint64 b h = absurd h
truth_kind Fixed32 b h = absurd h
truth_kind Fixed64 b h = absurd h
truth_kind Sfixed32 b h = absurd h
truth_kind Sfixed64 b h = absurd h
truth_kind BoolOf b h = refl
truth_kind TextOf b h = absurd h
truth_kind BytesOf b h = absurd h
truth_kind (Enumeration id) b h = absurd h

-- the kind of which a text is a value
text_kind : (s : Scalar) (t : List ℕ) → IsScalarItem s (Text t) → s ≡ TextOf
text_kind Int32 t h = absurd h
text_kind Int64 t h = absurd h
text_kind Uint32 t h = absurd h
text_kind Uint64 t h = absurd h
text_kind Sint32 t h = absurd h
text_kind Sint64 t h = absurd h
text_kind Fixed32 t h = absurd h
text_kind Fixed64 t h = absurd h
text_kind Sfixed32 t h = absurd h
text_kind Sfixed64 t h = absurd h
text_kind BoolOf t h = absurd h
text_kind TextOf t h = refl
text_kind BytesOf t h = absurd h
text_kind (Enumeration id) t h = absurd h

-- the kind of which bytes are a value
bytes_kind : (s : Scalar) (b : List ℕ) → IsScalarItem s (Bytes b) → s ≡ BytesOf
bytes_kind Int32 b h = absurd h
bytes_kind Int64 b h = absurd h
bytes_kind Uint32 b h = absurd h
bytes_kind Uint64 b h = absurd h
bytes_kind Sint32 b h = absurd h
bytes_kind Sint64 b h = absurd h
bytes_kind Fixed32 b h = absurd h
bytes_kind Fixed64 b h = absurd h
bytes_kind Sfixed32 b h = absurd h
bytes_kind Sfixed64 b h = absurd h
bytes_kind BoolOf b h = absurd h
bytes_kind TextOf b h = absurd h
bytes_kind BytesOf b h = refl
bytes_kind (Enumeration id) b h = absurd h

-- the kinds that have texts of no form
other_text_kind : (s : Scalar) (text : List ℕ) → IsOtherText s text → (s ≡ BoolOf) ⊎ (s ≡ BytesOf)
other_text_kind Int32 t h = absurd h
other_text_kind Int64 t h = absurd h
other_text_kind Uint32 t h = absurd h
other_text_kind Uint64 t h = absurd h
other_text_kind Sint32 t h = absurd h
other_text_kind Sint64 t h = absurd h
other_text_kind Fixed32 t h = absurd h
other_text_kind Fixed64 t h = absurd h
other_text_kind Sfixed32 t h = absurd h
other_text_kind Sfixed64 t h = absurd h
other_text_kind BoolOf t h = inl refl
other_text_kind TextOf t h = absurd h
other_text_kind BytesOf t h = inr refl
other_text_kind (Enumeration id) t h = absurd h

-- the kinds that are left
pub other_kind : (s : Scalar) → (s ≡ BoolOf → ⊥) → (s ≡ TextOf → ⊥) → (s ≡ BytesOf → ⊥) → IsNumberKind s
other_kind Int32 a b c = tt
other_kind Int64 a b c = tt
other_kind Uint32 a b c = tt
other_kind Uint64 a b c = tt
other_kind Sint32 a b c = tt
other_kind Sint64 a b c = tt
other_kind Fixed32 a b c = tt
other_kind Fixed64 a b c = tt
other_kind Sfixed32 a b c = tt
other_kind Sfixed64 a b c = tt
other_kind BoolOf a b c = a refl
other_kind TextOf a b c = b refl
other_kind BytesOf a b c = c refl
other_kind (Enumeration id) a b c = tt

text_utf8 : (s : Scalar) (t : List ℕ) → IsScalarItem s (Text t) → IsUtf8 t
text_utf8 Int32 t h = absurd h
text_utf8 Int64 t h = absurd h
text_utf8 Uint32 t h = absurd h
text_utf8 Uint64 t h = absurd h
text_utf8 Sint32 t h = absurd h
text_utf8 Sint64 t h = absurd h
text_utf8 Fixed32 t h = absurd h
text_utf8 Fixed64 t h = absurd h
text_utf8 Sfixed32 t h = absurd h
text_utf8 Sfixed64 t h = absurd h
text_utf8 BoolOf t h = absurd h
text_utf8 TextOf t h = h
text_utf8 BytesOf t h = absurd h
text_utf8 (Enumeration id) t h = absurd h

one_item : (i j : Item) → out-Item i ≡ out-Item j → i ≡ j
one_item i j e = sym (roll-out-Item i) ∙ ap roll-Item e ∙ roll-out-Item j

-- an integer past 64 bits is out of range
pub past_range : (s : Scalar) (text : List ℕ) → IsIntegerText text PastRange → IsNumberReading s text (Err OutOfRange)
past_range s text h = (h.0, h.1, λ k. h.2 (number_told s h.0 k))

-- what is no number is no integer
pub no_number : (s : Scalar) (text : List ℕ) → IsIntegerText text NotANumber → (IsEnumKind s → ⊥)
    → IsNumberReading s text (Err BadNumber)
no_number s text h e = (λ z d. h d.number, λ k. absurd (e k))

module _ (types : Types) (s : Scalar) (text : List ℕ) where
  -- where a text names no number, it is read as an integer
  pub unnamed : (r : Result ℤ ScalarFault) → named_number types s text ≡ None → IsNumberKind s
      → IsNumberReading s text r
      → IsNumberMeaning types s text r
  unnamed (Ok z) e n h = (subst (λ (o : Option ℤ). DenotesNumber o text z) (sym e) h.0, h.1)
  unnamed (Err BadText) e n h = absurd h
  unnamed (Err BadNumber) e n h = (n, λ z d. h.0 z (subst (λ (o : Option ℤ). DenotesNumber o text z) e d), h.1)
  unnamed (Err OutOfRange) e n h = (n, (h.0, subst (λ (o : Option ℤ). DenotesNumber o text h.0) (sym e) h.1, h.2))
  unnamed (Err BadEnum) e n h = (
    h.0,
    λ z d.
        (let i : DenotesInteger z text = subst (λ (o : Option ℤ). DenotesNumber o text z) e d in h.1 i.number),
    h.1,
  )
  unnamed (Err NotUtf8) e n h = absurd h
  unnamed (Err NoMemory) e n h = absurd h

  -- a name means its number
  pub named : (n : ℤ) → named_number types s text ≡ Some n → IsScalarItem s (Number n)
      → IsNumberMeaning types s text (Ok n)
  named n e h = (subst (λ (o : Option ℤ). DenotesNumber o text n) (sym e) refl, h)

  -- a fault is a reading
  pub fault_reading : (f : ScalarFault) → IsScalarTextFault types s text f → IsScalarReading types s text (Err f)
  fault_reading BadText h = h
  fault_reading BadNumber h = h
  fault_reading OutOfRange h = h
  fault_reading BadEnum h = h
  fault_reading NotUtf8 h = h
  fault_reading NoMemory h = absurd h

  -- a string that means something may be out of memory
  pub no_room : (t : List ℕ) → IsScalarText types s text (Text t) → IsScalarReading types s text (Err NoMemory)
  no_room t h =
      subst (λ (x : Scalar). MayLackMemory x text) (sym (text_kind s t h.1)) (subst IsUtf8 h.0 (text_utf8 s t h.1))

  reading_fault : (f : ScalarFault) → (f ≡ NoMemory → ⊥) → IsScalarReading types s text (Err f)
      → IsScalarTextFault types s text f
  reading_fault BadText n h = h
  reading_fault BadNumber n h = h
  reading_fault OutOfRange n h = h
  reading_fault BadEnum n h = h
  reading_fault NotUtf8 n h = h
  reading_fault NoMemory n h = n refl

  no_truth : {Q : Type 0} → IsNumberKind s → s ≡ BoolOf → Q
  no_truth n e = absurd (subst IsNumberKind e n)

  no_text : {Q : Type 0} → IsNumberKind s → s ≡ TextOf → Q
  no_text n e = absurd (subst IsNumberKind e n)

  apart : {Q : Type 0} → s ≡ BoolOf → s ≡ TextOf → Q
  apart a b = let e : BoolOf ≡ TextOf = sym a ∙ b in absurd (cc)

  no_bytes : {Q : Type 0} → IsNumberKind s → s ≡ BytesOf → Q
  no_bytes n e = absurd (subst IsNumberKind e n)

  truth_or_bytes : {Q : Type 0} → s ≡ BoolOf → s ≡ BytesOf → Q
  truth_or_bytes a b = let e : BoolOf ≡ BytesOf = sym a ∙ b in absurd (cc)

  text_or_bytes : {Q : Type 0} → s ≡ TextOf → s ≡ BytesOf → Q
  text_or_bytes a b = let e : TextOf ≡ BytesOf = sym a ∙ b in absurd (cc)

  no_other : {Q : Type 0} → IsNumberKind s → IsOtherText s text → Q
  no_other n h = elim (other_text_kind s text h) [ inl e ↦ no_truth n e | inr e ↦ no_bytes n e ]

  no_text_other : {Q : Type 0} → s ≡ TextOf → IsOtherText s text → Q
  no_text_other t h = elim (other_text_kind s text h) [ inl e ↦ apart e t | inr e ↦ text_or_bytes t e ]

  enum_number : (k : Scalar) → IsEnumKind k → IsNumberKind k
  enum_number Int32 h = absurd h
  enum_number Int64 h = absurd h
  enum_number Uint32 h = absurd h
  enum_number Uint64 h = absurd h
  enum_number Sint32 h = absurd h
  enum_number Sint64 h = absurd h
  enum_number Fixed32 h = absurd h
  enum_number Fixed64 h = absurd h
  enum_number Sfixed32 h = absurd h
  enum_number Sfixed64 h = absurd h
  enum_number BoolOf h = absurd h
  enum_number TextOf h = absurd h
  enum_number BytesOf h = absurd h
  enum_number (Enumeration id) h = tt

module _ (one : (y z : ℤ) (text : List ℕ) → DenotesInteger y text → DenotesInteger z text → y ≡ z)
    (spelled : (text a b : List ℕ) → IsBytesText text a → IsBytesText text b → a ≡ b) (types : Types) (s : Scalar)
    (text : List ℕ) where
  one_number : (o : Option ℤ) (y z : ℤ) → DenotesNumber o text y → DenotesNumber o text z → y ≡ z
  one_number None y z h k = one y z text h k
  one_number (Some n) y z h k = h ∙ sym k

  one_truth : (b c : Bool) → truth_text b ≡ truth_text c → b ≡ c
  one_truth true true e = refl
  one_truth true false e = absurd (cc)
  one_truth false true e = absurd (cc)
  one_truth false false e = refl

  -- a text means one item
  pub one_layer : (x y : ItemLayer) → IsScalarText types s text x → IsScalarText types s text y → x ≡ y
  one_layer (Number y) (Number z) h k = ap Number (one_number (named_number types s text) y z h.0 k.0)
  one_layer (Number y) (Truth c) h k = no_truth types s text (number_kind s y h.1) (truth_kind s c k.1)
  one_layer (Number y) (Text u) h k = no_text types s text (number_kind s y h.1) (text_kind s u k.1)
  one_layer (Number y) (Bytes v) h k = no_bytes types s text (number_kind s y h.1) (bytes_kind s v k.1)
  one_layer (Number y) (Message v) h k = absurd k.0
  one_layer (Truth b) (Number z) h k = no_truth types s text (number_kind s z k.1) (truth_kind s b h.1)
  one_layer (Truth b) (Truth c) h k = ap Truth (one_truth b c (sym h.0 ∙ k.0))
  one_layer (Truth b) (Text u) h k = apart types s text (truth_kind s b h.1) (text_kind s u k.1)
  one_layer (Truth b) (Bytes v) h k = truth_or_bytes types s text (truth_kind s b h.1) (bytes_kind s v k.1)
  one_layer (Truth b) (Message v) h k = absurd k.0
  one_layer (Text t) (Number z) h k = no_text types s text (number_kind s z k.1) (text_kind s t h.1)
  one_layer (Text t) (Truth c) h k = apart types s text (truth_kind s c k.1) (text_kind s t h.1)
  one_layer (Text t) (Text u) h k = ap Text (h.0 ∙ sym k.0)
  one_layer (Text t) (Bytes v) h k = text_or_bytes types s text (text_kind s t h.1) (bytes_kind s v k.1)
  one_layer (Text t) (Message v) h k = absurd k.0
  one_layer (Bytes v) (Number z) h k = no_bytes types s text (number_kind s z k.1) (bytes_kind s v h.1)
  one_layer (Bytes v) (Truth c) h k = truth_or_bytes types s text (truth_kind s c k.1) (bytes_kind s v h.1)
  one_layer (Bytes v) (Text u) h k = text_or_bytes types s text (text_kind s u k.1) (bytes_kind s v h.1)
  one_layer (Bytes v) (Bytes w) h k = ap Bytes (spelled text v w h.0 k.0)
  one_layer (Bytes v) (Message w) h k = absurd k.0
  one_layer (Message v) y h k = absurd h.0

  -- what means an item has no fault
  pub layer_fault : (x : ItemLayer) (f : ScalarFault) → IsScalarText types s text x
      → IsScalarTextFault types s text f → ⊥
  layer_fault (Number y) BadText h k = no_other types s text (number_kind s y h.1) k
  layer_fault (Number y) NotUtf8 h k = no_text types s text (number_kind s y h.1) (k.0)
  layer_fault (Number y) BadNumber h k = k.1 y h.0
  layer_fault (Number y) BadEnum h k = k.1 y h.0
  layer_fault (Number y) OutOfRange h k = k.1.2
      (subst (λ (z : ℤ). IsScalarItem s (Number z)) (one_number (named_number types s text) y k.1.0 h.0 k.1.1) h.1)
  layer_fault (Number y) NoMemory h k = k
  layer_fault (Truth b) BadText h k =
      let no : (c : Bool) → text ≢ truth_text c = subst (λ (x : Scalar). IsOtherText x text) (truth_kind s b h.1) k in
      no b h.0
  layer_fault (Truth b) NotUtf8 h k = apart types s text (truth_kind s b h.1) (k.0)
  layer_fault (Truth b) BadNumber h k = no_truth types s text (k.0) (truth_kind s b h.1)
  layer_fault (Truth b) BadEnum h k = no_truth types s text (enum_number types s text s k.0) (truth_kind s b h.1)
  layer_fault (Truth b) OutOfRange h k = no_truth types s text (k.0) (truth_kind s b h.1)
  layer_fault (Truth b) NoMemory h k = k
  layer_fault (Text t) BadText h k = no_text_other types s text (text_kind s t h.1) k
  layer_fault (Text t) NotUtf8 h k = k.1 (subst IsUtf8 h.0 (text_utf8 s t h.1))
  layer_fault (Text t) BadNumber h k = no_text types s text (k.0) (text_kind s t h.1)
  layer_fault (Text t) BadEnum h k = no_text types s text (enum_number types s text s k.0) (text_kind s t h.1)
  layer_fault (Text t) OutOfRange h k = no_text types s text (k.0) (text_kind s t h.1)
  layer_fault (Text t) NoMemory h k = k
  layer_fault (Bytes v) BadText h k =
      let no : (b : List ℕ) → IsBytesText text b → ⊥
      = subst (λ (x : Scalar). IsOtherText x text) (bytes_kind s v h.1) k in
      no v h.0
  layer_fault (Bytes v) NotUtf8 h k = text_or_bytes types s text (k.0) (bytes_kind s v h.1)
  layer_fault (Bytes v) BadNumber h k = no_bytes types s text (k.0) (bytes_kind s v h.1)
  layer_fault (Bytes v) BadEnum h k = no_bytes types s text (enum_number types s text s k.0) (bytes_kind s v h.1)
  layer_fault (Bytes v) OutOfRange h k = no_bytes types s text (k.0) (bytes_kind s v h.1)
  layer_fault (Bytes v) NoMemory h k = k
  layer_fault (Message v) f h k = absurd h.0

  -- a text has one fault
  pub one_fault : (f g : ScalarFault) → IsScalarTextFault types s text f → IsScalarTextFault types s text g → f ≡ g
  one_fault BadText BadText h k = refl
  one_fault BadText NotUtf8 h k = no_text_other types s text (k.0) h
  one_fault BadText BadNumber h k = no_other types s text (k.0) h
  one_fault BadText BadEnum h k = no_other types s text (enum_number types s text s k.0) h
  one_fault BadText OutOfRange h k = no_other types s text (k.0) h
  one_fault BadText NoMemory h k = absurd k
  one_fault NotUtf8 BadText h k = no_text_other types s text (h.0) k
  one_fault NotUtf8 NotUtf8 h k = refl
  one_fault NotUtf8 BadNumber h k = no_text types s text (k.0) (h.0)
  one_fault NotUtf8 BadEnum h k = no_text types s text (enum_number types s text s k.0) (h.0)
  one_fault NotUtf8 OutOfRange h k = no_text types s text (k.0) (h.0)
  one_fault NotUtf8 NoMemory h k = absurd k
  one_fault BadNumber BadText h k = no_other types s text (h.0) k
  one_fault BadNumber NotUtf8 h k = no_text types s text (h.0) (k.0)
  one_fault BadNumber BadNumber h k = refl
  one_fault BadNumber BadEnum h k = absurd (k.2 (h.2 k.0))
  one_fault BadNumber OutOfRange h k = absurd (h.1 k.1.0 k.1.1)
  one_fault BadNumber NoMemory h k = absurd k
  one_fault BadEnum BadText h k = no_other types s text (enum_number types s text s h.0) k
  one_fault BadEnum NotUtf8 h k = no_text types s text (enum_number types s text s h.0) (k.0)
  one_fault BadEnum BadNumber h k = absurd (h.2 (k.2 h.0))
  one_fault BadEnum BadEnum h k = refl
  one_fault BadEnum OutOfRange h k = absurd (h.1 k.1.0 k.1.1)
  one_fault BadEnum NoMemory h k = absurd k
  one_fault OutOfRange BadText h k = no_other types s text (h.0) k
  one_fault OutOfRange NotUtf8 h k = no_text types s text (h.0) (k.0)
  one_fault OutOfRange BadNumber h k = absurd (k.1 h.1.0 h.1.1)
  one_fault OutOfRange BadEnum h k = absurd (k.1 h.1.0 h.1.1)
  one_fault OutOfRange OutOfRange h k = refl
  one_fault OutOfRange NoMemory h k = absurd k
  one_fault NoMemory g h k = absurd h

  -- a text has one reading
  pub one_reading : (r q : Result Item ScalarFault) → IsScalarReading types s text r → IsScalarReading types s text q
      → r ≢ Err NoMemory → q ≢ Err NoMemory → r ≡ q
  one_reading (Ok i) (Ok j) h k a b = ap Ok (one_item i j (one_layer (out-Item i) (out-Item j) h k))
  one_reading (Ok i) (Err g) h k a b = absurd
      (layer_fault (out-Item i) g h (reading_fault types s text g (λ e. b (ap Err e)) k))
  one_reading (Err f) (Ok j) h k a b = absurd
      (layer_fault (out-Item j) f k (reading_fault types s text f (λ e. a (ap Err e)) h))
  one_reading (Err f) (Err g) h k a b = ap Err
      (one_fault f g (reading_fault types s text f (λ e. a (ap Err e)) h)
      (reading_fault types s text g (λ e. b (ap Err e)) k))
