-- What payloads without a fault are is valid: items, lists, entries of maps.
use Rattle.std.proofs.Common.{◌≡◌, ◌≢◌, ◌-◌, ◌/◌, ◌%◌, ◌^◌, ◌<◌, ◌==◌, ℕ, pos, negsuc, zero, suc, Bool, true, false, cond, List, [], ◌∷◌, Option, Some, None, Result, Ok, Err, arith, refl, ap, sym, ◌∙◌, subst}
use Rattle.std.specs.List.{AllByRecursion}
use Rattle.std.specs.Int.{w32, w64, cast_signed}
use Rattle.std.specs.Str.{is_utf8}
use Rattle.std.specs.declared.cmp.Ordering.{Ordering}
use Rattle.std.specs.declared.cmp.Ordering.TheVariants.{Less, Equal, Greater}
use Rattle.std.specs.Ordering.{is_lt, is_eq, ordering_reverse}
use Rattle.std.proofs.lemmas.Int.{ints}
use Rattle.std.proofs.lemmas.Str.{IsUtf8-from_is_utf8, IsUtf8-nil}
use Rattle.schema.specs.Layers.{ItemLayer}
use Rattle.schema.specs.Pairs.{key_cmp, KeysRise, KeysRiseFrom}
use Rattle.schema.specs.Soundness.{IsKeyKind, is_packable}
use Rattle.schema.specs.Validity.{IsWithin, IsInt32, IsInt64, IsScalarItem, IsStored, is_default, key_item}
use Rattle.schema.specs.declared.key.Key.{Key}
use Rattle.schema.specs.declared.value.Item.TheOpen.{Number, Truth, Text}
use Rattle.schema.specs.declared.value.Item.{Item}
use Rattle.schema.specs.declared.value.Slot.{Slot}
use Rattle.message_types.specs.declared.fields.Presence.{Presence}
use Rattle.message_types.specs.declared.fields.Presence.TheVariants.{Implicit, Explicit}
use Rattle.message_types.specs.declared.fields.Scalar.{Scalar}
use Rattle.message_types.specs.declared.fields.Scalar.TheVariants.{Int32, Int64, Uint32, Uint64, Sint32, Sint64, Fixed32, Fixed64, Sfixed32, Sfixed64, Bool as BoolOf, Text as TextOf, Bytes as BytesOf, Enumeration}
use Rattle.message_types.specs.declared.messages.Types.{Types}
use Rattle.schema.specs.KeyOrder.{key_back}
use Rattle.wire_format.specs.FieldValues.{last_of, stored, one, scalar_items, key_of, if_new, last_entries}
use Rattle.wire_format.specs.Scalars.{unzigzag, scalar_of, scalar_wire, default_of, and_elements, elements}
use Rattle.std.specs.Option.{option_to_list}
use Rattle.wire_records.specs.WireRecord.{Payload, Piece, number, eight, sized, group, four, payload_in}
use Rattle.wire_records.specs.declared.fault.WireKind.{WireKind}
use Rattle.base.proofs.ByteLemmas.{AllBytes}
use Rattle.wire_records.specs.RangedRecords.{IsRanged, payload_ranged}
use Rattle.base.proofs.EachLemmas.{each_joined}
use Rattle.base.proofs.EachImageLemmas.{each_option}

-- ---- numbers

low_32 : (n : ℕ) → IsInt32 (cast_signed w32 (n % 2 ^ 32))
low_32 n = let m : n % 2 ^ 32 < 2 ^ 32 = omega arith in (grind (arith, ints), grind (arith, ints))

signed_32 : (n : ℕ) → n < 2 ^ 32 → IsInt32 (cast_signed w32 n)
signed_32 n h = (grind (arith, ints), grind (arith, ints))

signed_64 : (n : ℕ) → n < 2 ^ 64 → IsInt64 (cast_signed w64 n)
signed_64 n h = (grind (arith, ints), grind (arith, ints))

below_32 : (n : ℕ) → n < 2 ^ 32 → IsWithin (pos 0) (pos (2 ^ 32)) (pos n)
below_32 n h = (omega (arith, ints), omega (arith, ints))

below_64 : (n : ℕ) → n < 2 ^ 64 → IsWithin (pos 0) (pos (2 ^ 64)) (pos n)
below_64 n h = (omega (arith, ints), omega (arith, ints))

zigzag_32 : (n : ℕ) → IsInt32 (unzigzag (n % 2 ^ 32))
zigzag_32 n = let m : n % 2 ^ 32 < 2 ^ 32 = omega arith in by (n % 2 ^ 32) m ((n % 2 ^ 32) % 2 == 0)
  where
    by : (m : ℕ) → m < 2 ^ 32 → (b : Bool) → IsInt32 (cond b (pos (m / 2)) (negsuc (m / 2)))
    by m h true = (omega (arith, ints), omega (arith, ints))
    by m h false = (omega (arith, ints), omega (arith, ints))

zigzag_64 : (n : ℕ) → n < 2 ^ 64 → IsInt64 (unzigzag n)
zigzag_64 n h = by (n % 2 == 0)
  where
    by : (b : Bool) → IsInt64 (cond b (pos (n / 2)) (negsuc (n / 2)))
    by true = (omega (arith, ints), omega (arith, ints))
    by false = (omega (arith, ints), omega (arith, ints))

-- ---- a scalar

-- text of a string is UTF-8
abbrev pub HasText : Scalar → Payload → Type 0
HasText TextOf (sized bs) = is_utf8 bs ≡ true
HasText s p = Unit {0}

layer_is : (x y : ItemLayer) → ◌≡◌ {A = Option ItemLayer} (Some x) (Some y) → x ≡ y
layer_is x y e = cc

-- what a payload in range is as a scalar is one
pub scalar_valid : (types : Types) (s : Scalar) (p : Payload) (i : ItemLayer) → HasText s p → IsRanged p → scalar_of types s p ≡ Some i → IsScalarItem s i
scalar_valid types TextOf (sized bs) i h r e = subst (IsScalarItem TextOf) (layer_is _ i e) (IsUtf8-from_is_utf8 bs h)
scalar_valid types BytesOf (sized bs) i h r e = subst (IsScalarItem BytesOf) (layer_is _ i e) tt
scalar_valid types Fixed32 (four n) i h r e = subst (IsScalarItem Fixed32) (layer_is _ i e) (below_32 n r)
scalar_valid types Sfixed32 (four n) i h r e = subst (IsScalarItem Sfixed32) (layer_is _ i e) (signed_32 n r)
scalar_valid types Fixed64 (eight n) i h r e = subst (IsScalarItem Fixed64) (layer_is _ i e) (below_64 n r)
scalar_valid types Sfixed64 (eight n) i h r e = subst (IsScalarItem Sfixed64) (layer_is _ i e) (signed_64 n r)
scalar_valid types Int32 (number n) i h r e = subst (IsScalarItem Int32) (layer_is _ i e) (low_32 n)
scalar_valid types (Enumeration id) (number n) i h r e = subst (IsScalarItem (Enumeration id)) (layer_is _ i e) (low_32 n)
scalar_valid types Sint32 (number n) i h r e = subst (IsScalarItem Sint32) (layer_is _ i e) (zigzag_32 n)
scalar_valid types Uint32 (number n) i h r e = subst (IsScalarItem Uint32) (layer_is _ i e) (below_32 (n % 2 ^ 32) (omega arith))
scalar_valid types Int64 (number n) i h r e = subst (IsScalarItem Int64) (layer_is _ i e) (signed_64 n r)
scalar_valid types Uint64 (number n) i h r e = subst (IsScalarItem Uint64) (layer_is _ i e) (below_64 n r)
scalar_valid types Sint64 (number n) i h r e = subst (IsScalarItem Sint64) (layer_is _ i e) (zigzag_64 n r)
scalar_valid types BoolOf (number n) i h r e = subst (IsScalarItem BoolOf) (layer_is _ i e) tt
scalar_valid types _ _ i h r e = absurd cc

-- a default is one
pub default_valid : (types : Types) (s : Scalar) → IsScalarItem s (default_of types s)
default_valid types TextOf = IsUtf8-nil
default_valid types BytesOf = tt
default_valid types BoolOf = tt
default_valid types Int32 = (omega (arith, ints), omega (arith, ints))
default_valid types Sint32 = (omega (arith, ints), omega (arith, ints))
default_valid types Sfixed32 = (omega (arith, ints), omega (arith, ints))
default_valid types (Enumeration id) = (omega (arith, ints), omega (arith, ints))
default_valid types Int64 = (omega (arith, ints), omega (arith, ints))
default_valid types Sint64 = (omega (arith, ints), omega (arith, ints))
default_valid types Sfixed64 = (omega (arith, ints), omega (arith, ints))
default_valid types Uint32 = (omega (arith, ints), omega (arith, ints))
default_valid types Fixed32 = (omega (arith, ints), omega (arith, ints))
default_valid types Uint64 = (omega (arith, ints), omega (arith, ints))
default_valid types Fixed64 = (omega (arith, ints), omega (arith, ints))

-- a scalar of a key's kind is a key
pub key_valid : (s : Scalar) (i : ItemLayer) → IsKeyKind s → IsScalarItem s i → IsScalarItem s (key_item (key_of i))
key_valid BytesOf i k h = absurd k
key_valid (Enumeration id) i k h = absurd k
key_valid s (Number z) k h = h
key_valid s (Truth b) k h = h
key_valid s (Text t) k h = h
key_valid s i k h = absurd h

-- ---- lists

-- what holds of each item of a list holds of the last
pub last_all : {A : Type 0} (P : A → Type 0) (xs : List A) (x : A) → AllByRecursion P xs → last_of xs ≡ Some x → P x
last_all {A = A} P [] x h e = absurd cc
last_all {A = A} P (y ∷ []) x h e = subst P (some_is y x e) h.0
  where
    some_is : (x y : A) → ◌≡◌ {A = Option A} (Some x) (Some y) → x ≡ y
    some_is x y e = cc
last_all {A = A} P (y ∷ z ∷ xs) x h e = last_all P (z ∷ xs) x h.1 e

-- ---- packed elements

packed_text : (s : Scalar) (p : Payload) → is_packable s ≡ true → HasText s p
packed_text TextOf p h = absurd cc
packed_text _ p h = tt

module _ (types : Types) (s : Scalar) (packed : is_packable s ≡ true) where
  element_step : (b : ℕ) (bs : List ℕ) (x : Result Piece WireKind) → payload_in (scalar_wire s) (b ∷ bs) ≡ x → AllBytes (b ∷ bs) → ((skip : ℕ) → AllByRecursion (IsScalarItem s) (elements types s skip bs))
      → AllByRecursion (IsScalarItem s) (and_elements types s x (λ skip. elements types s skip bs))
  element_step b bs (Err e) q h ih = tt
  element_step b bs (Ok p) q h ih =
      each_joined (IsScalarItem s) (option_to_list (scalar_of types s p.payload)) (elements types s (p.to - 1) bs)
      (each_option (IsScalarItem s) (scalar_of types s p.payload) (λ i e. scalar_valid types s p.payload i (packed_text s p.payload packed) (payload_ranged (scalar_wire s) (b ∷ bs) p h q) e))
      (ih (p.to - 1))

  elements_valid : (skip : ℕ) (bytes : List ℕ) → AllBytes bytes → AllByRecursion (IsScalarItem s) (elements types s skip bytes)
  elements_valid skip [] h = tt
  elements_valid (suc skip) (b ∷ bs) h = elements_valid skip bs h.1
  elements_valid zero (b ∷ bs) h = element_step b bs (payload_in (scalar_wire s) (b ∷ bs)) refl h (λ skip. elements_valid skip bs h.1)

-- the items of a scalar payload
pub scalar_items_valid : (types : Types) (s : Scalar) (p : Payload) → HasText s p → IsRanged p → AllByRecursion (IsScalarItem s) (scalar_items types s p)
scalar_items_valid types s (sized bs) h r = by (is_packable s) refl
  where
    by : (b : Bool) → is_packable s ≡ b → AllByRecursion (IsScalarItem s) (cond b (elements types s 0 bs) (option_to_list (scalar_of types s (sized bs))))
    by true e = elements_valid types s e 0 bs r
    by false e = each_option (IsScalarItem s) (scalar_of types s (sized bs)) (λ i q. scalar_valid types s (sized bs) i h r q)
scalar_items_valid types s (number n) h r = each_option (IsScalarItem s) (scalar_of types s (number n)) (λ i q. scalar_valid types s (number n) i h r q)
scalar_items_valid types s (eight n) h r = each_option (IsScalarItem s) (scalar_of types s (eight n)) (λ i q. scalar_valid types s (eight n) i h r q)
scalar_items_valid types s (four n) h r = each_option (IsScalarItem s) (scalar_of types s (four n)) (λ i q. scalar_valid types s (four n) i h r q)
scalar_items_valid types s group h r = each_option (IsScalarItem s) (scalar_of types s group) (λ i q. scalar_valid types s group i h r q)

-- ---- the entries of a map

if_new_some : (e : Key × Item) (es : List (Key × Item)) → if_new e es ≢ []
if_new_some e [] h = absurd cc
if_new_some e (d ∷ ds) h = by (is_lt (key_cmp d.0 e.0)) (is_eq (key_cmp d.0 e.0)) h
  where
    by : (a b : Bool) → cond a (d ∷ if_new e ds) (cond b (d ∷ ds) (e ∷ d ∷ ds)) ≡ [] → ⊥
    by true b h = cc
    by false true h = cc
    by false false h = cc

-- the last entries are some where there are entries
pub entries_some : (es : List (Key × Item)) → es ≢ [] → last_entries es ≢ []
entries_some [] n = absurd (n refl)
entries_some (e ∷ es) n = if_new_some e (last_entries es)

rise_step : (e d : Key × Item) (ds after : List (Key × Item)) (low : Key) (c : Ordering) → key_cmp d.0 e.0 ≡ c → is_lt (key_cmp low e.0) ≡ true → KeysRiseFrom low (d ∷ ds)
    → (c ≡ Less → KeysRiseFrom d.0 after) → KeysRiseFrom low (cond (is_lt c) (d ∷ after) (cond (is_eq c) (d ∷ ds) (e ∷ d ∷ ds)))
rise_step e d ds after low Less p l r h = (r.0, h refl)
rise_step e d ds after low Equal p l r h = r
rise_step e d ds after low Greater p l r h = (l, (ap is_lt (key_back e.0 d.0 ∙ ap ordering_reverse p), r.1))

rises_from : (e : Key × Item) (es : List (Key × Item)) (low : Key) → is_lt (key_cmp low e.0) ≡ true → KeysRiseFrom low es → KeysRiseFrom low (if_new e es)
rises_from e [] low l r = (l, tt)
rises_from e (d ∷ ds) low l r = rise_step e d ds (if_new e ds) low (key_cmp d.0 e.0) refl l r (λ m. rises_from e ds d.0 (ap is_lt m) r.1)

first_step : (e d : Key × Item) (ds after : List (Key × Item)) (c : Ordering) → key_cmp d.0 e.0 ≡ c → KeysRiseFrom d.0 ds → (c ≡ Less → KeysRiseFrom d.0 after)
    → KeysRise (cond (is_lt c) (d ∷ after) (cond (is_eq c) (d ∷ ds) (e ∷ d ∷ ds)))
first_step e d ds after Less p r h = h refl
first_step e d ds after Equal p r h = r
first_step e d ds after Greater p r h = (ap is_lt (key_back e.0 d.0 ∙ ap ordering_reverse p), r)

rises : (e : Key × Item) (es : List (Key × Item)) → KeysRise es → KeysRise (if_new e es)
rises e [] r = tt
rises e (d ∷ ds) r = first_step e d ds (if_new e ds) (key_cmp d.0 e.0) refl r (λ m. rises_from e ds d.0 (ap is_lt m) r)

-- their keys rise
pub entries_rise : (es : List (Key × Item)) → KeysRise (last_entries es)
entries_rise [] = tt
entries_rise (e ∷ es) = rises e (last_entries es) (entries_rise es)

if_new_all : (P : Key × Item → Type 0) (e : Key × Item) (es : List (Key × Item)) → P e → AllByRecursion P es → AllByRecursion P (if_new e es)
if_new_all P e [] p h = (p, tt)
if_new_all P e (d ∷ ds) p h = by (is_lt (key_cmp d.0 e.0)) (is_eq (key_cmp d.0 e.0)) (if_new_all P e ds p h.1)
  where
    by : (a b : Bool) → AllByRecursion P (if_new e ds) → AllByRecursion P (cond a (d ∷ if_new e ds) (cond b (d ∷ ds) (e ∷ d ∷ ds)))
    by true b g = (h.0, g)
    by false true g = h
    by false false g = (p, h)

-- and each is one of the entries
pub entries_all : (P : Key × Item → Type 0) (es : List (Key × Item)) → AllByRecursion P es → AllByRecursion P (last_entries es)
entries_all P [] h = tt
entries_all P (e ∷ es) h = if_new_all P e (last_entries es) h.0 (entries_all P es h.1)

-- ---- slots

slot_is : (x y : Slot) → ◌≡◌ {A = Option Slot} (Some x) (Some y) → x ≡ y
slot_is x y e = cc

-- an item that is stored may be
pub stored_valid : (presence : Presence) (i : ItemLayer) (s : Slot) → stored presence i ≡ Some s → (s ≡ one i) × IsStored presence i
stored_valid Explicit i s e = (sym (slot_is (one i) s e), tt)
stored_valid Implicit i s e = by (is_default i) refl e
  where
    by : (b : Bool) → is_default i ≡ b → cond b None (Some (one i)) ≡ Some s → (s ≡ one i) × (is_default i ≡ false)
    by true t e = absurd cc
    by false t e = (sym (slot_is (one i) s e), t)
