-- The slot of a field that was written is read again: one item, a list, a map.
use Rattle.std.proofs.Common.{◌≡◌, ◌≢◌, ◌+◌, ◌-◌, ◌^◌, ◌≤◌, ◌<◌, ◌/◌, ◌%◌, ℕ, ℤ, nat_lt, zero, suc, Bool, true, false, cond, List, [], ◌∷◌, ◌++◌, length, drop, map, Option, Some, None, Ok, arith, refl, ap, ap₂, ◌∙◌, length-append, append-nil, drop_at, flat_map, filter_map, option_and_then}
use Rattle.std.specs.List.{AllByRecursion, cons_option}
use Rattle.std.specs.Int.{w32, w64, to_le_bytes, cast_unsigned}
use Rattle.std.proofs.lemmas.List.Concat.{flat_map-cons}
use Rattle.schema.specs.Layers.{ItemLayer, SlotLayer}
use Rattle.schema.specs.Soundness.{IsPackable, is_packable}
use Rattle.schema.specs.Validity.{IsScalarItem, IsItem, IsStored, IsMapOf, IsSlot, valid_within}
use Rattle.schema.specs.declared.key.Key.{Key}
use Rattle.schema.specs.declared.value.Item.TheOpen.{Number, Truth, Text, Bytes, One, Many, Pairs as Entries}
use Rattle.schema.specs.declared.value.Item.{out-Item, roll-out-Item, Item}
use Rattle.schema.specs.declared.value.Slot.{roll-Slot}
use Rattle.schema.specs.declared.value.Value.{Value}
use Rattle.message_types.specs.declared.fields.Field.{Field}
use Rattle.message_types.specs.declared.fields.Kind.{Kind}
use Rattle.message_types.specs.declared.fields.Kind.TheVariants.{One as OneOf, Message as MessageOf}
use Rattle.message_types.specs.declared.fields.Scalar.{Scalar}
use Rattle.message_types.specs.declared.fields.Scalar.TheVariants.{Fixed32, Fixed64, Sfixed32, Sfixed64, Sint32, Sint64, Bool as BoolOf, Text as TextOf, Bytes as BytesOf}
use Rattle.message_types.specs.declared.fields.Shape.{Shape}
use Rattle.message_types.specs.declared.fields.Shape.TheVariants.{Single, Member, Many as ManyOf, Map as MapOf}
use Rattle.message_types.specs.declared.messages.TypeId.{TypeId}
use Rattle.message_types.specs.declared.messages.Types.{Types}
use Rattle.wire_format.specs.CanonicalBytes.{zigzag, wire_of, number_bytes, item_bytes, record_bytes, entry_bytes, entry_record, items_bytes, records_bytes, slot_bytes}
use Rattle.wire_records.specs.RecordBytes.{tag, delimited}
use Rattle.wire_format.specs.FieldValues.{Inner, singular, stored, many, items_of, sized_of, entries_slot, pairs, slot_by, meaning_within}
use Rattle.wire_format.specs.PayloadLengths.{HasLength, HasItemLength, HaveItemLengths, HasSlotLengths}
use Rattle.wire_format.specs.Scalars.{scalar_of, scalar_wire, elements}
use Rattle.std.specs.Option.{option_to_list}
use Rattle.base.specs.Base128.{groups_of}
use Rattle.wire_records.specs.Varint.{varint}
use Rattle.wire_format.specs.WireFaults.{Fault, element_fault, scalar_fault, payload_fault, first_fault}
use Rattle.wire_records.specs.WireRecord.{Payload, Piece, sized, payload_in}
use Rattle.wire_format.proofs.decoding.ItemLemmas.{map_rolled}
use Rattle.base.proofs.SliceLemmas.{drop_one}
use Rattle.wire_records.specs.JoinedRecords.{payload_stable}
use Rattle.wire_records.specs.WrittenRecords.{piece_of, sized_piece}
use Rattle.wire_format.proofs.round_trip.FieldRecordLemmas.{AreRecordsOf, records_one, records_each}
use Rattle.wire_format.proofs.round_trip.ItemReadLemmas.{item_payload, kind_plain, sized_plain, scalar_back, ReadsBack, item_piece, item_good, item_single, item_list, stored_back}
use Rattle.wire_format.proofs.round_trip.EntryReadLemmas.{last_of_rising}

-- ---- packed lists

varint_some : (n : ℕ) → 1 ≤ length (varint n)
unfolding varint groups_of
varint_some n = by (nat_lt n 128)
  where
    by : (b : Bool) → 1 ≤ length (cond b (n ∷ []) ((n % 128 + 128) ∷ groups_of 9 (n / 128)))
    by true = omega arith
    by false = omega arith

four_some : (n : ℕ) → 1 ≤ length (to_le_bytes w32 n)
four_some n = let e : length (to_le_bytes w32 n) ≡ 4 = refl in omega arith

eight_some : (n : ℕ) → 1 ≤ length (to_le_bytes w64 n)
eight_some n = let e : length (to_le_bytes w64 n) ≡ 8 = refl in omega arith

number_some : (s : Scalar) (z : ℤ) → 1 ≤ length (number_bytes s z)
number_some Sint32 z = varint_some (zigzag z)
number_some Sint64 z = varint_some (zigzag z)
number_some Fixed32 z = four_some (cast_unsigned w32 z)
number_some Sfixed32 z = four_some (cast_unsigned w32 z)
number_some Fixed64 z = eight_some (cast_unsigned w64 z)
number_some Sfixed64 z = eight_some (cast_unsigned w64 z)
number_some _ z = varint_some (cast_unsigned w64 z)

packable_is : (s : Scalar) → IsPackable (OneOf s) → is_packable s ≡ true
packable_is s h = h

packed_fault : (s : Scalar) (place from : ℕ) (bs : List ℕ) → IsPackable (OneOf s) → element_fault s from 0 bs ≡ None → scalar_fault ManyOf s place from bs ≡ None
packed_fault TextOf place from bs h e = absurd cc
packed_fault BytesOf place from bs h e = absurd cc
packed_fault _ place from bs h e = e

module _ (types : Types) (s : Scalar) where
  elements_skip : (skip : ℕ) (bs : List ℕ) → elements types s skip bs ≡ elements types s 0 (drop skip bs)
  elements_skip zero [] = refl
  elements_skip (suc skip) [] = refl
  elements_skip zero (b ∷ bs) = refl
  elements_skip (suc skip) (b ∷ bs) = elements_skip skip bs

  elements_begin : (bytes : List ℕ) (p : Piece) → 1 ≤ length bytes → 1 ≤ p.to → payload_in (scalar_wire s) bytes ≡ Ok p → elements types s 0 bytes ≡ option_to_list (scalar_of types s p.payload) ++ elements types s 0 (drop p.to bytes)
  elements_begin [] p l t h = absurd (omega arith)
  elements_begin (b ∷ bs) p l t h =
      rw (h, drop_one p.to b bs t) (ap (λ (x : List ItemLayer). option_to_list (scalar_of types s p.payload) ++ x) (elements_skip (p.to - 1) bs))

module _ (s : Scalar) where
  element_skip : (place skip : ℕ) (bs : List ℕ) → element_fault s place skip bs ≡ element_fault s (place + skip) 0 (drop skip bs)
  element_skip place zero [] = refl
  element_skip place (suc skip) [] = refl
  element_skip place zero (b ∷ bs) = let e : place ≡ place + 0 = omega arith in ap (λ (p : ℕ). element_fault s p 0 (b ∷ bs)) e
  element_skip place (suc skip) (b ∷ bs) =
      let e : place + 1 + skip ≡ place + suc skip = omega arith in
      element_skip (place + 1) skip bs ∙ ap (λ (p : ℕ). element_fault s p 0 (drop skip bs)) e

  element_next : (place : ℕ) (bytes : List ℕ) (p : Piece) → 1 ≤ length bytes → 1 ≤ p.to → payload_in (scalar_wire s) bytes ≡ Ok p → element_fault s place 0 bytes ≡ element_fault s (place + p.to) 0 (drop p.to bytes)
  element_next place [] p l t h = absurd (omega arith)
  element_next place (b ∷ bs) p l t h =
      let e : place + 1 + (p.to - 1) ≡ place + p.to = omega arith in
      rw (h, drop_one p.to b bs t) (element_skip (place + 1) (p.to - 1) bs ∙ ap (λ (q : ℕ). element_fault s q 0 (drop (p.to - 1) bs)) e)

module _ (k : ℕ) (types : Types) (sub : TypeId → Value → List ℕ) (deeper : ReadsBack k types sub) where
  abbrev meaning : Inner
  meaning = meaning_within k types

  abbrev fault : List Field → ℕ → List ℕ → Option Fault
  fault = first_fault k types

  module _ (s : Scalar) (packable : IsPackable (OneOf s)) where
    abbrev bytes_of : Item → List ℕ
    bytes_of i = item_bytes sub (OneOf s) (out-Item i)

    element_some : (t : Scalar) (i : ItemLayer) → IsPackable (OneOf t) → IsScalarItem t i → 1 ≤ length (item_bytes sub (OneOf t) i)
    element_some TextOf (Text t) p h = absurd cc
    element_some BytesOf (Bytes b) p h = absurd cc
    element_some BoolOf (Truth t) p h = omega arith
    element_some t (Number z) p h = number_some t z
    element_some t i p h = absurd h

    element_fits : (t : Scalar) (i : ItemLayer) → IsPackable (OneOf t) → IsScalarItem t i → HasItemLength sub (OneOf t) i
    element_fits TextOf (Text t) p h = absurd cc
    element_fits BytesOf (Bytes b) p h = absurd cc
    element_fits BoolOf (Truth t) p h = tt
    element_fits t (Number z) p h = tt
    element_fits t i p h = absurd h

    record IsElement (i : Item) (more : List ℕ) : Type 0 where
      some : 1 ≤ length (bytes_of i)
      longer : 1 ≤ length (bytes_of i ++ more)
      read : payload_in (scalar_wire s) (bytes_of i ++ more) ≡ Ok (piece_of (item_payload sub (OneOf s) (out-Item i)) (bytes_of i))
      behind : drop (length (bytes_of i)) (bytes_of i ++ more) ≡ more

    element_is : (i : Item) (more : List ℕ) → IsScalarItem s (out-Item i) → IsElement i more
    element_is i more h =
        let bytes = bytes_of i in
        let some : 1 ≤ length bytes = element_some s (out-Item i) packable h in
        let read = item_piece k types sub deeper (OneOf s) (out-Item i) h (element_fits s (out-Item i) packable h) in
        record {
          some = some;
          longer = omega (arith, length-append bytes more);
          read = (payload_stable (scalar_wire s) bytes more (piece_of (item_payload sub (OneOf s) (out-Item i)) bytes) read).0;
          behind = drop_at bytes more (length bytes) refl;
        }

    -- the elements of a packed list are its items
    elements_back : (is : List Item) → AllByRecursion (λ (i : Item). IsScalarItem s (out-Item i)) is → elements types s 0 (flat_map bytes_of is) ≡ map out-Item is
    elements_back [] h = refl
    elements_back (i ∷ is) h =
        let more = flat_map bytes_of is in
        let x = element_is i more h.0 in
        let p = piece_of (item_payload sub (OneOf s) (out-Item i)) (bytes_of i) in
        let begun = elements_begin types s (bytes_of i ++ more) p x.longer x.some x.read in
        ap (elements types s 0) (flat_map-cons bytes_of i is) ∙ begun
        ∙ ap₂ (λ (o : Option ItemLayer) (bs : List ℕ). option_to_list o ++ elements types s 0 bs) (scalar_back sub types s (out-Item i) h.0) x.behind
        ∙ ap (λ (xs : List ItemLayer). out-Item i ∷ xs) (elements_back is h.1)

    -- and none has a fault
    elements_good : (is : List Item) (place : ℕ) → AllByRecursion (λ (i : Item). IsScalarItem s (out-Item i)) is → element_fault s place 0 (flat_map bytes_of is) ≡ None
    elements_good [] place h = refl
    elements_good (i ∷ is) place h =
        let more = flat_map bytes_of is in
        let x = element_is i more h.0 in
        let p = piece_of (item_payload sub (OneOf s) (out-Item i)) (bytes_of i) in
        ap (element_fault s place 0) (flat_map-cons bytes_of i is)
        ∙ element_next s place (bytes_of i ++ more) p x.longer x.some x.read
        ∙ ap (element_fault s (place + length (bytes_of i)) 0) x.behind
        ∙ elements_good is (place + length (bytes_of i)) h.1

  -- ---- slots

  -- what is written of a slot are records, whose payloads have no fault and are the slot
  pub record IsSlotBack (f : Field) (shape : Shape) (l : SlotLayer) : Type 0 where
    pub ps : List Payload
    pub recs : AreRecordsOf k f.number (slot_bytes sub f shape l) ps
    pub slot : slot_by meaning types f.presence shape f.kind ps ≡ Some (roll-Slot l)
    pub good : AllByRecursion (λ (p : Payload). (place from : ℕ) → payload_fault fault types k shape f.kind place from p ≡ None) ps
    pub single : (i : Item) → l ≡ One i → ps ≡ item_payload sub f.kind (out-Item i) ∷ []

  module _ (f : Field) (some : 0 < f.number) (small : f.number < 2 ^ 29) where
    one_records : (i : Item) → IsItem (valid_within k types) f.kind (out-Item i) → HasItemLength sub f.kind (out-Item i) → AreRecordsOf k f.number (record_bytes sub f.number f.kind i) (item_payload sub f.kind (out-Item i) ∷ [])
    one_records i h l = records_one k f.number (wire_of f.kind) (item_bytes sub f.kind (out-Item i)) (item_payload sub f.kind (out-Item i)) some small (kind_plain f.kind) (item_piece k types sub deeper f.kind (out-Item i) h l)

    one_slot : (i : Item) → IsItem (valid_within k types) f.kind (out-Item i) → IsStored f.presence (out-Item i) → HasItemLength sub f.kind (out-Item i)
        → option_and_then (stored f.presence) (singular meaning types f.kind (item_payload sub f.kind (out-Item i) ∷ [])) ≡ Some (roll-Slot (One i))
    one_slot i h g l =
        ap (option_and_then (stored f.presence)) (item_single k types sub deeper f.kind (out-Item i) h l)
        ∙ stored_back f.presence (out-Item i) g
        ∙ ap (λ (x : Item). Some (roll-Slot (One x))) (roll-out-Item i)

    -- lists that are not packed
    list_items : (is : List Item) → AllByRecursion (λ (i : Item). IsItem (valid_within k types) f.kind (out-Item i)) is → AllByRecursion (λ (i : Item). HasItemLength sub f.kind (out-Item i)) is
        → flat_map (items_of meaning types f.kind) (map (λ (i : Item). item_payload sub f.kind (out-Item i)) is) ≡ map out-Item is
    list_items [] h l = refl
    list_items (i ∷ is) h l =
        flat_map-cons (items_of meaning types f.kind) (item_payload sub f.kind (out-Item i)) (map (λ (i : Item). item_payload sub f.kind (out-Item i)) is)
        ∙ ap₂ (λ (xs ys : List ItemLayer). xs ++ ys) (item_list k types sub deeper f.kind (out-Item i) h.0 l.0) (list_items is h.1 l.1)

    list_records : (is : List Item) → AllByRecursion (λ (i : Item). IsItem (valid_within k types) f.kind (out-Item i)) is → AllByRecursion (λ (i : Item). HasItemLength sub f.kind (out-Item i)) is
        → AllByRecursion (λ (i : Item). AreRecordsOf k f.number (record_bytes sub f.number f.kind i) (item_payload sub f.kind (out-Item i) ∷ [])) is
    list_records [] h l = tt
    list_records (i ∷ is) h l = (one_records i h.0 l.0, list_records is h.1 l.1)

    list_good : (is : List Item) → AllByRecursion (λ (i : Item). IsItem (valid_within k types) f.kind (out-Item i)) is → AllByRecursion (λ (i : Item). HasItemLength sub f.kind (out-Item i)) is
        → AllByRecursion (λ (p : Payload). (place from : ℕ) → payload_fault fault types k ManyOf f.kind place from p ≡ None) (map (λ (i : Item). item_payload sub f.kind (out-Item i)) is)
    list_good [] h l = tt
    list_good (i ∷ is) h l = (item_good k types sub deeper ManyOf tt f.kind (out-Item i) h.0 l.0, list_good is h.1 l.1)

    many_rolled : (is : List Item) → is ≢ [] → many (map out-Item is) ≡ Some (roll-Slot (Many is))
    many_rolled [] h = absurd (h refl)
    many_rolled (i ∷ is) h = ap (λ (xs : List Item). Some (roll-Slot (Many xs))) (map_rolled (i ∷ is))

    abbrev IsList : Bool → List Item → Type 0
    IsList b is = (ps : List Payload) × AreRecordsOf k f.number (cond b (tag f.number 2 ++ delimited (items_bytes sub f.kind is)) (records_bytes sub f.number f.kind is)) ps
        × (many (flat_map (items_of meaning types f.kind) ps) ≡ Some (roll-Slot (Many is)))
        × AllByRecursion (λ (p : Payload). (place from : ℕ) → payload_fault fault types k ManyOf f.kind place from p ≡ None) ps

    packed_list : (kind : Kind) → IsPackable kind → (is : List Item) → is ≢ [] → AllByRecursion (λ (i : Item). IsItem (valid_within k types) kind (out-Item i)) is
        → (flat_map (items_of meaning types kind) (sized (items_bytes sub kind is) ∷ []) ≡ map out-Item is) × ((place from : ℕ) → payload_fault fault types k ManyOf kind place from (sized (items_bytes sub kind is)) ≡ None)
    packed_list (MessageOf id) p is n h = absurd p
    packed_list (OneOf s) p is n h = (
      rw (packable_is s p) (append-nil (elements types s 0 (items_bytes sub (OneOf s) is)) ∙ elements_back s p is h),
      λ place from. packed_fault s place from (items_bytes sub (OneOf s) is) p (elements_good s p is from h),
    )

    list_is : (b : Bool) (is : List Item) → (b ≡ true → IsPackable f.kind) → is ≢ [] → AllByRecursion (λ (i : Item). IsItem (valid_within k types) f.kind (out-Item i)) is → HaveItemLengths sub b f.kind is → IsList b is
    list_is true is p n h l =
        let x = packed_list f.kind (p refl) is n h in (
          sized (items_bytes sub f.kind is) ∷ [],
          records_one k f.number 2 (delimited (items_bytes sub f.kind is)) (sized (items_bytes sub f.kind is)) some small sized_plain (sized_piece (items_bytes sub f.kind is) l),
          ap many x.0 ∙ many_rolled is n,
          (x.1, tt),
        )
    list_is false is p n h l = (
      map (λ (i : Item). item_payload sub f.kind (out-Item i)) is,
      records_each k f.number (record_bytes sub f.number f.kind) (λ (i : Item). item_payload sub f.kind (out-Item i)) is (list_records is h l),
      ap many (list_items is h l) ∙ many_rolled is n,
      list_good is h l,
    )

    -- maps
    entry_records : (s : Scalar) (es : List (Key × Item)) → AllByRecursion (λ (e : Key × Item). HasLength (entry_bytes sub s f.kind e)) es
        → AllByRecursion (λ (e : Key × Item). AreRecordsOf k f.number (entry_record sub f.number s f.kind e) (sized (entry_bytes sub s f.kind e) ∷ [])) es
    entry_records s [] l = tt
    entry_records s (e ∷ es) l =
        (records_one k f.number 2 (delimited (entry_bytes sub s f.kind e)) (sized (entry_bytes sub s f.kind e)) some small sized_plain (sized_piece (entry_bytes sub s f.kind e) l.0), entry_records s es l.1)

    entries_again : (s : Scalar) (es : List (Key × Item)) → AllByRecursion ((valid_within k types).entry s f.kind) es → AllByRecursion (λ (e : Key × Item). HasLength (entry_bytes sub s f.kind e)) es
        → filter_map (meaning.entry s f.kind) (filter_map sized_of (map (λ (e : Key × Item). sized (entry_bytes sub s f.kind e)) es)) ≡ es
    entries_again s [] h l = refl
    entries_again s (e ∷ es) h l = ap₂ (λ (o : Option (Key × Item)) (xs : List (Key × Item)). cons_option o xs) (deeper.entry s f.kind e h.0 l.0).value (entries_again s es h.1 l.1)

    entries_rolled : (es : List (Key × Item)) → es ≢ [] → entries_slot es ≡ Some (roll-Slot (Entries (record { entries = es })))
    entries_rolled [] h = absurd (h refl)
    entries_rolled (e ∷ es) h = refl

    entries_good : (s : Scalar) (es : List (Key × Item)) → AllByRecursion ((valid_within k types).entry s f.kind) es → AllByRecursion (λ (e : Key × Item). HasLength (entry_bytes sub s f.kind e)) es
        → AllByRecursion (λ (p : Payload). (place from : ℕ) → payload_fault fault types k (MapOf s) f.kind place from p ≡ None) (map (λ (e : Key × Item). sized (entry_bytes sub s f.kind e)) es)
    entries_good s [] h l = tt
    entries_good s (e ∷ es) h l =
        let b = deeper.entry s f.kind e h.0 l.0 in
        (λ place from. rw b.room (b.good from), entries_good s es h.1 l.1)

    map_is : (s : Scalar) (es : List (Key × Item)) → IsMapOf (valid_within k types) s f.kind es → AllByRecursion (λ (e : Key × Item). HasLength (entry_bytes sub s f.kind e)) es → IsSlotBack f (MapOf s) (Entries (record { entries = es }))
    map_is s es h l = record {
      ps = map (λ (e : Key × Item). sized (entry_bytes sub s f.kind e)) es;
      recs = records_each k f.number (entry_record sub f.number s f.kind) (λ (e : Key × Item). sized (entry_bytes sub s f.kind e)) es (entry_records s es l);
      slot = ap pairs (entries_again s es h.2 l) ∙ ap entries_slot (last_of_rising es h.1) ∙ entries_rolled es h.0;
      good = entries_good s es h.2 l;
      single = λ i e. absurd cc;
    }

    one_payload : (i j : Item) → ◌≡◌ {A = SlotLayer} (One i) (One j) → item_payload sub f.kind (out-Item i) ∷ [] ≡ item_payload sub f.kind (out-Item j) ∷ []
    one_payload i j e = let same : i ≡ j = cc in ap (λ (x : Item). item_payload sub f.kind (out-Item x) ∷ []) same

    -- all shapes
    pub slot_back : (packed : f.packed ≡ true → IsPackable f.kind) (shape : Shape) (l : SlotLayer) → IsSlot (valid_within k types) f shape l → HasSlotLengths sub f shape l → IsSlotBack f shape l
    slot_back packed Single (One i) h g = record {
      ps = item_payload sub f.kind (out-Item i) ∷ [];
      recs = one_records i h.0 g;
      slot = one_slot i h.0 h.1 g;
      good = (item_good k types sub deeper Single tt f.kind (out-Item i) h.0 g, tt);
      single = λ j e. one_payload i j e;
    }
    slot_back packed (Member j) (One i) h g = record {
      ps = item_payload sub f.kind (out-Item i) ∷ [];
      recs = one_records i h.0 g;
      slot = one_slot i h.0 h.1 g;
      good = (item_good k types sub deeper (Member j) tt f.kind (out-Item i) h.0 g, tt);
      single = λ n e. one_payload i n e;
    }
    slot_back packed ManyOf (Many is) h g =
        let x = list_is f.packed is packed h.0 h.1 g in
        record { ps = x.0; recs = x.1; slot = x.2; good = x.3; single = λ i e. absurd cc }
    slot_back packed (MapOf s) (Entries p) h g = map_is s p.entries h g
    slot_back packed _ _ h g = absurd h
