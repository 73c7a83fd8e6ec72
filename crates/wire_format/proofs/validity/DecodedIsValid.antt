-- What is decoded is valid: by levels, messages and entries of maps side by side.
use Rattle.std.proofs.Common.{◌≡◌, ◌≢◌, ◌==◌, ◌&&◌, ◌||◌, ℕ, zero, suc, Bool, true, false, nat_eq, List, [], ◌∷◌, ◌++◌, map, Option, Some, None, arith, refl, ap, sym, ◌∙◌, subst, append-nil, flat_map, filter_map, option_and_then, unwrap_or, Result, Ok, Err, IfOk, get_or, Fits, w8}
use Rattle.std.specs.List.{AllByRecursion}
use Rattle.schema.specs.Apart.{AreApart}
use Rattle.schema.specs.Layers.{ItemLayer}
use Rattle.schema.specs.Pairs.{KeysRise}
use Rattle.schema.specs.Soundness.{IsSoundField, IsKeyKind, FitsShape}
use Rattle.message_types.specs.Types.{field_in, fields_of}
use Rattle.schema.specs.Validity.{IsScalarItem, IsItem, IsStored, IsSlot, IsFieldSlot, AreFieldSlots, oneofs_in, key_item, valid_within, IsValid}
use Rattle.schema.specs.Value.{RiseFrom}
use Rattle.schema.specs.declared.key.Key.{Key}
use Rattle.schema.specs.declared.value.Item.TheOpen.{Message, One, Many, Pairs as Entries}
use Rattle.schema.specs.declared.value.Item.{out-Item, roll-Item, out-roll-Item, Item}
use Rattle.schema.specs.declared.value.Slot.{Slot, out-Slot, roll-Slot, out-roll-Slot}
use Rattle.schema.specs.declared.value.Value.{Value}
use Rattle.message_types.specs.declared.fields.Field.{Field}
use Rattle.message_types.specs.declared.fields.Kind.{Kind}
use Rattle.message_types.specs.declared.fields.Kind.TheVariants.{One as OneOf, Message as MessageOf}
use Rattle.message_types.specs.declared.fields.Scalar.{Scalar}
use Rattle.message_types.specs.declared.fields.Shape.{Shape}
use Rattle.message_types.specs.declared.fields.Shape.TheVariants.{Single, Member, Many as ManyOf, Map as MapOf}
use Rattle.message_types.specs.declared.messages.TypeId.{TypeId}
use Rattle.message_types.specs.declared.messages.Types.{Types}
use Rattle.wire_format.specs.Checks.{Decodes}
use Rattle.wire_format.specs.Decoding.{DecodesTo, decoding, fault_of, unless, value_of}
use Rattle.wire_format.specs.declared.fault.DecodeFault.{DecodeFault}
use Rattle.wire_format.specs.FieldValues.{payloads, sized_of, counted, stored, many, Inner, message_item, singular, items_of, default_item, entry_by, last_entries, entries_slot, pairs, slot_by, slot_of, gather, meaning_within}
use Rattle.wire_format.specs.Laws.{HasSoundFields}
use Rattle.base.specs.Bytes.{AreBytes}
use Rattle.wire_format.specs.Scalars.{scalar_of, default_of}
use Rattle.wire_format.specs.WireFaults.{Fault, is_message, entry_field, entry_fields, field_fault, first_fault}
use Rattle.wire_records.specs.WireRecord.{Record, Payload, number, eight, sized, group, four, records}
use Rattle.base.proofs.ByteLemmas.{bytes_all}
use Rattle.wire_records.specs.RangedRecords.{IsRanged, records_ranged}
use Rattle.wire_format.proofs.round_trip.RisingLemmas.{gather_rises, gather_all}
use Rattle.wire_format.proofs.round_trip.MessageReadLemmas.{field_found, fields_sound, numbers_some}
use Rattle.wire_format.proofs.validity.DecodedItemLemmas.{scalar_valid, default_valid, key_valid, last_all, scalar_items_valid, entries_some, entries_rise, entries_all, stored_valid}
use Rattle.wire_format.proofs.validity.DecodedOneofLemmas.{oneofs_apart}
use Rattle.wire_format.proofs.validity.CleanLemmas.{IsFaultless, IsClean, clean_is, clean_chunks, IsCleanPayload, text_is, IsDeep, deep_is, IsDeepEntry, deep_entry, counted_all, IsCleanRecord, clean_payloads}
use Rattle.base.proofs.EachImageLemmas.{each_filtered, each_flat_weaker, each_mapped_weaker}
use Rattle.base.proofs.EachLemmas.{each_both}

-- ---- one level further in

-- the empty message is valid, where there is a level for it
empty_valid : (k : ℕ) (types : Types) (id : TypeId) → (k ≡ 0 → ⊥) → (valid_within k types).message id (record { fields = [] })
unfolding valid_within
empty_valid zero types id some = absurd (some refl)
empty_valid (suc k) types id some = record { rising = tt; slots = tt; oneofs = tt }

-- what has no fault in so many levels is valid in them
pub record Validates (k : ℕ) (types : Types) : Type 0 where
  pub message : (k ≡ 0 → ⊥) → (id : TypeId) (cs : List (List ℕ)) → AllByRecursion (IsDeep k types (fields_of types id)) cs → (valid_within k types).message id ((meaning_within k types).message (fields_of types id) (flat_map (λ (q : List ℕ). q) cs))
  pub entry : (s : Scalar) (kind : Kind) (bytes : List ℕ) (e : Key × Item) → IsKeyKind s → IsDeepEntry k types s kind bytes → (meaning_within k types).entry s kind bytes ≡ Some e → (valid_within k types).entry s kind e

module _ (k : ℕ) (types : Types) (deeper : Validates k types) where
  abbrev meaning : Inner
  meaning = meaning_within k types

  layer_is : (x y : ItemLayer) → ◌≡◌ {A = Option ItemLayer} (Some x) (Some y) → x ≡ y
  layer_is x y e = cc

  slot_is : (x y : Slot) → ◌≡◌ {A = Option Slot} (Some x) (Some y) → x ≡ y
  slot_is x y e = cc

  message_valid : (id : TypeId) (cs : List (List ℕ)) (i : ItemLayer) → AllByRecursion (IsDeep k types (fields_of types id)) cs → message_item meaning (fields_of types id) cs ≡ Some i → IsItem (valid_within k types) (MessageOf id) i
  message_valid id [] i h e = absurd cc
  message_valid id (c ∷ cs) i h e = subst (IsItem (valid_within k types) (MessageOf id)) (layer_is _ i e) (deeper.message h.0.some id (c ∷ cs) h)

  -- an item of a field that is no map
  singular_valid : (shape : Shape) → ((t : Scalar) → shape ≡ MapOf t → ⊥) → (kind : Kind) (ps : List Payload) (i : ItemLayer) → AllByRecursion (IsCleanPayload k types shape kind) ps → singular meaning types kind ps ≡ Some i → IsItem (valid_within k types) kind i
  singular_valid shape no_map (OneOf s) ps i h e =
      last_all (IsScalarItem s) (filter_map (scalar_of types s) ps) i
      (each_filtered (IsCleanPayload k types shape (OneOf s)) (IsScalarItem s) (scalar_of types s) (λ p y c q. scalar_valid types s p y (text_is k types shape s c.place c.from p no_map c.none) c.ranged q) ps h) e
  singular_valid shape no_map (MessageOf id) ps i h e =
      message_valid id (filter_map sized_of ps) i
      (each_filtered (IsCleanPayload k types shape (MessageOf id)) (IsDeep k types (fields_of types id)) sized_of (λ p bs c q. deep_is k types shape id p bs no_map c q) ps h) e

  -- the items of a payload of a list
  payload_items : (kind : Kind) (p : Payload) → IsCleanPayload k types ManyOf kind p → AllByRecursion (IsItem (valid_within k types) kind) (items_of meaning types kind p)
  payload_items (OneOf s) p c = scalar_items_valid types s p (text_is k types ManyOf s c.place c.from p (λ t e. absurd cc) c.none) c.ranged
  payload_items (MessageOf id) (sized bs) c =
      let d = deep_is k types ManyOf id (sized bs) bs (λ t e. absurd cc) c refl in
      (subst (λ (x : List ℕ). IsItem (valid_within k types) (MessageOf id) (Message (meaning.message (fields_of types id) x))) (append-nil bs) (deeper.message d.some id (bs ∷ []) (d, tt)), tt)
  payload_items (MessageOf id) (number n) c = tt
  payload_items (MessageOf id) (eight n) c = tt
  payload_items (MessageOf id) (four n) c = tt
  payload_items (MessageOf id) group c = tt

  rolled_all : (kind : Kind) (is : List ItemLayer) → AllByRecursion (IsItem (valid_within k types) kind) is → AllByRecursion (λ (i : Item). IsItem (valid_within k types) kind (out-Item i)) (map roll-Item is)
  rolled_all kind is h = each_mapped_weaker (IsItem (valid_within k types) kind) (λ (i : Item). IsItem (valid_within k types) kind (out-Item i)) roll-Item (λ i v. subst (IsItem (valid_within k types) kind) (sym (out-roll-Item i)) v) is h

  many_valid : (f : Field) (is : List ItemLayer) (s : Slot) → AllByRecursion (IsItem (valid_within k types) f.kind) is → many is ≡ Some s → IsSlot (valid_within k types) f ManyOf (out-Slot s)
  many_valid f [] s h e = absurd cc
  many_valid f (i ∷ is) s h e =
      let w : roll-Slot (Many (map roll-Item (i ∷ is))) ≡ s = slot_is _ s e in
      subst (λ (x : Slot). IsSlot (valid_within k types) f ManyOf (out-Slot x)) w (subst (IsSlot (valid_within k types) f ManyOf) (sym (out-roll-Slot (Many (map roll-Item (i ∷ is))))) ((λ q. absurd cc), rolled_all f.kind (i ∷ is) h))

  entries_valid : (f : Field) (s : Scalar) (es : List (Key × Item)) (t : Slot) → es ≢ [] → AllByRecursion ((valid_within k types).entry s f.kind) es → pairs es ≡ Some t → IsSlot (valid_within k types) f (MapOf s) (out-Slot t)
  entries_valid f s es t some h e = by (last_entries es) (entries_some es some) (entries_rise es) (entries_all ((valid_within k types).entry s f.kind) es h) e
    where
      by : (xs : List (Key × Item)) → xs ≢ [] → KeysRise xs → AllByRecursion ((valid_within k types).entry s f.kind) xs → entries_slot xs ≡ Some t → IsSlot (valid_within k types) f (MapOf s) (out-Slot t)
      by [] n r a e = absurd cc
      by (x ∷ xs) n r a e =
          let w : roll-Slot (Entries (record { entries = x ∷ xs })) ≡ t = slot_is _ t e in
          subst (λ (y : Slot). IsSlot (valid_within k types) f (MapOf s) (out-Slot y)) w (subst (IsSlot (valid_within k types) f (MapOf s)) (sym (out-roll-Slot (Entries (record { entries = x ∷ xs })))) (n, r, a))

  map_valid : (f : Field) (s : Scalar) (ps : List Payload) (t : Slot) → IsKeyKind s → AllByRecursion (IsCleanPayload k types (MapOf s) f.kind) ps → pairs (filter_map (meaning.entry s f.kind) (filter_map sized_of ps)) ≡ Some t → IsSlot (valid_within k types) f (MapOf s) (out-Slot t)
  map_valid f s ps t key h e =
      let chunks = each_filtered (IsCleanPayload k types (MapOf s) f.kind) (IsDeepEntry k types s f.kind) sized_of (λ p bs c q. deep_entry k types s f.kind p bs c q) ps h in
      let all = each_filtered (IsDeepEntry k types s f.kind) ((valid_within k types).entry s f.kind) (meaning.entry s f.kind) (λ bs e d q. deeper.entry s f.kind bs e key d q) (filter_map sized_of ps) chunks in
      entries_valid f s (filter_map (meaning.entry s f.kind) (filter_map sized_of ps)) t (λ z. no_entries (filter_map (meaning.entry s f.kind) (filter_map sized_of ps)) z e) all e
    where
      no_entries : (es : List (Key × Item)) → es ≡ [] → pairs es ≡ Some t → ⊥
      no_entries [] z e = cc
      no_entries (x ∷ xs) z e = cc

  item_valid : (f : Field) (shape : Shape) → ((t : Scalar) → shape ≡ MapOf t → ⊥) → (ps : List Payload) (s : Slot) → AllByRecursion (IsCleanPayload k types shape f.kind) ps → option_and_then (stored f.presence) (singular meaning types f.kind ps) ≡ Some s
      → (i : Item) × (out-Slot s ≡ One i) × IsItem (valid_within k types) f.kind (out-Item i) × IsStored f.presence (out-Item i)
  item_valid f shape no_map ps s h e = by (singular meaning types f.kind ps) refl e
    where
      by : (o : Option ItemLayer) → singular meaning types f.kind ps ≡ o → option_and_then (stored f.presence) o ≡ Some s → (i : Item) × (out-Slot s ≡ One i) × IsItem (valid_within k types) f.kind (out-Item i) × IsStored f.presence (out-Item i)
      by None q e = absurd cc
      by (Some i) q e =
          let w = stored_valid f.presence i s e in
          let v = singular_valid shape no_map f.kind ps i h q in (
            roll-Item i,
            ap out-Slot w.0 ∙ out-roll-Slot (One (roll-Item i)),
            subst (IsItem (valid_within k types) f.kind) (sym (out-roll-Item i)) v,
            subst (IsStored f.presence) (sym (out-roll-Item i)) w.1,
          )

  -- a slot of a field
  slot_valid : (f : Field) (shape : Shape) (ps : List Payload) (s : Slot) → ((t : Scalar) → shape ≡ MapOf t → IsKeyKind t) → AllByRecursion (IsCleanPayload k types shape f.kind) ps → slot_by meaning types f.presence shape f.kind ps ≡ Some s → IsSlot (valid_within k types) f shape (out-Slot s)
  slot_valid f Single ps s key h e = let x = item_valid f Single (λ t z. absurd cc) ps s h e in subst (IsSlot (valid_within k types) f Single) (sym x.1) (x.2, x.3)
  slot_valid f (Member j) ps s key h e = let x = item_valid f (Member j) (λ t z. absurd cc) ps s h e in subst (IsSlot (valid_within k types) f (Member j)) (sym x.1) (x.2, x.3)
  slot_valid f ManyOf ps s key h e = many_valid f (flat_map (items_of meaning types f.kind) ps) s (each_flat_weaker (IsCleanPayload k types ManyOf f.kind) (IsItem (valid_within k types) f.kind) (items_of meaning types f.kind) (λ p c. payload_items f.kind p c) ps h) e
  slot_valid f (MapOf t) ps s key h e = map_valid f t ps s (key t refl) h e

  -- ---- a message

  module _ (fields : List Field) (sound : AllByRecursion (IsSoundField types) fields) (rs : List Record) (clean : AllByRecursion (IsCleanRecord k types fields) rs) where
    abbrev slot : ℕ → Option Slot
    slot n = slot_of meaning types fields rs n

    map_key : (f : Field) → IsSoundField types f → (t : Scalar) → f.shape ≡ MapOf t → IsKeyKind t
    map_key f ok t e = (subst (λ (x : Shape). FitsShape x f.kind f.presence) e ok.shape).1

    field_valid : (n : ℕ) (o : Option Field) (s : Slot) → field_in fields n ≡ o → slot n ≡ Some s → IsFieldSlot (valid_within k types) o s
    field_valid n None s known h = absurd (clash (field_in fields n) known h)
      where
        clash : (o : Option Field) → o ≡ None → option_and_then (λ (f : Field). slot_by meaning types f.presence f.shape f.kind (payloads n (counted types fields n f.shape rs))) o ≡ Some s → ⊥
        clash None e g = cc
        clash (Some f) e g = cc
    field_valid n (Some f) s known h =
        let found = field_found types fields n f sound known in
        slot_valid f f.shape (payloads n (counted types fields n f.shape rs)) s (map_key f found.sound)
        (clean_payloads k types fields n f known (counted types fields n f.shape rs) (counted_all (IsCleanRecord k types fields) types fields n f.shape rs clean))
        (ap (option_and_then (λ (f : Field). slot_by meaning types f.presence f.shape f.kind (payloads n (counted types fields n f.shape rs)))) (sym known) ∙ h)

    -- slots rise by number, fit their fields, and have one member of a oneof at most
    pub record AreValidSlots (es : List (ℕ × Slot)) : Type 0 where
      pub rising : RiseFrom 0 es
      pub slots : AreFieldSlots (valid_within k types) fields es
      pub oneofs : AreApart nat_eq (oneofs_in fields es)

    -- the slots that clean records say are valid
    pub slots_valid : AreValidSlots (gather slot fields)
    slots_valid =
        let rising = gather_rises slot fields (numbers_some types fields sound) in
        record {
          rising = rising;
          slots = gather_all (λ (e : ℕ × Slot). IsFieldSlot (valid_within k types) (field_in fields e.0) e.1) slot fields (λ n s h. field_valid n (field_in fields n) s refl h);
          oneofs = oneofs_apart meaning types fields rs 0 (gather slot fields) rising (gather_all (λ (e : ℕ × Slot). slot e.0 ≡ Some e.1) slot fields (λ n s h. h));
        }

  -- ---- an entry

  single_map : (t : Scalar) → ◌≡◌ {A = Shape} Single (MapOf t) → ⊥
  single_map t z = cc

  default_kind : (kind : Kind) → (is_message kind ≡ true → k ≡ 0 → ⊥) → IsItem (valid_within k types) kind (default_item types kind)
  default_kind (OneOf s) some = default_valid types s
  default_kind (MessageOf id) some = empty_valid k types id (some refl)

  part_valid : (fields : List Field) (n : ℕ) (f : Field) → field_in fields n ≡ Some f → f.shape ≡ Single → (rs : List Record) → AllByRecursion (IsCleanRecord k types fields) rs → (default : ItemLayer) → IsItem (valid_within k types) f.kind default
      → IsItem (valid_within k types) f.kind (unwrap_or (singular meaning types f.kind (payloads n rs)) default)
  part_valid fields n f known single rs h default d = by (singular meaning types f.kind (payloads n rs)) refl
    where
      by : (o : Option ItemLayer) → singular meaning types f.kind (payloads n rs) ≡ o → IsItem (valid_within k types) f.kind (unwrap_or o default)
      by None e = d
      by (Some i) e = singular_valid f.shape (λ t z. single_map t (sym single ∙ z)) f.kind (payloads n rs) i (clean_payloads k types fields n f known rs h) e

  pair_is : (x y : Key × Item) → ◌≡◌ {A = Option (Key × Item)} (Some x) (Some y) → x ≡ y
  pair_is x y e = cc

  -- an entry of a map, one level further out
  entry_valid : (s : Scalar) (kind : Kind) (rs : List Record) → IsKeyKind s → (is_message kind ≡ true → k ≡ 0 → ⊥) → AllByRecursion (IsCleanRecord k types (entry_fields s kind)) rs
      → (e : Key × Item) → entry_by meaning types s kind rs ≡ Some e → IsScalarItem s (key_item e.0) × IsItem (valid_within k types) kind (out-Item e.1)
  entry_valid s kind rs key some h e q = subst (λ (x : Key × Item). IsScalarItem s (key_item x.0) × IsItem (valid_within k types) kind (out-Item x.1)) (pair_is _ e q) (
    key_valid s (unwrap_or (singular meaning types (OneOf s) (payloads 1 rs)) (default_of types s)) key (part_valid (entry_fields s kind) 1 (entry_field 1 (OneOf s)) refl refl rs h (default_of types s) (default_valid types s)),
    subst (IsItem (valid_within k types) kind) (sym (out-roll-Item (unwrap_or (singular meaning types kind (payloads 2 rs)) (default_item types kind))))
        (part_valid (entry_fields s kind) 2 (entry_field 2 kind) refl refl rs h (default_item types kind) (default_kind kind some)),
  )

-- ---- all levels

clean_records : (k : ℕ) (types : Types) (fields : List Field) (bytes : List ℕ) → IsClean k types fields bytes → AllByRecursion (IsCleanRecord k types fields) (records k 0 bytes)
clean_records k types fields bytes c =
    each_both (IsFaultless (λ at r. field_fault (first_fault k types) types k (field_in fields r.number) at r) k) (λ (r : Record). IsRanged r.payload) (records k 0 bytes) c.faultless (records_ranged k 0 bytes c.all)

deep_clean : (k : ℕ) (types : Types) (fields : List Field) (cs : List (List ℕ)) → AllByRecursion (IsDeep (suc k) types fields) cs → AllByRecursion (IsClean k types fields) cs
deep_clean k types fields [] h = tt
deep_clean k types fields (c ∷ cs) h = (clean_is k types fields h.0.none.0 c h.0.all h.0.none.1, deep_clean k types fields cs h.1)

room_some : (k : ℕ) (b : Bool) → (suc k == 0 || (suc k == 1 && b)) ≡ false → b ≡ true → k ≡ 0 → ⊥
room_some zero b h e z = absurd (let c : true ≡ false = sym e ∙ h in cc)
room_some (suc k) b h e z = absurd (omega arith)

no_room : (b : Bool) → ◌≡◌ {A = Bool} (true || b) false → ⊥
no_room b h = cc

module _ (types : Types) (sound : HasSoundFields types) where
  message_level : (k : ℕ) → Validates k types → (id : TypeId) (bytes : List ℕ) → IsClean k types (fields_of types id) bytes → (valid_within (suc k) types).message id ((meaning_within (suc k) types).message (fields_of types id) bytes)
  unfolding valid_within meaning_within
  message_level k deeper id bytes c =
      let v = slots_valid k types deeper (fields_of types id) (fields_sound types id sound) (records k 0 bytes) (clean_records k types (fields_of types id) bytes c) in
      record { rising = v.rising; slots = v.slots; oneofs = v.oneofs }

  entry_level : (k : ℕ) → Validates k types → (s : Scalar) (kind : Kind) (bytes : List ℕ) (e : Key × Item) → IsKeyKind s → IsDeepEntry (suc k) types s kind bytes → (meaning_within (suc k) types).entry s kind bytes ≡ Some e → (valid_within (suc k) types).entry s kind e
  unfolding valid_within meaning_within
  entry_level k deeper s kind bytes e key d q =
      entry_valid k types deeper s kind (records k 0 bytes) key (room_some k (is_message kind) d.room) (clean_records k types (entry_fields s kind) bytes (clean_is k types (entry_fields s kind) d.none.0 bytes d.all d.none.1)) e q

  validates : (k : ℕ) → Validates k types
  validates zero = record { message = λ nz. absurd (nz refl); entry = λ s kind bytes e key d q. absurd (no_room (0 == 1 && is_message kind) d.room) }
  validates (suc k) = record {
    message = λ nz id cs h. message_level k (validates k) id (flat_map (λ (q : List ℕ). q) cs) (clean_chunks k types (fields_of types id) cs (deep_clean k types (fields_of types id) cs h));
    entry = λ s kind bytes e key d q. entry_level k (validates k) s kind bytes e key d q;
  }

  -- the value that bytes decode to is valid
  pub decoded_valid : (id : TypeId) (bytes : List ℕ) (v : Value) → AreBytes bytes → DecodesTo types id bytes v → IsValid types id v
  decoded_valid id bytes v b h =
      let deep : IsDeep 100 types (fields_of types id) bytes = record { some = λ z. absurd (omega arith); none = (0, h.0); all = bytes_all bytes b } in
      let valid = (validates 100).message (λ z. absurd (omega arith)) id (bytes ∷ []) (deep, tt) in
      let e : (meaning_within 100 types).message (fields_of types id) (bytes ++ []) ≡ v = ap ((meaning_within 100 types).message (fields_of types id)) (append-nil bytes) ∙ sym h.1 in
      subst ((valid_within 100 types).message id) e valid

-- what fits a byte is a byte
pub bytes_below : (bytes : List ℕ) → ((i : ℕ) → Fits w8 (get_or bytes i 0)) → AreBytes bytes
bytes_below bytes k i = let f : Fits w8 (get_or bytes i 0) = k i in omega arith

-- a value that was decoded is valid, where the types are sound
pub valid_answer : (types : Types) (id : TypeId) (bytes : List ℕ) (r : Result Value DecodeFault) → AreBytes bytes → Decodes r (decoding types id bytes)
    → IfOk r (λ v. HasSoundFields types → IsValid types id v)
unfolding decoding
valid_answer types id bytes (Err e) b h = tt
valid_answer types id bytes (Ok v) b h = pick (fault_of types id bytes) refl h
  where
    pick : (o : Option Fault) → fault_of types id bytes ≡ o → unless o (value_of types id bytes) ≡ Ok v → HasSoundFields types → IsValid types id v
    pick None e h sound = decoded_valid types sound id bytes v b (e, sym (cc (h)))
    pick (Some f) e h sound = absurd (cc (h))
