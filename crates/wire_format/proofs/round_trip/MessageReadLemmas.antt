-- A message that was written is read again: the records of all its slots, and of each number what its slot says.
use Rattle.std.proofs.Common.{◌≡◌, ◌≢◌, ◌+◌, ◌≤◌, ◌<◌, ◌==◌, ◌&&◌, ℕ, zero, suc, Bool, true, false, cond, nat_eq, List, [], ◌∷◌, ◌++◌, Option, Some, None, arith, refl, ap, ap₂, sym, ◌∙◌, subst, append-nil, option_and_then, option_map, unwrap_or, slice_get, is_some}
use Rattle.std.specs.List.{AllByRecursion}
use Rattle.std.proofs.lemmas.Bool.{eqb-true, eqb-false}
use Rattle.std.proofs.lemmas.List.Concat.{flat_map-cons}
use Rattle.schema.specs.Apart.{AreApart}
use Rattle.schema.specs.Soundness.{IsSound, IsSoundMessage, IsSoundField}
use Rattle.message_types.specs.Types.{field_in, fields_of}
use Rattle.schema.specs.Validity.{IsFieldSlot, AreFieldSlots, oneof_of, oneofs_in, valid_within, IsSlot}
use Rattle.schema.specs.Value.{RiseFrom, slot_in}
use Rattle.schema.specs.declared.value.Slot.{Slot, out-Slot, roll-out-Slot}
use Rattle.schema.specs.declared.value.Value.{Value}
use Rattle.message_types.specs.declared.fields.Field.{Field}
use Rattle.message_types.specs.declared.fields.Kind.{Kind}
use Rattle.message_types.specs.declared.fields.Kind.TheVariants.{One as OneOf, Message as MessageOf}
use Rattle.message_types.specs.declared.fields.Presence.{Presence}
use Rattle.message_types.specs.declared.fields.Shape.{Shape}
use Rattle.message_types.specs.declared.fields.Shape.TheVariants.{Single, Member, Many as ManyOf, Map as MapOf}
use Rattle.message_types.specs.declared.messages.MessageType.{MessageType}
use Rattle.message_types.specs.declared.messages.TypeId.{TypeId}
use Rattle.message_types.specs.declared.messages.Types.{Types}
use Rattle.wire_format.specs.Laws.{HasSoundFields}
use Rattle.wire_format.specs.CanonicalBytes.{field_bytes, slots_bytes}
use Rattle.wire_format.specs.FieldValues.{Inner, payloads, since, counts, in_oneof, counts_in, sets_other, counted, slot_by, slot_of, gather, meaning_within}
use Rattle.wire_records.specs.WholeRecords.{AreWhole}
use Rattle.wire_format.specs.PayloadLengths.{HasFieldLengths, HaveFieldLengths, HasSlotLengths}
use Rattle.wire_format.specs.WireFaults.{as_wire, Fault, payload_fault, field_fault, first_fault}
use Rattle.wire_records.specs.RecordFaults.{records_fault}
use Rattle.wire_records.specs.WireRecord.{Record, Payload, records}
use Rattle.wire_records.specs.JoinedRecords.{records_joined, whole_joined}
use Rattle.wire_format.proofs.round_trip.FieldRecordLemmas.{AreRecordsOf, payloads_append, payloads_same, payloads_other, payloads_all}
use Rattle.wire_format.proofs.round_trip.ItemReadLemmas.{ReadsBack}
use Rattle.wire_format.proofs.round_trip.EntryReadLemmas.{IsUnfaulted, no_fault}
use Rattle.wire_format.proofs.round_trip.MemberLemmas.{since_all, none_since, IsApart, others_apart, oneof_is, not_in_oneof}
use Rattle.wire_format.proofs.round_trip.SlotReadLemmas.{IsSlotBack, slot_back}
use Rattle.wire_format.proofs.round_trip.RisingLemmas.{gather_rises, slot_in_gather}
use Rattle.schema.proofs.Theorems.{same_slots}
use Rattle.base.proofs.EachLemmas.{each_joined}

-- ---- sound fields

-- a number has this field among those of sound types
pub record IsFound (types : Types) (n : ℕ) (f : Field) : Type 0 where
  pub sound : IsSoundField types f
  pub number : f.number ≡ n

-- a field that is found is sound, and has the number
pub field_found : (types : Types) (fs : List Field) (n : ℕ) (f : Field) → AllByRecursion (IsSoundField types) fs → field_in fs n ≡ Some f → IsFound types n f
field_found types [] n f h e = absurd cc
field_found types (g ∷ fs) n f h e = by (g.number == n) (eqb-true g.number n) e (λ d. field_found types fs n f h.1 d)
  where
    some_is : (x y : Field) → ◌≡◌ {A = Option Field} (Some x) (Some y) → x ≡ y
    some_is x y e = cc

    by : (b : Bool) → (b ≡ true → g.number ≡ n) → cond b (Some g) (field_in fs n) ≡ Some f → (field_in fs n ≡ Some f → IsFound types n f) → IsFound types n f
    by true p e ih = subst (IsFound types n) (some_is g f e) (record { sound = h.0; number = p refl })
    by false p e ih = ih e

-- the fields of a message of sound fields are sound
pub fields_sound : (types : Types) (id : TypeId) → HasSoundFields types → AllByRecursion (IsSoundField types) (fields_of types id)
fields_sound types id h = each types.messages id.0 h
  where
    each : (ms : List MessageType) (i : ℕ) → AllByRecursion (λ (m : MessageType). AllByRecursion (IsSoundField types) m.fields) ms → AllByRecursion (IsSoundField types) (unwrap_or (option_map (λ (m : MessageType). m.fields) (slice_get ms i)) [])
    each [] i h = tt
    each (m ∷ ms) zero h = h.0
    each (m ∷ ms) (suc i) h = each ms i h.1

-- the fields of sound types are sound
pub sound_fields : (types : Types) → IsSound types → HasSoundFields types
sound_fields types h = each types.messages h.messages
  where
    each : (ms : List MessageType) → AllByRecursion (IsSoundMessage types) ms → AllByRecursion (λ (m : MessageType). AllByRecursion (IsSoundField types) m.fields) ms
    each [] h = tt
    each (m ∷ ms) h = (h.0.fields, each ms h.1)

-- the numbers of sound fields are not 0
pub numbers_some : (types : Types) (fs : List Field) → AllByRecursion (IsSoundField types) fs → AllByRecursion (λ (f : Field). 0 < f.number) fs
numbers_some types [] h = tt
numbers_some types (f ∷ fs) h = (h.0.low, numbers_some types fs h.1)

-- ---- a message, one level further in

module _ (k : ℕ) (types : Types) (sub : TypeId → Value → List ℕ) (deeper : ReadsBack k types sub) (fields : List Field) (sound : AllByRecursion (IsSoundField types) fields) where
  abbrev meaning : Inner
  meaning = meaning_within k types

  abbrev bytes_of : ℕ × Slot → List ℕ
  bytes_of e = field_bytes sub (field_in fields e.0) e.1

  abbrev check : ℕ → Record → Option Fault
  check at r = field_fault (first_fault k types) types k (field_in fields r.number) at r

  -- a slot that is valid, with the records that were written of it
  pub record IsEntry (e : ℕ × Slot) : Type 0 where
    pub field : Field
    pub known : field_in fields e.0 ≡ Some field
    pub valid : IsSlot (valid_within k types) field field.shape (out-Slot e.1)
    pub short : HasSlotLengths sub field field.shape (out-Slot e.1)
    pub back : IsSlotBack k types sub deeper field field.shape (out-Slot e.1)
    pub recs : AreRecordsOf k e.0 (bytes_of e) back.ps

  entry_of : (e : ℕ × Slot) (f : Field) → field_in fields e.0 ≡ Some f → IsFound types e.0 f → IsSlot (valid_within k types) f f.shape (out-Slot e.1) → HasSlotLengths sub f f.shape (out-Slot e.1) → IsSlotBack k types sub deeper f f.shape (out-Slot e.1) → IsEntry e
  entry_of e f known found h l b =
      let bytes : bytes_of e ≡ field_bytes sub (Some f) e.1 = ap (λ (o : Option Field). field_bytes sub o e.1) known in
      record {
        field = f;
        known = known;
        valid = h;
        short = l;
        back = b;
        recs = subst (λ (bs : List ℕ). AreRecordsOf k e.0 bs b.ps) (sym bytes) (subst (λ (n : ℕ). AreRecordsOf k n (field_bytes sub (Some f) e.1) b.ps) found.number b.recs);
      }

  entry_is : (e : ℕ × Slot) (o : Option Field) → field_in fields e.0 ≡ o → IsFieldSlot (valid_within k types) o e.1 → HasFieldLengths sub o e.1 → IsEntry e
  entry_is e None known h l = absurd h
  entry_is e (Some f) known h l =
      let found = field_found types fields e.0 f sound known in
      let high : f.number ≤ 536870911 = found.sound.high in
      entry_of e f known found h l (slot_back k types sub deeper f found.sound.low (omega arith) (λ p. (found.sound.packed p).1) f.shape (out-Slot e.1) h l)

  -- each slot of a valid value is written and read
  pub all_entries : (es : List (ℕ × Slot)) → AreFieldSlots (valid_within k types) fields es → HaveFieldLengths sub fields es → AllByRecursion IsEntry es
  all_entries [] h l = tt
  all_entries (e ∷ es) h l = (entry_is e (field_in fields e.0) refl h.0 l.0, all_entries es h.1 l.1)

  -- the records that are written of slots
  abbrev pub found_records : (es : List (ℕ × Slot)) → AllByRecursion IsEntry es → List Record
  found_records [] h = []
  found_records (e ∷ es) h = h.0.recs.found ++ found_records es h.1

  all_whole : (es : List (ℕ × Slot)) (h : AllByRecursion IsEntry es) → AreWhole k 0 (slots_bytes sub fields es)
  all_whole [] h = refl
  all_whole (e ∷ es) h = subst (AreWhole k 0) (sym (flat_map-cons bytes_of e es)) (whole_joined k 0 (bytes_of e) (slots_bytes sub fields es) h.0.recs.whole (all_whole es h.1))

  -- what is written of slots is read as their records
  pub all_found : (es : List (ℕ × Slot)) (h : AllByRecursion IsEntry es) → records k 0 (slots_bytes sub fields es) ≡ found_records es h
  all_found [] h = refl
  all_found (e ∷ es) h =
      ap (records k 0) (flat_map-cons bytes_of e es) ∙ records_joined k 0 (bytes_of e) (slots_bytes sub fields es) h.0.recs.whole
      ∙ ap₂ (λ (rs ss : List Record). rs ++ ss) h.0.recs.are (all_found es h.1)

  -- ---- no record has a fault

  records_good : (n : ℕ) (f : Field) (rs : List Record) → field_in fields n ≡ Some f → AllByRecursion (λ (r : Record). r.number ≡ n) rs
      → AllByRecursion (λ (r : Record). (place from : ℕ) → payload_fault (first_fault k types) types k f.shape f.kind place from r.payload ≡ None) rs → AllByRecursion (IsUnfaulted check k) rs
  records_good n f [] known h g = tt
  records_good n f (r ∷ rs) known h g =
      (λ place. ap (λ (o : Option Field). field_fault (first_fault k types) types k o place r) (ap (field_in fields) h.0 ∙ known) ∙ g.0 place (place + r.head), records_good n f rs known h.1 g.1)

  all_good : (es : List (ℕ × Slot)) (h : AllByRecursion IsEntry es) → AllByRecursion (IsUnfaulted check k) (found_records es h)
  all_good [] h = tt
  all_good (e ∷ es) h =
      let x = h.0 in
      each_joined (IsUnfaulted check k) x.recs.found (found_records es h.1)
      (records_good e.0 x.field x.recs.found x.known x.recs.numbers
      (payloads_all (λ (p : Payload). (place from : ℕ) → payload_fault (first_fault k types) types k x.field.shape x.field.kind place from p ≡ None) x.recs.found x.back.ps x.recs.payloads x.back.good))
      (all_good es h.1)

  -- ---- what each number has

  none_left : (low q : ℕ) (es : List (ℕ × Slot)) (h : AllByRecursion IsEntry es) → RiseFrom low es → q ≤ low → payloads q (found_records es h) ≡ []
  none_left low q [] h rise l = refl
  none_left low q (e ∷ es) h rise l =
      let below : low < e.0 = rise.0 in
      payloads_append q h.0.recs.found (found_records es h.1)
      ∙ ap₂ (λ (xs ys : List Payload). xs ++ ys) (payloads_other e.0 q h.0.recs.found (λ z. absurd (omega arith)) h.0.recs.numbers) (none_left e.0 q es h.1 rise.1 (omega arith))

  -- of the number of the first slot there are its payloads alone
  pub head_found : (e : ℕ × Slot) (es : List (ℕ × Slot)) (h : AllByRecursion IsEntry (e ∷ es)) (q : ℕ) → RiseFrom e.0 es → e.0 ≡ q → payloads q (found_records (e ∷ es) h) ≡ h.0.back.ps
  head_found e es h q rise same =
      payloads_append q h.0.recs.found (found_records es h.1)
      ∙ ap₂ (λ (xs ys : List Payload). xs ++ ys)
      (ap (λ (n : ℕ). payloads n h.0.recs.found) (sym same) ∙ payloads_same e.0 h.0.recs.found h.0.recs.numbers ∙ h.0.recs.payloads)
      (none_left e.0 q es h.1 rise (omega arith))
      ∙ append-nil h.0.back.ps

  -- of another number there is none of the first slot
  pub tail_found : (e : ℕ × Slot) (es : List (ℕ × Slot)) (h : AllByRecursion IsEntry (e ∷ es)) (q : ℕ) → e.0 ≢ q → payloads q (found_records (e ∷ es) h) ≡ payloads q (found_records es h.1)
  tail_found e es h q ne =
      payloads_append q h.0.recs.found (found_records es h.1)
      ∙ ap (λ (xs : List Payload). xs ++ payloads q (found_records es h.1)) (payloads_other e.0 q h.0.recs.found ne h.0.recs.numbers)

  -- a number without a slot has no payloads
  pub no_slot : (low q : ℕ) (es : List (ℕ × Slot)) (h : AllByRecursion IsEntry es) → RiseFrom low es → slot_in es q ≡ None → payloads q (found_records es h) ≡ []
  no_slot low q [] h rise none = refl
  no_slot low q (e ∷ es) h rise none = by (e.0 == q) (eqb-false e.0 q) none (no_slot e.0 q es h.1 rise.1)
    where
      by : (b : Bool) → (b ≡ false → e.0 ≢ q) → cond b (Some e.1) (slot_in es q) ≡ None → (slot_in es q ≡ None → payloads q (found_records es h.1) ≡ []) → payloads q (found_records (e ∷ es) h) ≡ []
      by true p none ih = absurd cc
      by false p none ih = tail_found e es h q (p refl) ∙ ih none

  -- the slot of a number, with the payloads that were written of it
  pub record IsEntryAt (q : ℕ) (s : Slot) (ps : List Payload) : Type 0 where
    pub entry : ℕ × Slot
    pub is : IsEntry entry
    pub number : entry.0 ≡ q
    pub slot : entry.1 ≡ s
    pub written : ps ≡ is.back.ps

  -- a number with a slot has the payloads that are written of it
  pub entry_at : (q low : ℕ) (es : List (ℕ × Slot)) (h : AllByRecursion IsEntry es) → RiseFrom low es → (s : Slot) → slot_in es q ≡ Some s → IsEntryAt q s (payloads q (found_records es h))
  entry_at q low [] h rise s at = absurd cc
  entry_at q low (e ∷ es) h rise s at = by (e.0 == q) (eqb-true e.0 q) (eqb-false e.0 q) at (λ d. entry_at q e.0 es h.1 rise.1 s d)
    where
      slot_is : (x y : Slot) → ◌≡◌ {A = Option Slot} (Some x) (Some y) → x ≡ y
      slot_is x y e = cc

      by : (b : Bool) → (b ≡ true → e.0 ≡ q) → (b ≡ false → e.0 ≢ q) → cond b (Some e.1) (slot_in es q) ≡ Some s → (slot_in es q ≡ Some s → IsEntryAt q s (payloads q (found_records es h.1))) → IsEntryAt q s (payloads q (found_records (e ∷ es) h))
      by true p r at ih = record { entry = e; is = h.0; number = p refl; slot = slot_is e.1 s at; written = head_found e es h q rise.1 (p refl) }
      by false p r at ih = subst (IsEntryAt q s) (sym (tail_found e es h q (r refl))) (ih at)

  -- no payloads give no slot
  pub slot_none : (presence : Presence) (shape : Shape) (kind : Kind) → slot_by meaning types presence shape kind [] ≡ None
  slot_none presence Single (OneOf s) = refl
  slot_none presence Single (MessageOf id) = refl
  slot_none presence (Member j) (OneOf s) = refl
  slot_none presence (Member j) (MessageOf id) = refl
  slot_none presence ManyOf kind = refl
  slot_none presence (MapOf s) kind = refl

  some_is : (x y : Field) → ◌≡◌ {A = Option Field} (Some x) (Some y) → x ≡ y
  some_is x y e = cc

  slot_again : (low q : ℕ) (f : Field) (es : List (ℕ × Slot)) (h : AllByRecursion IsEntry es) → RiseFrom low es → field_in fields q ≡ Some f
      → slot_by meaning types f.presence f.shape f.kind (payloads q (found_records es h)) ≡ slot_in es q
  slot_again low q f [] h rise known = slot_none f.presence f.shape f.kind
  slot_again low q f (e ∷ es) h rise known = by (e.0 == q) (eqb-true e.0 q) (eqb-false e.0 q) (slot_again e.0 q f es h.1 rise.1 known)
    where
      by : (b : Bool) → (b ≡ true → e.0 ≡ q) → (b ≡ false → e.0 ≢ q) → slot_by meaning types f.presence f.shape f.kind (payloads q (found_records es h.1)) ≡ slot_in es q
          → slot_by meaning types f.presence f.shape f.kind (payloads q (found_records (e ∷ es) h)) ≡ cond b (Some e.1) (slot_in es q)
      by true p r ih =
          let same : h.0.field ≡ f = some_is h.0.field f (sym h.0.known ∙ ap (field_in fields) (p refl) ∙ known) in
          ap (slot_by meaning types f.presence f.shape f.kind) (head_found e es h q rise.1 (p refl))
          ∙ ap (λ (g : Field). slot_by meaning types g.presence g.shape g.kind h.0.back.ps) (sym same) ∙ h.0.back.slot ∙ ap (λ (x : Slot). Some x) (roll-out-Slot e.1)
      by false p r ih = ap (slot_by meaning types f.presence f.shape f.kind) (tail_found e es h q (r refl)) ∙ ih

  known_only : (q : ℕ) (es : List (ℕ × Slot)) (h : AllByRecursion IsEntry es) → field_in fields q ≡ None → slot_in es q ≡ None
  known_only q [] h none = refl
  known_only q (e ∷ es) h none = by (e.0 == q) (eqb-true e.0 q) (known_only q es h.1 none)
    where
      clash : (o : Option Field) (f : Field) → o ≡ None → o ≡ Some f → ⊥
      clash o f p q = cc

      by : (b : Bool) → (b ≡ true → e.0 ≡ q) → slot_in es q ≡ None → cond b (Some e.1) (slot_in es q) ≡ None
      by true p ih = absurd (clash (field_in fields q) h.0.field none (ap (field_in fields) (sym (p refl)) ∙ h.0.known))
      by false p ih = ih

  -- ---- all records of a member of a oneof count

  sets_none : (j q n : ℕ) (f : Field) (r : Record) → field_in fields n ≡ Some f → (n ≢ q → oneof_of (field_in fields n) ≢ Some j) → r.number ≡ n → sets_other types fields j q r ≡ false
  sets_none j q n f r known apart is = by (r.number == q) (eqb-false r.number q)
    where
      by : (b : Bool) → (b ≡ false → r.number ≢ q) → cond b false (counts_in types j (field_in fields r.number) r.payload) ≡ false
      by true p = refl
      by false p =
          let ne : n ≢ q = λ z. p refl (is ∙ z) in
          let out : in_oneof j f.shape ≡ false = not_in_oneof f j (λ z. apart ne (ap oneof_of known ∙ z)) in
          ap (λ (o : Option Field). counts_in types j o r.payload) (ap (field_in fields) is ∙ known) ∙ ap (λ (b : Bool). b && counts types f.kind r.payload) out

  entry_sets_none : (j q n : ℕ) (f : Field) (rs : List Record) → field_in fields n ≡ Some f → (n ≢ q → oneof_of (field_in fields n) ≢ Some j) → AllByRecursion (λ (r : Record). r.number ≡ n) rs
      → AllByRecursion (λ (r : Record). sets_other types fields j q r ≡ false) rs
  entry_sets_none j q n f [] known apart h = tt
  entry_sets_none j q n f (r ∷ rs) known apart h = (sets_none j q n f r known apart h.0, entry_sets_none j q n f rs known apart h.1)

  -- no record of slots that are apart sets another member of a oneof
  pub all_set_none : (j q : ℕ) (es : List (ℕ × Slot)) (h : AllByRecursion IsEntry es) → AllByRecursion (IsApart fields j q) es → AllByRecursion (λ (r : Record). sets_other types fields j q r ≡ false) (found_records es h)
  all_set_none j q [] h apart = tt
  all_set_none j q (e ∷ es) h apart =
      each_joined (λ (r : Record). sets_other types fields j q r ≡ false) h.0.recs.found (found_records es h.1)
      (entry_sets_none j q e.0 h.0.field h.0.recs.found h.0.known apart.0 h.0.recs.numbers) (all_set_none j q es h.1 apart.1)

  member_counted : (low j q : ℕ) (es : List (ℕ × Slot)) (h : AllByRecursion IsEntry es) (o : Option Slot) → slot_in es q ≡ o → RiseFrom low es → oneof_of (field_in fields q) ≡ Some j → AreApart nat_eq (oneofs_in fields es)
      → payloads q (since (sets_other types fields j q) (found_records es h)) ≡ payloads q (found_records es h)
  member_counted low j q es h None at rise member apart =
      let none = no_slot low q es h rise at in
      none_since (sets_other types fields j q) q (found_records es h) none ∙ sym none
  member_counted low j q es h (Some s) at rise member apart =
      ap (payloads q) (since_all (sets_other types fields j q) (found_records es h) (all_set_none j q es h (others_apart fields j q s es at member apart)))

  all_counted : (low q : ℕ) (f : Field) (es : List (ℕ × Slot)) (h : AllByRecursion IsEntry es) → RiseFrom low es → field_in fields q ≡ Some f → AreApart nat_eq (oneofs_in fields es)
      → payloads q (counted types fields q f.shape (found_records es h)) ≡ payloads q (found_records es h)
  all_counted low q f es h rise known apart = by f.shape refl
    where
      by : (shape : Shape) → f.shape ≡ shape → payloads q (counted types fields q shape (found_records es h)) ≡ payloads q (found_records es h)
      by Single e = refl
      by ManyOf e = refl
      by (MapOf s) e = refl
      by (Member j) e = member_counted low j q es h (slot_in es q) refl rise (ap oneof_of known ∙ oneof_is f (Member j) e) apart

  -- the slots are those that were written
  pub slots_again : (es : List (ℕ × Slot)) (h : AllByRecursion IsEntry es) → RiseFrom 0 es → AreApart nat_eq (oneofs_in fields es) → gather (slot_of meaning types fields (found_records es h)) fields ≡ es
  slots_again es h rise apart =
      same_slots (gather (slot_of meaning types fields (found_records es h)) fields) es 0 (gather_rises (slot_of meaning types fields (found_records es h)) fields (numbers_some types fields sound)) rise
      (λ q. slot_in_gather (slot_of meaning types fields (found_records es h)) fields q ∙ each q (field_in fields q) refl)
    where
      each : (q : ℕ) (o : Option Field) → field_in fields q ≡ o → cond (is_some o) (slot_of meaning types fields (found_records es h) q) None ≡ slot_in es q
      each q None e = sym (known_only q es h e)
      each q (Some f) e =
          ap (option_and_then (λ (g : Field). slot_by meaning types g.presence g.shape g.kind (payloads q (counted types fields q g.shape (found_records es h))))) e
          ∙ ap (slot_by meaning types f.presence f.shape f.kind) (all_counted 0 q f es h rise e apart) ∙ slot_again 0 q f es h rise e

  -- slots that are written are read, and have no fault
  pub record AreSlotsBack (es : List (ℕ × Slot)) : Type 0 where
    pub value : gather (slot_of meaning types fields (records k 0 (slots_bytes sub fields es))) fields ≡ es
    pub good : (place : ℕ) → records_fault as_wire check k place 0 (slots_bytes sub fields es) ≡ None

  -- slots that are valid are read again
  pub slots_back : (es : List (ℕ × Slot)) → RiseFrom 0 es → AreFieldSlots (valid_within k types) fields es → AreApart nat_eq (oneofs_in fields es) → HaveFieldLengths sub fields es → AreSlotsBack es
  slots_back es rise valid apart l =
      let h = all_entries es valid l in
      record {
        value = ap (λ (rs : List Record). gather (slot_of meaning types fields rs) fields) (all_found es h) ∙ slots_again es h rise apart;
        good = λ place. no_fault check k place 0 (slots_bytes sub fields es) (all_whole es h) (subst (AllByRecursion (IsUnfaulted check k)) (sym (all_found es h)) (all_good es h));
      }
