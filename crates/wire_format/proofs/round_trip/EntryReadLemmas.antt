-- An entry of a map that was written is read again.
use Rattle.std.proofs.Common.{◌≡◌, ◌≢◌, ◌+◌, ◌-◌, ◌==◌, ◌&&◌, ◌||◌, ℕ, zero, suc, Bool, true, false, List, [], ◌∷◌, ◌++◌, Option, Some, None, Result, Ok, Err, arith, refl, ap, ap₂, sym, ◌∙◌, subst, append_assoc}
use Rattle.std.specs.Prelude.{unwrap_or}
use Rattle.std.specs.List.{AllByRecursion}
use Rattle.std.specs.declared.cmp.Ordering.TheVariants.{Less, Greater}
use Rattle.std.specs.Ordering.{ordering_reverse}
use Rattle.schema.specs.Layers.{ItemLayer}
use Rattle.schema.specs.Pairs.{key_cmp, KeysRise, KeysRiseFrom}
use Rattle.message_types.specs.Types.{field_in}
use Rattle.schema.specs.Validity.{IsScalarItem, IsItem, key_item, valid_within}
use Rattle.schema.specs.declared.key.Key.{Key}
use Rattle.schema.specs.declared.key.Key.TheVariants.{Number as NumberKey, Truth as TruthKey, Text as TextKey}
use Rattle.schema.specs.declared.value.Item.TheOpen.{Message}
use Rattle.schema.specs.declared.value.Item.{out-Item, roll-Item, roll-out-Item, Item}
use Rattle.schema.specs.declared.value.Value.{Value}
use Rattle.message_types.specs.declared.fields.Field.{Field}
use Rattle.message_types.specs.declared.fields.Kind.{Kind}
use Rattle.message_types.specs.declared.fields.Kind.TheVariants.{One as OneOf, Message as MessageOf}
use Rattle.message_types.specs.declared.fields.Scalar.{Scalar}
use Rattle.message_types.specs.declared.fields.Shape.TheVariants.{Single}
use Rattle.message_types.specs.declared.messages.TypeId.{TypeId}
use Rattle.message_types.specs.declared.messages.Types.{Types}
use Rattle.schema.specs.KeyOrder.{key_back}
use Rattle.schema.proofs.Theorems.{lt_is, rises_on}
use Rattle.wire_format.specs.CanonicalBytes.{wire_of, item_bytes, record_bytes, key_bytes, entry_bytes}
use Rattle.wire_records.specs.RecordBytes.{tag}
use Rattle.wire_format.specs.FieldValues.{Inner, payloads, singular, key_of, default_item, entry_by, if_new, last_entries, meaning_within}
use Rattle.wire_records.specs.WholeRecords.{AndWhole, AreWhole}
use Rattle.wire_format.specs.PayloadLengths.{HasLength, HasItemLength}
use Rattle.wire_format.specs.Scalars.{scalar_wire, default_of}
use Rattle.wire_format.specs.WireFaults.{as_wire, Fault, is_message, entry_field, entry_fields, payload_fault, field_fault, first_fault}
use Rattle.wire_records.specs.RecordFaults.{and_fault, records_fault}
use Rattle.wire_records.specs.WireRecord.{Record, Payload, record_in, records, and_records}
use Rattle.wire_records.specs.declared.fault.WireKind.{WireKind}
use Rattle.wire_records.specs.JoinedRecords.{records_joined, whole_joined}
use Rattle.wire_format.proofs.round_trip.FieldRecordLemmas.{AreRecordsOf, records_one, eqb_apart, payloads_append, payloads_same, payloads_other, payloads_all}
use Rattle.wire_format.proofs.round_trip.ItemReadLemmas.{item_payload, kind_plain, IsEntryBack, ReadsBack, item_piece, item_good, item_single, item_length, behind_length, before_length}
use Rattle.base.proofs.EachLemmas.{each_joined}

-- ---- records without a fault

module _ (check : ℕ → Record → Option Fault) (k : ℕ) where
  -- a record has no fault at any offset
  abbrev pub IsUnfaulted : Record → Type 0
  IsUnfaulted r = (place : ℕ) → check place r ≡ None

  fault_step : (place : ℕ) (bs : List ℕ) (x : Result Record (ℕ × WireKind)) → AndWhole x (λ skip. AreWhole k skip bs) → AllByRecursion IsUnfaulted (and_records x (λ skip. records k skip bs))
      → ((skip : ℕ) → AreWhole k skip bs → AllByRecursion IsUnfaulted (records k skip bs) → records_fault as_wire check k (place + 1) skip bs ≡ None)
      → and_fault as_wire place (check place) x (λ skip. records_fault as_wire check k (place + 1) skip bs) ≡ None
  fault_step place bs (Err e) w h ih = absurd w
  fault_step place bs (Ok r) w h ih = rw (h.0 place) (ih (r.size - 1) w h.1)

  -- whole records without a fault have none, wherever they stand
  pub no_fault : (place skip : ℕ) (bytes : List ℕ) → AreWhole k skip bytes → AllByRecursion IsUnfaulted (records k skip bytes) → records_fault as_wire check k place skip bytes ≡ None
  no_fault place skip [] w h = refl
  no_fault place (suc skip) (b ∷ bs) w h = no_fault (place + 1) skip bs w h
  no_fault place zero (b ∷ bs) w h = fault_step place bs (record_in k (b ∷ bs)) w h (λ skip v g. no_fault (place + 1) skip bs v g)

-- ---- an entry

key_bytes_are : (sub : TypeId → Value → List ℕ) (s : Scalar) (key : Key) → key_bytes s key ≡ item_bytes sub (OneOf s) (key_item key)
key_bytes_are sub s (NumberKey z) = refl
key_bytes_are sub s (TruthKey t) = refl
key_bytes_are sub s (TextKey t) = refl

key_again : (key : Key) → key_of (key_item key) ≡ key
key_again (NumberKey z) = refl
key_again (TruthKey t) = refl
key_again (TextKey t) = refl

module _ (k : ℕ) (types : Types) (sub : TypeId → Value → List ℕ) (deeper : ReadsBack k types sub) (s : Scalar) (kind : Kind) (e : Key × Item)
    (key : IsScalarItem s (key_item e.0)) (item : IsItem (valid_within k types) kind (out-Item e.1)) (fits : HasLength (entry_bytes sub s kind e)) where
  abbrev first_bytes : List ℕ
  first_bytes = tag 1 (scalar_wire s) ++ item_bytes sub (OneOf s) (key_item e.0)

  abbrev second_bytes : List ℕ
  second_bytes = record_bytes sub 2 kind e.1

  abbrev first_payload : Payload
  first_payload = item_payload sub (OneOf s) (key_item e.0)

  abbrev second_payload : Payload
  second_payload = item_payload sub kind (out-Item e.1)

  bytes_are : entry_bytes sub s kind e ≡ first_bytes ++ second_bytes
  bytes_are =
      ap (λ (bs : List ℕ). tag 1 (scalar_wire s) ++ (bs ++ second_bytes)) (key_bytes_are sub s e.0)
      ∙ sym (append_assoc (tag 1 (scalar_wire s)) (item_bytes sub (OneOf s) (key_item e.0)) second_bytes)

  whole_fits : HasLength (first_bytes ++ second_bytes)
  whole_fits = subst HasLength bytes_are fits

  key_fits : HasItemLength sub (OneOf s) (key_item e.0)
  key_fits = item_length sub (OneOf s) (key_item e.0) (behind_length (tag 1 (scalar_wire s)) (item_bytes sub (OneOf s) (key_item e.0)) (before_length first_bytes second_bytes whole_fits))

  item_fits : HasItemLength sub kind (out-Item e.1)
  item_fits = item_length sub kind (out-Item e.1) (behind_length (tag 2 (wire_of kind)) (item_bytes sub kind (out-Item e.1)) (behind_length first_bytes second_bytes whole_fits))

  first_records : AreRecordsOf k 1 first_bytes (first_payload ∷ [])
  first_records = records_one k 1 (scalar_wire s) (item_bytes sub (OneOf s) (key_item e.0)) first_payload (omega arith) (omega arith) (kind_plain (OneOf s)) (item_piece k types sub deeper (OneOf s) (key_item e.0) key key_fits)

  second_records : AreRecordsOf k 2 second_bytes (second_payload ∷ [])
  second_records = records_one k 2 (wire_of kind) (item_bytes sub kind (out-Item e.1)) second_payload (omega arith) (omega arith) (kind_plain kind) (item_piece k types sub deeper kind (out-Item e.1) item item_fits)

  abbrev both_found : List Record
  both_found = first_records.found ++ second_records.found

  entry_records : records k 0 (entry_bytes sub s kind e) ≡ both_found
  entry_records =
      ap (records k 0) bytes_are ∙ records_joined k 0 first_bytes second_bytes first_records.whole
      ∙ ap₂ (λ (rs ss : List Record). rs ++ ss) first_records.are second_records.are

  entry_whole : AreWhole k 0 (entry_bytes sub s kind e)
  entry_whole = subst (AreWhole k 0) (sym bytes_are) (whole_joined k 0 first_bytes second_bytes first_records.whole second_records.whole)

  first_apart : ◌≢◌ {A = ℕ} 2 1
  first_apart h = absurd (omega arith)

  second_apart : ◌≢◌ {A = ℕ} 1 2
  second_apart h = absurd (omega arith)

  first_found : payloads 1 both_found ≡ first_payload ∷ []
  first_found =
      payloads_append 1 first_records.found second_records.found
      ∙ ap₂ (λ (ps qs : List Payload). ps ++ qs) (payloads_same 1 first_records.found first_records.numbers ∙ first_records.payloads) (payloads_other 2 1 second_records.found first_apart second_records.numbers)

  second_found : payloads 2 both_found ≡ second_payload ∷ []
  second_found =
      payloads_append 2 first_records.found second_records.found
      ∙ ap₂ (λ (ps qs : List Payload). ps ++ qs) (payloads_other 1 2 first_records.found second_apart first_records.numbers) (payloads_same 2 second_records.found second_records.numbers ∙ second_records.payloads)

  abbrev meaning : Inner
  meaning = meaning_within k types

  entry_is : entry_by meaning types s kind (records k 0 (entry_bytes sub s kind e)) ≡ Some e
  entry_is =
      let one : singular meaning types (OneOf s) (payloads 1 (records k 0 (entry_bytes sub s kind e))) ≡ Some (key_item e.0) =
      ap (λ (rs : List Record). singular meaning types (OneOf s) (payloads 1 rs)) entry_records ∙ ap (singular meaning types (OneOf s)) first_found ∙ item_single k types sub deeper (OneOf s) (key_item e.0) key key_fits in
      let two : singular meaning types kind (payloads 2 (records k 0 (entry_bytes sub s kind e))) ≡ Some (out-Item e.1) =
      ap (λ (rs : List Record). singular meaning types kind (payloads 2 rs)) entry_records ∙ ap (singular meaning types kind) second_found ∙ item_single k types sub deeper kind (out-Item e.1) item item_fits in
      ap₂ (λ (x : Key) (y : Item). Some (x, y))
      (ap (λ (o : Option ItemLayer). key_of (unwrap_or o (default_of types s))) one ∙ key_again e.0)
      (ap (λ (o : Option ItemLayer). roll-Item (unwrap_or o (default_item types kind))) two ∙ roll-out-Item e.1)

  abbrev check : ℕ → Record → Option Fault
  check at r = field_fault (first_fault k types) types k (field_in (entry_fields s kind) r.number) at r

  -- records of one of the two numbers have no fault where their payloads have none
  part_good : (n : ℕ) (f : Field) (rs : List Record) → field_in (entry_fields s kind) n ≡ Some f → AllByRecursion (λ (r : Record). r.number ≡ n) rs
      → AllByRecursion (λ (r : Record). (place from : ℕ) → payload_fault (first_fault k types) types k f.shape f.kind place from r.payload ≡ None) rs → AllByRecursion (IsUnfaulted check k) rs
  part_good n f [] known h g = tt
  part_good n f (r ∷ rs) known h g =
      (λ place. ap (λ (o : Option Field). field_fault (first_fault k types) types k o place r) (ap (field_in (entry_fields s kind)) h.0 ∙ known) ∙ g.0 place (place + r.head), part_good n f rs known h.1 g.1)

  entry_unfaulted : AllByRecursion (IsUnfaulted check k) both_found
  entry_unfaulted =
      each_joined (IsUnfaulted check k) first_records.found second_records.found
      (part_good 1 (entry_field 1 (OneOf s)) first_records.found refl first_records.numbers
      (payloads_all (λ p. (place from : ℕ) → payload_fault (first_fault k types) types k Single (OneOf s) place from p ≡ None) first_records.found (first_payload ∷ []) first_records.payloads (item_good k types sub deeper Single tt (OneOf s) (key_item e.0) key key_fits, tt)))
      (part_good 2 (entry_field 2 kind) second_records.found refl second_records.numbers
      (payloads_all (λ p. (place from : ℕ) → payload_fault (first_fault k types) types k Single kind place from p ≡ None) second_records.found (second_payload ∷ []) second_records.payloads (item_good k types sub deeper Single tt kind (out-Item e.1) item item_fits, tt)))

  entry_faultless : (place : ℕ) → records_fault as_wire check k place 0 (entry_bytes sub s kind e) ≡ None
  entry_faultless place = no_fault check k place 0 (entry_bytes sub s kind e) entry_whole (subst (AllByRecursion (IsUnfaulted check k)) (sym entry_records) entry_unfaulted)

-- a message in so many levels needs one
message_room : (k : ℕ) (types : Types) (kind : Kind) (i : ItemLayer) → IsItem (valid_within k types) kind i → (suc k == 0 || (suc k == 1 && is_message kind)) ≡ false
unfolding valid_within
message_room k types (OneOf s) i h =
    let z : (suc k == 0) ≡ false = eqb_apart (suc k) 0 (λ e. absurd (omega arith)) in
    rw z (no_and (suc k == 1))
  where
    no_and : (b : Bool) → (b && false) ≡ false
    no_and true = refl
    no_and false = refl
message_room zero types (MessageOf id) (Message v) h = absurd h
message_room (suc k) types (MessageOf id) (Message v) h =
    let z : (suc (suc k) == 0) ≡ false = eqb_apart (suc (suc k)) 0 (λ e. absurd (omega arith)) in
    let o : (suc (suc k) == 1) ≡ false = eqb_apart (suc (suc k)) 1 (λ e. absurd (omega arith)) in
    rw (z, o) refl
message_room k types (MessageOf id) _ h = absurd h

-- an entry that is valid one level further out is read again
pub entry_back : (k : ℕ) (types : Types) (sub : TypeId → Value → List ℕ) → ReadsBack k types sub → (s : Scalar) (kind : Kind) (e : Key × Item) → (valid_within (suc k) types).entry s kind e → HasLength (entry_bytes sub s kind e)
    → IsEntryBack (suc k) types s kind (entry_bytes sub s kind e) e
unfolding valid_within meaning_within first_fault
entry_back k types sub deeper s kind e h l = record {
  room = message_room k types kind (out-Item e.1) h.1;
  value = entry_is k types sub deeper s kind e h.0 h.1 l;
  good = λ place. entry_faultless k types sub deeper s kind e h.0 h.1 l place;
}

-- ---- the entries of a map

if_new_first : (e : Key × Item) (es : List (Key × Item)) → KeysRiseFrom e.0 es → if_new e es ≡ e ∷ es
if_new_first e [] h = refl
if_new_first e (d ∷ ds) h =
    let below : key_cmp e.0 d.0 ≡ Less = lt_is (key_cmp e.0 d.0) h.0 in
    let above : key_cmp d.0 e.0 ≡ Greater = key_back d.0 e.0 ∙ ap ordering_reverse below in
    rw above refl

-- where keys rise, each entry is the last with its key
pub last_of_rising : (es : List (Key × Item)) → KeysRise es → last_entries es ≡ es
last_of_rising [] h = refl
last_of_rising (e ∷ es) h = ap (if_new e) (last_of_rising es (rises_on e.0 es h)) ∙ if_new_first e es h
