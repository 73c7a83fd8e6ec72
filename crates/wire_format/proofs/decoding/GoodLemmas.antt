-- Bytes without fault are good, and good bytes joined are.
use Rattle.std.proofs.Common.{◌≡◌, ◌≢◌, ◌+◌, ◌-◌, ◌≤◌, ◌==◌, ℕ, zero, suc, Bool, true, false, cond, List, [], ◌∷◌, ◌++◌, Option, Some, None, Result, Ok, Err, arith, refl, ap, length, ◌∙◌, subst, append-nil}
use Rattle.std.specs.Prelude.{◌||◌}
use Rattle.std.specs.List.{AllByRecursion, flat_map, filter_map, list_any}
use Rattle.std.proofs.lemmas.List.Concat.{flat_map-cons}
use Rattle.std.specs.Str.{is_utf8}
use Rattle.std.proofs.lemmas.Bool.{eqb-true, eqb-false}
use Rattle.message_types.specs.Types.{field_in, fields_of}
use Rattle.message_types.specs.declared.fields.Field.{Field}
use Rattle.message_types.specs.declared.fields.Kind.{Kind}
use Rattle.message_types.specs.declared.fields.Kind.TheVariants.{One as OneOf, Message as MessageOf}
use Rattle.message_types.specs.declared.fields.Scalar.{Scalar}
use Rattle.message_types.specs.declared.fields.Scalar.TheVariants.{Text as TextOf}
use Rattle.message_types.specs.declared.fields.Shape.{Shape}
use Rattle.message_types.specs.declared.fields.Shape.TheVariants.{Single, Member, Many as ManyOf, Map as MapOf}
use Rattle.message_types.specs.declared.messages.TypeId.{TypeId}
use Rattle.message_types.specs.declared.messages.Types.{Types}
use Rattle.wire_format.specs.FieldValues.{payloads, sized_of, since, sets_other, counted}
use Rattle.wire_records.specs.WholeRecords.{AndWhole, AreWhole}
use Rattle.wire_format.specs.GoodBytes.{IsGoodText, IsGoodItem, IsGoodEntry, IsGoodPayload, IsGoodRecord, AreGoodRecords, AreGood}
use Rattle.wire_format.specs.WireFaults.{as_wire, entry_fields, Fault, scalar_fault, payload_fault, field_fault, first_fault}
use Rattle.std.specs.Option.{option_or}
use Rattle.wire_records.specs.RecordFaults.{and_fault, records_fault}
use Rattle.wire_records.specs.WireRecord.{Record, Payload, number, eight, sized, group, four, record_in, records, and_records}
use Rattle.wire_records.specs.declared.fault.WireKind.{WireKind}
use Rattle.wire_records.specs.JoinedRecords.{records_joined, whole_joined, whole_stable}

no_first : (f g : Option Fault) → option_or f g ≡ None → (f ≡ None) × (g ≡ None)
no_first None g h = (refl, h)
no_first (Some f) g h = absurd cc

-- ---- all records

module _ (check : ℕ → Record → Option Fault) (k : ℕ) (Good : Record → Type 0) (good : (place : ℕ) (r : Record) → check place r ≡ None → Good r) where
  both_step : (place : ℕ) (bs : List ℕ) (x : Result Record (ℕ × WireKind)) → and_fault as_wire place (check place) x (λ skip. records_fault as_wire check k (place + 1) skip bs) ≡ None
      → ((skip : ℕ) → records_fault as_wire check k (place + 1) skip bs ≡ None → AllByRecursion Good (records k skip bs))
      → AllByRecursion Good (and_records x (λ skip. records k skip bs))
  both_step place bs (Err e) h ih = absurd cc
  both_step place bs (Ok r) h ih = let n = no_first (check place r) (records_fault as_wire check k (place + 1) (r.size - 1) bs) h in (good place r n.0, ih (r.size - 1) n.1)

  good_records : (place skip : ℕ) (bytes : List ℕ) → records_fault as_wire check k place skip bytes ≡ None → AllByRecursion Good (records k skip bytes)
  good_records place skip [] h = tt
  good_records place (suc skip) (b ∷ bs) h = good_records (place + 1) skip bs h
  good_records place zero (b ∷ bs) h = both_step place bs (record_in k (b ∷ bs)) h (λ skip g. good_records (place + 1) skip bs g)

  whole_step : (place b : ℕ) (bs : List ℕ) (x : Result Record (ℕ × WireKind)) → record_in k (b ∷ bs) ≡ x → and_fault as_wire place (check place) x (λ skip. records_fault as_wire check k (place + 1) skip bs) ≡ None
      → ((skip : ℕ) → skip ≤ length bs → records_fault as_wire check k (place + 1) skip bs ≡ None → AreWhole k skip bs)
      → AndWhole x (λ skip. AreWhole k skip bs)
  whole_step place b bs (Err e) g h ih = absurd cc
  whole_step place b bs (Ok r) g h ih =
      let n = no_first (check place r) (records_fault as_wire check k (place + 1) (r.size - 1) bs) h in
      let s = whole_stable k (b ∷ bs) [] r g in
      ih (r.size - 1) (omega (arith, s.2)) n.1

  good_whole : (place skip : ℕ) (bytes : List ℕ) → skip ≤ length bytes → records_fault as_wire check k place skip bytes ≡ None → AreWhole k skip bytes
  good_whole place skip [] l h = omega arith
  good_whole place (suc skip) (b ∷ bs) l h = good_whole (place + 1) skip bs (omega arith) h
  good_whole place zero (b ∷ bs) l h = whole_step place b bs (record_in k (b ∷ bs)) refl h (λ skip m g. good_whole (place + 1) skip bs m g)

-- ---- one payload

not_chosen : (b : Bool) (f : Fault) (g : Option Fault) → cond b (Some f) g ≡ None → (b ≡ false) × (g ≡ None)
not_chosen true f g h = absurd cc
not_chosen false f g h = (refl, h)

neither : (b c : Bool) → (b || c) ≡ false → b ≡ false
neither true c h = absurd cc
neither false c h = refl

is_chosen : (b : Bool) (f : Fault) → cond b None (Some f) ≡ None → b ≡ true
is_chosen true f h = refl
is_chosen false f h = absurd cc

-- what has no fault in so many levels is good in them
pub record GoodWithin (k : ℕ) (types : Types) : Type 0 where
  pub good : (k ≢ 0) → (fields : List Field) (place : ℕ) (bytes : List ℕ) → first_fault k types fields place bytes ≡ None → AreGood k types fields bytes

module _ (k : ℕ) (types : Types) (deeper : GoodWithin k types) where
  text_good : (shape : Shape) (s : Scalar) (place from : ℕ) (bs : List ℕ) → scalar_fault shape s place from bs ≡ None → IsGoodText s (sized bs)
  text_good shape TextOf place from bs h = is_chosen (is_utf8 bs) _ h
  text_good shape _ place from bs h = tt

  item_good : (kind : Kind) (shape : Shape) (place from : ℕ) (bs : List ℕ) → ((s : Scalar) → shape ≡ MapOf s → ⊥) → payload_fault (first_fault k types) types k shape kind place from (sized bs) ≡ None → IsGoodItem (AreGood k types) types kind (sized bs)
  item_good (MessageOf id) Single place from bs never h = let n = not_chosen (k == 0) _ _ h in deeper.good (eqb-false k 0 n.0) (fields_of types id) from bs n.1
  item_good (MessageOf id) (Member j) place from bs never h = let n = not_chosen (k == 0) _ _ h in deeper.good (eqb-false k 0 n.0) (fields_of types id) from bs n.1
  item_good (MessageOf id) ManyOf place from bs never h = let n = not_chosen (k == 0) _ _ h in deeper.good (eqb-false k 0 n.0) (fields_of types id) from bs n.1
  item_good (OneOf s) Single place from bs never h = text_good Single s place from bs h
  item_good (OneOf s) (Member j) place from bs never h = text_good (Member j) s place from bs h
  item_good (OneOf s) ManyOf place from bs never h = text_good ManyOf s place from bs h
  item_good kind (MapOf s) place from bs never h = absurd (never s refl)

  no_text : (s : Scalar) (p : Payload) → ((bs : List ℕ) → p ≡ sized bs → ⊥) → IsGoodText s p
  no_text TextOf (sized bs) never = absurd (never bs refl)
  no_text _ _ never = tt

  plain_good : (shape : Shape) (kind : Kind) (p : Payload) → ((bs : List ℕ) → p ≡ sized bs → ⊥) → IsGoodPayload (AreGood k types) types shape kind p
  plain_good shape kind (sized bs) never = absurd (never bs refl)
  plain_good (MapOf s) kind (number n) never = tt
  plain_good (MapOf s) kind (eight n) never = tt
  plain_good (MapOf s) kind (four n) never = tt
  plain_good (MapOf s) kind group never = tt
  plain_good Single (MessageOf id) (number n) never = tt
  plain_good Single (MessageOf id) (eight n) never = tt
  plain_good Single (MessageOf id) (four n) never = tt
  plain_good Single (MessageOf id) group never = tt
  plain_good (Member j) (MessageOf id) (number n) never = tt
  plain_good (Member j) (MessageOf id) (eight n) never = tt
  plain_good (Member j) (MessageOf id) (four n) never = tt
  plain_good (Member j) (MessageOf id) group never = tt
  plain_good ManyOf (MessageOf id) (number n) never = tt
  plain_good ManyOf (MessageOf id) (eight n) never = tt
  plain_good ManyOf (MessageOf id) (four n) never = tt
  plain_good ManyOf (MessageOf id) group never = tt
  plain_good Single (OneOf s) p never = no_text s p never
  plain_good (Member j) (OneOf s) p never = no_text s p never
  plain_good ManyOf (OneOf s) p never = no_text s p never

  sized_good : (shape : Shape) (kind : Kind) (place from : ℕ) (bs : List ℕ) → payload_fault (first_fault k types) types k shape kind place from (sized bs) ≡ None → IsGoodPayload (AreGood k types) types shape kind (sized bs)
  sized_good (MapOf s) kind place from bs h = let n = not_chosen _ _ _ h in deeper.good (eqb-false k 0 (neither (k == 0) _ n.0)) _ from bs n.1
  sized_good Single kind place from bs h = item_good kind Single place from bs (λ s e. absurd cc) h
  sized_good (Member j) kind place from bs h = item_good kind (Member j) place from bs (λ s e. absurd cc) h
  sized_good ManyOf kind place from bs h = item_good kind ManyOf place from bs (λ s e. absurd cc) h

  payload_good : (shape : Shape) (kind : Kind) (place from : ℕ) (p : Payload) → payload_fault (first_fault k types) types k shape kind place from p ≡ None → IsGoodPayload (AreGood k types) types shape kind p
  payload_good shape kind place from (sized bs) h = sized_good shape kind place from bs h
  payload_good shape kind place from (number n) h = plain_good shape kind (number n) (λ bs e. absurd cc)
  payload_good shape kind place from (eight n) h = plain_good shape kind (eight n) (λ bs e. absurd cc)
  payload_good shape kind place from (four n) h = plain_good shape kind (four n) (λ bs e. absurd cc)
  payload_good shape kind place from group h = plain_good shape kind group (λ bs e. absurd cc)

  record_good : (o : Option Field) (place : ℕ) (r : Record) → field_fault (first_fault k types) types k o place r ≡ None → IsGoodRecord (AreGood k types) types o r
  record_good None place r h = tt
  record_good (Some f) place r h = payload_good f.shape f.kind place (place + r.head) r.payload h

  level_good : (fields : List Field) (place : ℕ) (bytes : List ℕ) → first_fault (suc k) types fields place bytes ≡ None → AreGood (suc k) types fields bytes
  unfolding first_fault AreGood
  level_good fields place bytes h =
      let check : ℕ → Record → Option Fault = λ at r. field_fault (first_fault k types) types k (field_in fields r.number) at r in
      let good : (at : ℕ) (r : Record) → check at r ≡ None → IsGoodRecord (AreGood k types) types (field_in fields r.number) r = λ at r. record_good (field_in fields r.number) at r in (
        good_whole check k (λ r. IsGoodRecord (AreGood k types) types (field_in fields r.number) r) good place 0 bytes (omega arith) h,
        good_records check k (λ r. IsGoodRecord (AreGood k types) types (field_in fields r.number) r) good place 0 bytes h,
      )

-- bytes without a fault are good in any number of levels
pub good_within : (k : ℕ) (types : Types) → GoodWithin k types
good_within zero types = record { good = λ nz. absurd (nz refl) }
good_within (suc k) types = record { good = λ nz fields place bytes h. level_good k types (good_within k types) fields place bytes h }

-- ---- joined

all_joined : {A : Type 0} (P : A → Type 0) (xs ys : List A) → AllByRecursion P xs → AllByRecursion P ys → AllByRecursion P (xs ++ ys)
all_joined P [] ys h g = g
all_joined P (x ∷ xs) ys h g = (h.0, all_joined P xs ys h.1 g)

-- good bytes, joined, are good
pub good_joined : (k : ℕ) (types : Types) (fields : List Field) (a b : List ℕ) → AreGood k types fields a → AreGood k types fields b → AreGood k types fields (a ++ b)
unfolding AreGood
good_joined zero types fields a b h g = absurd h
good_joined (suc k) types fields a b h g =
    (whole_joined k 0 a b h.0 g.0, rw (records_joined k 0 a b h.0) (all_joined (λ r. IsGoodRecord (AreGood k types) types (field_in fields r.number) r) (records k 0 a) (records k 0 b) h.1 g.1))

-- ---- what is inside good bytes

-- good bytes have a level
pub good_some : (k : ℕ) (types : Types) (fields : List Field) (bytes : List ℕ) → AreGood k types fields bytes → 1 ≤ k
unfolding AreGood
good_some zero types fields bytes h = absurd h
good_some (suc k) types fields bytes h = omega arith

-- the records of good bytes are good one level further in
pub good_open : (k : ℕ) (types : Types) (fields : List Field) (bytes : List ℕ) (rs : List Record) → AreGood k types fields bytes → rs ≡ records (k - 1) 0 bytes → AreGoodRecords (AreGood (k - 1) types) types fields rs
unfolding AreGood
good_open zero types fields bytes rs h q = absurd h
good_open (suc k) types fields bytes rs h q = let e : suc k - 1 ≡ k = omega arith in rw (q, e) h.1

-- a payload that is bytes passes
abbrev IsGoodChunk : (List ℕ → Type 0) → Payload → Type 0
IsGoodChunk P (sized bs) = P bs
IsGoodChunk P p = Unit {0}

module _ (inner : List Field → List ℕ → Type 0) (types : Types) where
  chunks_message : (fields : List Field) (ps : List Payload) → AllByRecursion (λ p. IsGoodChunk (inner fields) p) ps → AllByRecursion (inner fields) (filter_map sized_of ps)
  chunks_message fields [] h = tt
  chunks_message fields (sized bs ∷ ps) h = (h.0, chunks_message fields ps h.1)
  chunks_message fields (number n ∷ ps) h = chunks_message fields ps h.1
  chunks_message fields (eight n ∷ ps) h = chunks_message fields ps h.1
  chunks_message fields (four n ∷ ps) h = chunks_message fields ps h.1
  chunks_message fields (group ∷ ps) h = chunks_message fields ps h.1

  as_chunks : (id : TypeId) (ps : List Payload) → AllByRecursion (IsGoodItem inner types (MessageOf id)) ps → AllByRecursion (λ p. IsGoodChunk (inner (fields_of types id)) p) ps
  as_chunks id [] h = tt
  as_chunks id (sized bs ∷ ps) h = (h.0, as_chunks id ps h.1)
  as_chunks id (number n ∷ ps) h = (tt, as_chunks id ps h.1)
  as_chunks id (eight n ∷ ps) h = (tt, as_chunks id ps h.1)
  as_chunks id (four n ∷ ps) h = (tt, as_chunks id ps h.1)
  as_chunks id (group ∷ ps) h = (tt, as_chunks id ps h.1)

  entries_chunks : (s : Scalar) (kind : Kind) (ps : List Payload) → AllByRecursion (IsGoodEntry inner s kind) ps → AllByRecursion (λ p. IsGoodChunk (inner (entry_fields s kind)) p) ps
  entries_chunks s kind [] h = tt
  entries_chunks s kind (sized bs ∷ ps) h = (h.0, entries_chunks s kind ps h.1)
  entries_chunks s kind (number n ∷ ps) h = (tt, entries_chunks s kind ps h.1)
  entries_chunks s kind (eight n ∷ ps) h = (tt, entries_chunks s kind ps h.1)
  entries_chunks s kind (four n ∷ ps) h = (tt, entries_chunks s kind ps h.1)
  entries_chunks s kind (group ∷ ps) h = (tt, entries_chunks s kind ps h.1)

  -- the chunks of good payloads of a message are good
  pub chunks_good : (id : TypeId) (ps : List Payload) (cs : List (List ℕ)) (fs : List Field) → cs ≡ filter_map sized_of ps → fs ≡ fields_of types id → AllByRecursion (IsGoodItem inner types (MessageOf id)) ps → AllByRecursion (inner fs) cs
  chunks_good id ps cs fs q r h = rw (q, r) (chunks_message (fields_of types id) ps (as_chunks id ps h))

  -- the chunks of good payloads of a map are good entries
  pub chunks_entries : (s : Scalar) (kind : Kind) (ps : List Payload) (cs : List (List ℕ)) → cs ≡ filter_map sized_of ps → AllByRecursion (IsGoodEntry inner s kind) ps → AllByRecursion (inner (entry_fields s kind)) cs
  chunks_entries s kind ps cs q h = rw q (chunks_message (entry_fields s kind) ps (entries_chunks s kind ps h))

  module _ (fields : List Field) (n : ℕ) (f : Field) (known : field_in fields n ≡ Some f) where
    payloads_step : (r : Record) (ps : List Payload) (b : Bool) → (b ≡ true → r.number ≡ n) → IsGoodRecord inner types (field_in fields r.number) r → AllByRecursion (IsGoodPayload inner types f.shape f.kind) ps
        → AllByRecursion (IsGoodPayload inner types f.shape f.kind) (cond b (r.payload ∷ ps) ps)
    payloads_step r ps true p h g = (subst (λ (o : Option Field). IsGoodRecord inner types o r) (ap (field_in fields) (p refl) ∙ known) h, g)
    payloads_step r ps false p h g = g

    all_payloads : (rs : List Record) → AreGoodRecords inner types fields rs → AllByRecursion (IsGoodPayload inner types f.shape f.kind) (payloads n rs)
    all_payloads [] h = tt
    all_payloads (r ∷ rs) h = payloads_step r (payloads n rs) (r.number == n) (eqb-true r.number n) h.0 (all_payloads rs h.1)

    -- the payloads of good records are good
    pub payloads_good : (rs : List Record) (ps : List Payload) → AreGoodRecords inner types fields rs → ps ≡ payloads n rs → AllByRecursion (IsGoodPayload inner types f.shape f.kind) ps
    payloads_good rs ps h q = rw q (all_payloads rs h)

since_step : {A : Type 0} (P : A → Type 0) (b : Bool) (xs ys : List A) → AllByRecursion P xs → AllByRecursion P ys → AllByRecursion P (cond b xs ys)
since_step P true xs ys h g = h
since_step P false xs ys h g = g

since_good : {A : Type 0} (P : A → Type 0) (p : A → Bool) (xs : List A) → AllByRecursion P xs → AllByRecursion P (since p xs)
since_good P p [] h = tt
since_good P p (x ∷ xs) h = since_step P (list_any p (x ∷ xs)) (since p xs) (x ∷ xs) (since_good P p xs h.1) h

-- the records that count are good
pub counted_good : (inner : List Field → List ℕ → Type 0) (types : Types) (fields : List Field) (n : ℕ) (shape : Shape) (rs : List Record) → AreGoodRecords inner types fields rs → AreGoodRecords inner types fields (counted types fields n shape rs)
counted_good inner types fields n Single rs h = h
counted_good inner types fields n (Member k) rs h = since_good (λ r. IsGoodRecord inner types (field_in fields r.number) r) (sets_other types fields k n) rs h
counted_good inner types fields n ManyOf rs h = h
counted_good inner types fields n (MapOf s) rs h = h

-- a chunk and further ones, joined
pub joined_good : (k : ℕ) (types : Types) (fields : List Field) (a : List ℕ) (cs : List (List ℕ)) → AreGood k types fields a → AllByRecursion (AreGood k types fields) cs → AreGood k types fields (a ++ flat_map (λ q. q) cs)
joined_good k types fields a [] h g = rw append-nil h
joined_good k types fields a (c ∷ cs) h g = rw flat_map-cons (good_joined k types fields a (c ++ flat_map (λ q. q) cs) h (joined_good k types fields c cs g.0 g.1))

-- a payload of a single field is that of an item
pub single_good : (inner : List Field → List ℕ → Type 0) (types : Types) (kind : Kind) (ps : List Payload) → AllByRecursion (IsGoodPayload inner types Single kind) ps → AllByRecursion (IsGoodItem inner types kind) ps
single_good inner types kind [] h = tt
single_good inner types kind (p ∷ ps) h = (h.0, single_good inner types kind ps h.1)
