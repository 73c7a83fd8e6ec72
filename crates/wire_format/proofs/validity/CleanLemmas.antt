-- Bytes without a fault, told by their records and payloads: what is nested has none either.
use Rattle.std.proofs.Common.{◌≡◌, ◌+◌, ◌-◌, ◌≤◌, ◌<◌, ◌==◌, ◌&&◌, ◌||◌, ℕ, zero, suc, Bool, true, false, cond, List, [], ◌∷◌, ◌++◌, length, Option, Some, None, Result, Ok, Err, arith, refl, ap, sym, ◌∙◌, subst, flat_map}
use Rattle.std.specs.List.{AllByRecursion, list_any}
use Rattle.std.specs.Str.{is_utf8}
use Rattle.std.proofs.lemmas.Bool.{eqb-true, eqb-false}
use Rattle.std.proofs.lemmas.List.Concat.{flat_map-cons}
use Rattle.message_types.specs.Types.{field_in, fields_of}
use Rattle.message_types.specs.declared.fields.Field.{Field}
use Rattle.message_types.specs.declared.fields.Kind.{Kind}
use Rattle.message_types.specs.declared.fields.Kind.TheVariants.{One as OneOf, Message as MessageOf}
use Rattle.message_types.specs.declared.fields.Scalar.{Scalar}
use Rattle.message_types.specs.declared.fields.Scalar.TheVariants.{Text as TextOf}
use Rattle.message_types.specs.declared.fields.Shape.{Shape}
use Rattle.message_types.specs.declared.fields.Shape.TheVariants.{Single, Member, Many as ManyOf, Map as MapOf}
use Rattle.message_types.specs.declared.messages.TypeId.{TypeId}
use Rattle.message_types.specs.declared.messages.Types.{Types}
use Rattle.wire_format.specs.FieldValues.{since, payloads, sized_of, sets_other, counted}
use Rattle.wire_records.specs.WholeRecords.{AndWhole, AreWhole}
use Rattle.wire_format.specs.WireFaults.{as_wire, Fault, Wire, NotUtf8, is_message, entry_fields, payload_fault, field_fault, first_fault}
use Rattle.std.specs.Option.{option_or}
use Rattle.wire_records.specs.RecordFaults.{and_fault, records_fault}
use Rattle.wire_records.specs.WireRecord.{Record, Payload, number, eight, sized, group, four, record_in, records, and_records}
use Rattle.wire_records.specs.declared.fault.WireKind.{WireKind}
use Rattle.wire_records.specs.declared.fault.WireKind.TheVariants.{TooDeep}
use Rattle.wire_records.specs.JoinedRecords.{whole_stable, records_joined, whole_joined}
use Rattle.base.proofs.ByteLemmas.{AllBytes}
use Rattle.wire_records.specs.RangedRecords.{IsRanged}
use Rattle.wire_format.proofs.validity.DecodedItemLemmas.{HasText}
use Rattle.base.proofs.EachLemmas.{each_joined}

-- ---- bytes without a fault

no_first : (f g : Option Fault) → option_or f g ≡ None → (f ≡ None) × (g ≡ None)
no_first None g h = (refl, h)
no_first (Some f) g h = absurd cc

module _ (check : ℕ → Record → Option Fault) (k : ℕ) where
  -- a record has no fault, somewhere
  abbrev pub IsFaultless : Record → Type 0
  IsFaultless r = (place : ℕ) × (check place r ≡ None)

  faultless_step : (place : ℕ) (bs : List ℕ) (x : Result Record (ℕ × WireKind)) → and_fault as_wire place (check place) x (λ skip. records_fault as_wire check k (place + 1) skip bs) ≡ None
      → ((skip : ℕ) → records_fault as_wire check k (place + 1) skip bs ≡ None → AllByRecursion IsFaultless (records k skip bs))
      → AllByRecursion IsFaultless (and_records x (λ skip. records k skip bs))
  faultless_step place bs (Err e) h ih = absurd cc
  faultless_step place bs (Ok r) h ih = let n = no_first (check place r) (records_fault as_wire check k (place + 1) (r.size - 1) bs) h in ((place, n.0), ih (r.size - 1) n.1)

  -- records of bytes without a fault have none
  pub all_faultless : (place skip : ℕ) (bytes : List ℕ) → records_fault as_wire check k place skip bytes ≡ None → AllByRecursion IsFaultless (records k skip bytes)
  all_faultless place skip [] h = tt
  all_faultless place (suc skip) (b ∷ bs) h = all_faultless (place + 1) skip bs h
  all_faultless place zero (b ∷ bs) h = faultless_step place bs (record_in k (b ∷ bs)) h (λ skip g. all_faultless (place + 1) skip bs g)

  whole_step : (place b : ℕ) (bs : List ℕ) (x : Result Record (ℕ × WireKind)) → record_in k (b ∷ bs) ≡ x → and_fault as_wire place (check place) x (λ skip. records_fault as_wire check k (place + 1) skip bs) ≡ None
      → ((skip : ℕ) → skip ≤ length bs → records_fault as_wire check k (place + 1) skip bs ≡ None → AreWhole k skip bs)
      → AndWhole x (λ skip. AreWhole k skip bs)
  whole_step place b bs (Err e) g h ih = absurd cc
  whole_step place b bs (Ok r) g h ih =
      let n = no_first (check place r) (records_fault as_wire check k (place + 1) (r.size - 1) bs) h in
      let s = whole_stable k (b ∷ bs) [] r g in
      ih (r.size - 1) (omega (arith, s.2)) n.1

  -- bytes without a fault are whole records
  pub all_whole : (place skip : ℕ) (bytes : List ℕ) → skip ≤ length bytes → records_fault as_wire check k place skip bytes ≡ None → AreWhole k skip bytes
  all_whole place skip [] l h = omega arith
  all_whole place (suc skip) (b ∷ bs) l h = all_whole (place + 1) skip bs (omega arith) h
  all_whole place zero (b ∷ bs) l h = whole_step place b bs (record_in k (b ∷ bs)) refl h (λ skip m g. all_whole (place + 1) skip bs m g)

-- bytes as a message with these fields, in one level more than `k`: whole records without a fault
pub record IsClean (k : ℕ) (types : Types) (fields : List Field) (bytes : List ℕ) : Type 0 where
  pub whole : AreWhole k 0 bytes
  pub faultless : AllByRecursion (IsFaultless (λ at r. field_fault (first_fault k types) types k (field_in fields r.number) at r) k) (records k 0 bytes)
  pub all : AllBytes bytes

-- bytes without a fault are clean, where they are bytes
pub clean_is : (k : ℕ) (types : Types) (fields : List Field) (place : ℕ) (bytes : List ℕ) → AllBytes bytes → first_fault (suc k) types fields place bytes ≡ None → IsClean k types fields bytes
unfolding first_fault
clean_is k types fields place bytes b h =
    let check : ℕ → Record → Option Fault = λ at r. field_fault (first_fault k types) types k (field_in fields r.number) at r in
    record { whole = all_whole check k place 0 bytes (omega arith) h; faultless = all_faultless check k place 0 bytes h; all = b }

clean_joined : (k : ℕ) (types : Types) (fields : List Field) (a b : List ℕ) → IsClean k types fields a → IsClean k types fields b → IsClean k types fields (a ++ b)
clean_joined k types fields a b x y =
    let P : Record → Type 0 = IsFaultless (λ at r. field_fault (first_fault k types) types k (field_in fields r.number) at r) k in
    record {
      whole = whole_joined k 0 a b x.whole y.whole;
      faultless = subst (AllByRecursion P) (sym (records_joined k 0 a b x.whole)) (each_joined P (records k 0 a) (records k 0 b) x.faultless y.faultless);
      all = each_joined (λ (n : ℕ). n < 256) a b x.all y.all;
    }

clean_none : (k : ℕ) (types : Types) (fields : List Field) → IsClean k types fields []
clean_none k types fields = record { whole = refl; faultless = tt; all = tt }

-- clean bytes, joined, are clean
pub clean_chunks : (k : ℕ) (types : Types) (fields : List Field) (cs : List (List ℕ)) → AllByRecursion (IsClean k types fields) cs → IsClean k types fields (flat_map (λ (q : List ℕ). q) cs)
clean_chunks k types fields [] h = clean_none k types fields
clean_chunks k types fields (c ∷ cs) h = subst (IsClean k types fields) (sym (flat_map-cons (λ (q : List ℕ). q) c cs)) (clean_joined k types fields c (flat_map (λ (q : List ℕ). q) cs) h.0 (clean_chunks k types fields cs h.1))

-- ---- payloads

-- a payload of a field of this shape and kind has no fault, somewhere, and is in range
pub record IsCleanPayload (k : ℕ) (types : Types) (shape : Shape) (kind : Kind) (p : Payload) : Type 0 where
  pub place : ℕ
  pub from : ℕ
  pub none : payload_fault (first_fault k types) types k shape kind place from p ≡ None
  pub ranged : IsRanged p

-- a choice of a fault or another that has none is of the other, which has none
pub not_chosen : (b : Bool) (f : Fault) (g : Option Fault) → cond b (Some f) g ≡ None → (b ≡ false) × (g ≡ None)
not_chosen true f g h = absurd cc
not_chosen false f g h = (refl, h)

-- a choice of no fault or one that has none passed the test
pub is_chosen : (b : Bool) (f : Fault) → cond b None (Some f) ≡ None → b ≡ true
is_chosen true f h = refl
is_chosen false f h = absurd cc

-- a text without a fault is UTF-8
pub text_is : (k : ℕ) (types : Types) (shape : Shape) (s : Scalar) (place from : ℕ) (p : Payload) → ((t : Scalar) → shape ≡ MapOf t → ⊥) → payload_fault (first_fault k types) types k shape (OneOf s) place from p ≡ None → HasText s p
text_is k types (MapOf t) s place from p no_map h = absurd (no_map t refl)
text_is k types Single TextOf place from (sized bs) no_map h = is_chosen (is_utf8 bs) (NotUtf8 place) h
text_is k types (Member j) TextOf place from (sized bs) no_map h = is_chosen (is_utf8 bs) (NotUtf8 place) h
text_is k types ManyOf TextOf place from (sized bs) no_map h = is_chosen (is_utf8 bs) (NotUtf8 place) h
text_is k types _ _ place from _ no_map h = tt

-- a message, one level further in
pub record IsDeep (k : ℕ) (types : Types) (fields : List Field) (bytes : List ℕ) : Type 0 where
  pub some : k ≡ 0 → ⊥
  pub none : (place : ℕ) × (first_fault k types fields place bytes ≡ None)
  pub all : AllBytes bytes

deep_by : (k : ℕ) (types : Types) (id : TypeId) (place from : ℕ) (bs : List ℕ) → AllBytes bs → cond (k == 0) (Some (Wire place TooDeep)) (first_fault k types (fields_of types id) from bs) ≡ None → IsDeep k types (fields_of types id) bs
deep_by k types id place from bs b h =
    let n = not_chosen (k == 0) _ (first_fault k types (fields_of types id) from bs) h in
    record { some = eqb-false k 0 n.0; none = (from, n.1); all = b }

-- the bytes of a clean payload of a message are clean one level further in
pub deep_is : (k : ℕ) (types : Types) (shape : Shape) (id : TypeId) (p : Payload) (bs : List ℕ) → ((t : Scalar) → shape ≡ MapOf t → ⊥) → IsCleanPayload k types shape (MessageOf id) p → sized_of p ≡ Some bs → IsDeep k types (fields_of types id) bs
deep_is k types shape id (sized cs) bs no_map c e = subst (IsDeep k types (fields_of types id)) (list_is cs bs e) (by shape no_map c.none)
  where
    list_is : (x y : List ℕ) → ◌≡◌ {A = Option (List ℕ)} (Some x) (Some y) → x ≡ y
    list_is x y e = cc

    by : (shape : Shape) → ((t : Scalar) → shape ≡ MapOf t → ⊥) → payload_fault (first_fault k types) types k shape (MessageOf id) c.place c.from (sized cs) ≡ None → IsDeep k types (fields_of types id) cs
    by (MapOf t) no_map h = absurd (no_map t refl)
    by Single no_map h = deep_by k types id c.place c.from cs c.ranged h
    by (Member j) no_map h = deep_by k types id c.place c.from cs c.ranged h
    by ManyOf no_map h = deep_by k types id c.place c.from cs c.ranged h
deep_is k types shape id (number n) bs no_map c e = absurd cc
deep_is k types shape id (eight n) bs no_map c e = absurd cc
deep_is k types shape id (four n) bs no_map c e = absurd cc
deep_is k types shape id group bs no_map c e = absurd cc

-- an entry of a map, one level further in
pub record IsDeepEntry (k : ℕ) (types : Types) (s : Scalar) (kind : Kind) (bytes : List ℕ) : Type 0 where
  pub room : (k == 0 || (k == 1 && is_message kind)) ≡ false
  pub none : (place : ℕ) × (first_fault k types (entry_fields s kind) place bytes ≡ None)
  pub all : AllBytes bytes

-- the bytes of a clean payload of a map are clean as an entry
pub deep_entry : (k : ℕ) (types : Types) (s : Scalar) (kind : Kind) (p : Payload) (bs : List ℕ) → IsCleanPayload k types (MapOf s) kind p → sized_of p ≡ Some bs → IsDeepEntry k types s kind bs
deep_entry k types s kind (sized cs) bs c e = subst (IsDeepEntry k types s kind) (list_is cs bs e) (by c.none)
  where
    list_is : (x y : List ℕ) → ◌≡◌ {A = Option (List ℕ)} (Some x) (Some y) → x ≡ y
    list_is x y e = cc

    by : payload_fault (first_fault k types) types k (MapOf s) kind c.place c.from (sized cs) ≡ None → IsDeepEntry k types s kind cs
    by h =
        let n = not_chosen (k == 0 || (k == 1 && is_message kind)) _ (first_fault k types (entry_fields s kind) c.from cs) h in
        record { room = n.0; none = (c.from, n.1); all = c.ranged }
deep_entry k types s kind (number n) bs c e = absurd cc
deep_entry k types s kind (eight n) bs c e = absurd cc
deep_entry k types s kind (four n) bs c e = absurd cc
deep_entry k types s kind group bs c e = absurd cc

-- ---- the payloads of a field

since_all : {A : Type 0} (P : A → Type 0) (p : A → Bool) (xs : List A) → AllByRecursion P xs → AllByRecursion P (since p xs)
since_all P p [] h = tt
since_all P p (x ∷ xs) h = by (list_any p (x ∷ xs)) (since_all P p xs h.1)
  where
    by : (b : Bool) → AllByRecursion P (since p xs) → AllByRecursion P (cond b (since p xs) (x ∷ xs))
    by true g = g
    by false g = h

-- what holds of each record holds of each that counts
pub counted_all : (P : Record → Type 0) (types : Types) (fields : List Field) (n : ℕ) (shape : Shape) (rs : List Record) → AllByRecursion P rs → AllByRecursion P (counted types fields n shape rs)
counted_all P types fields n Single rs h = h
counted_all P types fields n (Member k) rs h = since_all P (sets_other types fields k n) rs h
counted_all P types fields n ManyOf rs h = h
counted_all P types fields n (MapOf s) rs h = h

-- a record without a fault whose payload is in range
abbrev pub IsCleanRecord : ℕ → Types → List Field → Record → Type 0
IsCleanRecord k types fields r = IsFaultless (λ at r. field_fault (first_fault k types) types k (field_in fields r.number) at r) k r × IsRanged r.payload

-- the payloads of clean records are clean
pub clean_payloads : (k : ℕ) (types : Types) (fields : List Field) (n : ℕ) (f : Field) → field_in fields n ≡ Some f → (rs : List Record) → AllByRecursion (IsCleanRecord k types fields) rs → AllByRecursion (IsCleanPayload k types f.shape f.kind) (payloads n rs)
clean_payloads k types fields n f known [] h = tt
clean_payloads k types fields n f known (r ∷ rs) h = by (r.number == n) (eqb-true r.number n) (clean_payloads k types fields n f known rs h.1)
  where
    by : (b : Bool) → (b ≡ true → r.number ≡ n) → AllByRecursion (IsCleanPayload k types f.shape f.kind) (payloads n rs) → AllByRecursion (IsCleanPayload k types f.shape f.kind) (cond b (r.payload ∷ payloads n rs) (payloads n rs))
    by true p g =
        let at = h.0.0.0 in
        let e : field_in fields r.number ≡ Some f = ap (field_in fields) (p refl) ∙ known in
        let none : field_fault (first_fault k types) types k (Some f) at r ≡ None = ap (λ (o : Option Field). field_fault (first_fault k types) types k o at r) (sym e) ∙ h.0.0.1 in
        (record { place = at; from = at + r.head; none = none; ranged = h.0.1 }, g)
    by false p g = g
