-- Records of a message, and behind them others that undo nothing: the values merge.
use Rattle.std.proofs.Common.{◌≡◌, ◌≢◌, ◌==◌, ◌&&◌, ◌||◌, ◌+◌, ◌-◌, ℕ, zero, suc, Bool, true, false, cond, List, [], ◌∷◌, ◌++◌, Option, Some, None, Result, Ok, Err, refl, ap, ap₂, sym, ◌∙◌, subst, option_and_then, is_some}
use Rattle.std.specs.List.{AllByRecursion, list_any}
use Rattle.std.proofs.lemmas.Bool.{eqb-true, eqb-false, eq-eqb}
use Rattle.message_types.specs.Types.{field_in}
use Rattle.schema.specs.Validity.{oneof_of}
use Rattle.schema.specs.Value.{slot_in}
use Rattle.schema.specs.declared.value.Slot.{Slot}
use Rattle.schema.specs.declared.value.Value.{Value}
use Rattle.message_types.specs.declared.fields.Field.{Field}
use Rattle.message_types.specs.declared.fields.Kind.{Kind}
use Rattle.message_types.specs.declared.fields.Shape.{Shape}
use Rattle.message_types.specs.declared.fields.Shape.TheVariants.{Single, Member, Many as ManyOf, Map as MapOf}
use Rattle.message_types.specs.declared.messages.TypeId.{TypeId}
use Rattle.message_types.specs.declared.messages.Types.{Types}
use Rattle.wire_format.specs.FieldValues.{Inner, payloads, since, counts, in_oneof, counts_in, sets_other, counted, slot_by, slot_of, gather, meaning_within}
use Rattle.wire_records.specs.WholeRecords.{AndWhole, AreWhole}
use Rattle.wire_format.specs.GoodBytes.{IsGoodPayload, AreGoodRecords, AreGood}
use Rattle.wire_format.specs.KeptFields.{KeepsField, KeepsAll}
use Rattle.wire_format.specs.MergedValues.{merged_slot, is_member, has_other, left_slot, slot_merged, merged_within}
use Rattle.wire_format.specs.WireFaults.{as_wire, Fault}
use Rattle.std.specs.Option.{option_or}
use Rattle.wire_records.specs.RecordFaults.{and_fault, records_fault}
use Rattle.wire_records.specs.WireRecord.{Record, Payload, record_in}
use Rattle.wire_records.specs.declared.fault.WireKind.{WireKind}
use Rattle.wire_format.proofs.decoding.GoodLemmas.{payloads_good, counted_good}
use Rattle.wire_records.specs.JoinedRecords.{whole_stable}
use Rattle.wire_format.proofs.round_trip.FieldRecordLemmas.{eqb_apart, payloads_append}
use Rattle.wire_format.proofs.round_trip.RisingLemmas.{slot_in_gather, gather_all, gather_same}
use Rattle.wire_format.proofs.round_trip.MemberLemmas.{since_all, oneof_is}
use Rattle.wire_format.proofs.validity.DecodedOneofLemmas.{some_up, some_since, is_counted, member_is, member_counts, counts_sets}
use Rattle.wire_format.proofs.merging.MergeSlotLemmas.{Merges, slot_merges}

-- ---- faults of joined bytes

no_first : (f g : Option Fault) → option_or f g ≡ None → (f ≡ None) × (g ≡ None)
no_first None g h = (refl, h)
no_first (Some f) g h = absurd cc

module _ (check : ℕ → Record → Option Fault) (k : ℕ) (more : List ℕ) (none : (place : ℕ) → records_fault as_wire check k place 0 more ≡ None) where
  fault_step : (place b : ℕ) (bs : List ℕ) (x : Result Record (ℕ × WireKind)) → record_in k (b ∷ bs) ≡ x → AndWhole x (λ skip. AreWhole k skip bs) → and_fault as_wire place (check place) x (λ skip. records_fault as_wire check k (place + 1) skip bs) ≡ None
      → ((skip : ℕ) → AreWhole k skip bs → records_fault as_wire check k (place + 1) skip bs ≡ None → records_fault as_wire check k (place + 1) skip (bs ++ more) ≡ None)
      → and_fault as_wire place (check place) (record_in k (b ∷ (bs ++ more))) (λ skip. records_fault as_wire check k (place + 1) skip (bs ++ more)) ≡ None
  fault_step place b bs (Err e) g w h ih = absurd w
  fault_step place b bs (Ok r) g w h ih =
      let s = (whole_stable k (b ∷ bs) more r g).0 in
      let n = no_first (check place r) (records_fault as_wire check k (place + 1) (r.size - 1) bs) h in
      rw (s, n.0) (ih (r.size - 1) w n.1)

  -- where neither part has a fault, the whole has none
  pub joined_fault : (place skip : ℕ) (bytes : List ℕ) → AreWhole k skip bytes → records_fault as_wire check k place skip bytes ≡ None → records_fault as_wire check k place skip (bytes ++ more) ≡ None
  joined_fault place skip [] w h = rw w (none place)
  joined_fault place (suc skip) (b ∷ bs) w h = joined_fault (place + 1) skip bs w h
  joined_fault place zero (b ∷ bs) w h = fault_step place b bs (record_in k (b ∷ bs)) refl w h (λ skip v g. joined_fault (place + 1) skip bs v g)

-- ---- lists

or_right : (b c : Bool) → c ≡ true → (b || c) ≡ true
or_right true c h = refl
or_right false c h = h

or_left : (b c : Bool) → b ≡ true → (b || c) ≡ true
or_left b c h = rw h refl

some_both : {A : Type 0} (p : A → Bool) (xs ys : List A) → list_any p (xs ++ ys) ≡ (list_any p xs || list_any p ys)
some_both p [] ys = refl
some_both p (x ∷ xs) ys = ap (λ (b : Bool). p x || b) (some_both p xs ys) ∙ or_twice (p x) (list_any p xs) (list_any p ys)
  where
    or_twice : (a b c : Bool) → (a || (b || c)) ≡ ((a || b) || c)
    or_twice true b c = refl
    or_twice false b c = refl

none_of : {A : Type 0} (p : A → Bool) (xs : List A) → AllByRecursion (λ (x : A). p x ≡ false) xs → list_any p xs ≡ false
none_of p [] h = refl
none_of p (x ∷ xs) h = rw (h.0, none_of p xs h.1) refl

-- behind the last that passes stand all of a further list of which none does
since_both : {A : Type 0} (p : A → Bool) (xs ys : List A) → AllByRecursion (λ (y : A). p y ≡ false) ys → since p (xs ++ ys) ≡ since p xs ++ ys
since_both p [] ys h = since_all p ys h
since_both p (x ∷ xs) ys h =
    ap (λ (b : Bool). cond b (since p (xs ++ ys)) (x ∷ (xs ++ ys))) (some_both p (x ∷ xs) ys ∙ ap (λ (b : Bool). list_any p (x ∷ xs) || b) (none_of p ys h) ∙ or_false (list_any p (x ∷ xs)))
    ∙ by (list_any p (x ∷ xs)) (since_both p xs ys h)
  where
    or_false : (b : Bool) → (b || false) ≡ b
    or_false true = refl
    or_false false = refl

    by : (b : Bool) → since p (xs ++ ys) ≡ since p xs ++ ys → cond b (since p (xs ++ ys)) (x ∷ (xs ++ ys)) ≡ cond b (since p xs) (x ∷ xs) ++ ys
    by true ih = ih
    by false ih = refl

-- where one of a further list passes, none of those before stands behind it
since_after : {A : Type 0} (p : A → Bool) (xs ys : List A) → list_any p ys ≡ true → since p (xs ++ ys) ≡ since p ys
since_after p [] ys h = refl
since_after p (x ∷ xs) ys h =
    let some : list_any p (x ∷ (xs ++ ys)) ≡ true = some_both p (x ∷ xs) ys ∙ or_right (list_any p (x ∷ xs)) (list_any p ys) h in
    rw some (since_after p xs ys h)

-- ---- other members of a oneof

not_both : (b : Bool) → b ≡ false → b ≡ true → ⊥
not_both b f t = absurd (let c : true ≡ false = sym t ∙ f in cc)

member_some : (k : ℕ) (o : Option Field) → is_member k o ≡ true → oneof_of o ≡ Some k
member_some k None h = absurd cc
member_some k (Some f) h = by f.shape refl h
  where
    by : (shape : Shape) → f.shape ≡ shape → in_oneof k shape ≡ true → oneof_of (Some f) ≡ Some k
    by (Member j) e h = oneof_is f (Member j) e ∙ ap (λ (x : ℕ). Some x) (eqb-true j k h)
    by Single e h = absurd cc
    by ManyOf e h = absurd cc
    by (MapOf s) e h = absurd cc

-- a slot of another member is one
other_found : (fields : List Field) (k q m : ℕ) (s : Slot) (es : List (ℕ × Slot)) → slot_in es m ≡ Some s → m ≢ q → is_member k (field_in fields m) ≡ true → has_other fields k q es ≡ true
other_found fields k q m s [] at ne inside = absurd cc
other_found fields k q m s (e ∷ es) at ne inside = by (e.0 == m) (eqb-true e.0 m) at (λ d. other_found fields k q m s es d ne inside)
  where
    by : (b : Bool) → (b ≡ true → e.0 ≡ m) → cond b (Some e.1) (slot_in es m) ≡ Some s → (slot_in es m ≡ Some s → has_other fields k q es ≡ true) → (cond (e.0 == q) false (is_member k (field_in fields e.0)) || has_other fields k q es) ≡ true
    by true p at ih =
        let apart : (e.0 == q) ≡ false = eqb_apart e.0 q (λ z. ne (sym (p refl) ∙ z)) in
        or_left (cond (e.0 == q) false (is_member k (field_in fields e.0))) (has_other fields k q es) (rw apart (ap (λ (n : ℕ). is_member k (field_in fields n)) (p refl) ∙ inside))
    by false p at ih = or_right (cond (e.0 == q) false (is_member k (field_in fields e.0))) (has_other fields k q es) (ih at)

-- where the payload of a record counts for a kind, one of its number does
one_counts : (types : Types) (rs : List Record) → AllByRecursion (λ (r : Record). (kind : Kind) → counts types kind r.payload ≡ true → list_any (counts types kind) (payloads r.number rs) ≡ true) rs
one_counts types [] = tt
one_counts types (x ∷ xs) = (
  λ kind h. let same : (x.number == x.number) ≡ true = eq-eqb x.number x.number refl in rw same (or_left (counts types kind x.payload) (list_any (counts types kind) (payloads x.number xs)) h),
  behind xs (one_counts types xs),
)
  where
    by : (b : Bool) (kind : Kind) (n : ℕ) → list_any (counts types kind) (payloads n xs) ≡ true → list_any (counts types kind) (cond b (x.payload ∷ payloads n xs) (payloads n xs)) ≡ true
    by true kind n h = or_right (counts types kind x.payload) (list_any (counts types kind) (payloads n xs)) h
    by false kind n h = h

    behind : (rs : List Record) → AllByRecursion (λ (r : Record). (kind : Kind) → counts types kind r.payload ≡ true → list_any (counts types kind) (payloads r.number xs) ≡ true) rs
        → AllByRecursion (λ (r : Record). (kind : Kind) → counts types kind r.payload ≡ true → list_any (counts types kind) (payloads r.number (x ∷ xs)) ≡ true) rs
    behind [] h = tt
    behind (r ∷ rs) h = ((λ kind c. by (x.number == r.number) kind r.number (h.0 kind c)), behind rs h.1)

-- ---- a message, one level further in

module _ (k : ℕ) (types : Types) (merges : Merges k types) (fields : List Field) (rs more : List Record) (good : AreGoodRecords (AreGood k types) types fields rs) (more_good : AreGoodRecords (AreGood k types) types fields more) where
  abbrev meaning : Inner
  meaning = meaning_within k types

  abbrev merge : TypeId → Value → Value → Value
  merge = merged_within k types

  abbrev slots_before : List (ℕ × Slot)
  slots_before = gather (slot_of meaning types fields rs) fields

  abbrev slots_behind : List (ℕ × Slot)
  slots_behind = gather (slot_of meaning types fields more) fields

  abbrev KeepEach : Type 0
  KeepEach = (n : ℕ) (f : Field) → field_in fields n ≡ Some f → KeepsField (KeepsAll k types) types f.shape f.kind (payloads n more) (slot_of meaning types fields more n)

  -- what is gathered has at the number of a field the slot that records say
  gathered_at : (xs : List Record) (q : ℕ) (f : Field) → field_in fields q ≡ Some f
      → slot_in (gather (slot_of meaning types fields xs) fields) q ≡ slot_by meaning types f.presence f.shape f.kind (payloads q (counted types fields q f.shape xs))
  gathered_at xs q f known =
      slot_in_gather (slot_of meaning types fields xs) fields q
      ∙ ap (λ (o : Option Field). cond (is_some o) (option_and_then (λ (g : Field). slot_by meaning types g.presence g.shape g.kind (payloads q (counted types fields q g.shape xs))) o) None) known

  slot_known : (xs : List Record) (q : ℕ) (f : Field) → field_in fields q ≡ Some f → slot_of meaning types fields xs q ≡ slot_by meaning types f.presence f.shape f.kind (payloads q (counted types fields q f.shape xs))
  slot_known xs q f known = ap (option_and_then (λ (g : Field). slot_by meaning types g.presence g.shape g.kind (payloads q (counted types fields q g.shape xs)))) known

  -- ---- where there is another member, a record sets it

  others_set : (j q : ℕ) (es : List (ℕ × Slot)) → AllByRecursion (λ (e : ℕ × Slot). slot_of meaning types fields more e.0 ≡ Some e.1) es → has_other fields j q es ≡ true → list_any (sets_other types fields j q) more ≡ true
  others_set j q [] has other = absurd cc
  others_set j q (e ∷ es) has other = by (e.0 == q) (eqb-false e.0 q) (is_member j (field_in fields e.0)) refl other (others_set j q es has.1)
    where
      sets : e.0 ≢ q → is_member j (field_in fields e.0) ≡ true → list_any (sets_other types fields j q) more ≡ true
      sets ne inside =
          let m = member_is meaning types fields more j e.0 (field_in fields e.0) refl (member_some j (field_in fields e.0) inside) in
          let one = member_counts meaning types fields more j e.0 m e.1 has.0 in
          some_up (is_counted meaning types e.0 m.field.kind) (sets_other types fields j q) (counts_sets meaning types fields more j e.0 q m ne) more
          (some_since (sets_other types fields j e.0) (is_counted meaning types e.0 m.field.kind) more one)

      by : (b : Bool) → (b ≡ false → e.0 ≢ q) → (c : Bool) → is_member j (field_in fields e.0) ≡ c → (cond b false c || has_other fields j q es) ≡ true → (has_other fields j q es ≡ true → list_any (sets_other types fields j q) more ≡ true)
          → list_any (sets_other types fields j q) more ≡ true
      by true p c m other ih = ih other
      by false p true m other ih = sets (p refl) m
      by false p false m other ih = ih other

  -- ---- where there is none, no record does

  kept_member : (j : ℕ) (shape : Shape) (kind : Kind) (ps : List Payload) (o : Option Slot) → KeepsField (KeepsAll k types) types shape kind ps o → in_oneof j shape ≡ true → list_any (counts types kind) ps ≡ true → o ≢ None
  kept_member j (Member i) kind ps o keep inside = keep.0
  kept_member j Single kind ps o keep inside = absurd cc
  kept_member j ManyOf kind ps o keep inside = absurd cc
  kept_member j (MapOf s) kind ps o keep inside = absurd cc

  none_sets : (keep : KeepEach) (j q : ℕ) → has_other fields j q slots_behind ≡ false → (xs : List Record) → AllByRecursion (λ (r : Record). (kind : Kind) → counts types kind r.payload ≡ true → list_any (counts types kind) (payloads r.number more) ≡ true) xs
      → AllByRecursion (λ (r : Record). sets_other types fields j q r ≡ false) xs
  none_sets keep j q none [] h = tt
  none_sets keep j q none (r ∷ xs) h = (by (r.number == q) (eqb-false r.number q), none_sets keep j q none xs h.1)
    where
      clash : (g : Field) → field_in fields r.number ≡ Some g → r.number ≢ q → in_oneof j g.shape ≡ true → counts types g.kind r.payload ≡ true → (o : Option Slot) → slot_of meaning types fields more r.number ≡ o → o ≢ None → ⊥
      clash g known ne inside c None e some = some refl
      clash g known ne inside c (Some s) e some =
          let at : slot_in slots_behind r.number ≡ Some s = gathered_at more r.number g known ∙ sym (slot_known more r.number g known) ∙ e in
          not_both (has_other fields j q slots_behind) none (other_found fields j q r.number s slots_behind at ne (ap (is_member j) known ∙ inside))

      of_field : (g : Field) → field_in fields r.number ≡ Some g → r.number ≢ q → (b c : Bool) → in_oneof j g.shape ≡ b → counts types g.kind r.payload ≡ c → (b && c) ≡ false
      of_field g known ne true true inside c =
          absurd (clash g known ne inside c (slot_of meaning types fields more r.number) refl (kept_member j g.shape g.kind (payloads r.number more) (slot_of meaning types fields more r.number) (keep r.number g known) inside (h.0 g.kind c)))
      of_field g known ne true false inside c = refl
      of_field g known ne false d inside c = refl

      at_field : (o : Option Field) → field_in fields r.number ≡ o → r.number ≢ q → counts_in types j o r.payload ≡ false
      at_field None known ne = refl
      at_field (Some g) known ne = of_field g known ne (in_oneof j g.shape) (counts types g.kind r.payload) refl refl

      by : (b : Bool) → (b ≡ false → r.number ≢ q) → cond b false (counts_in types j (field_in fields r.number) r.payload) ≡ false
      by true p = refl
      by false p = at_field (field_in fields r.number) refl (p refl)

  -- ---- all numbers

  counted_before : (q : ℕ) (f : Field) → field_in fields q ≡ Some f → AllByRecursion (IsGoodPayload (AreGood k types) types f.shape f.kind) (payloads q (counted types fields q f.shape rs))
  counted_before q f known = payloads_good (AreGood k types) types fields q f known (counted types fields q f.shape rs) _ (counted_good (AreGood k types) types fields q f.shape rs good) refl

  all_behind : (q : ℕ) (f : Field) → field_in fields q ≡ Some f → AllByRecursion (IsGoodPayload (AreGood k types) types f.shape f.kind) (payloads q more)
  all_behind q f known = payloads_good (AreGood k types) types fields q f known more _ more_good refl

  module _ (keep : KeepEach) (q : ℕ) (f : Field) (known : field_in fields q ≡ Some f) where
    abbrev slot : List Payload → Option Slot
    slot ps = slot_by meaning types f.presence f.shape f.kind ps

    -- where all records behind count, and those before count as ever
    all_counted : payloads q (counted types fields q f.shape more) ≡ payloads q more → payloads q (counted types fields q f.shape (rs ++ more)) ≡ payloads q (counted types fields q f.shape rs) ++ payloads q more
        → slot (payloads q (counted types fields q f.shape (rs ++ more))) ≡ merged_slot merge f.kind (slot (payloads q (counted types fields q f.shape rs))) (slot (payloads q (counted types fields q f.shape more)))
    all_counted same all =
        let kept : KeepsField (KeepsAll k types) types f.shape f.kind (payloads q more) (slot (payloads q more)) =
        subst (KeepsField (KeepsAll k types) types f.shape f.kind (payloads q more)) (slot_known more q f known ∙ ap slot same) (keep q f known) in
        ap slot all
        ∙ slot_merges k types merges f.presence f.shape f.kind (payloads q (counted types fields q f.shape rs)) (payloads q more) (counted_before q f known) (all_behind q f known) kept
        ∙ ap (λ (o : Option Slot). merged_slot merge f.kind (slot (payloads q (counted types fields q f.shape rs))) o) (ap slot (sym same))

    member_merged : (j : ℕ) → f.shape ≡ Member j → (b : Bool) → has_other fields j q slots_behind ≡ b
        → slot (payloads q (counted types fields q f.shape (rs ++ more)))
        ≡ merged_slot merge f.kind (cond b None (slot (payloads q (counted types fields q f.shape rs)))) (slot (payloads q (counted types fields q f.shape more)))
    member_merged j e false none =
        let sets = none_sets keep j q none more (one_counts types more) in
        all_counted
        (ap (λ (x : Shape). payloads q (counted types fields q x more)) e ∙ ap (payloads q) (since_all (sets_other types fields j q) more sets))
        (ap (λ (x : Shape). payloads q (counted types fields q x (rs ++ more))) e
        ∙ ap (payloads q) (since_both (sets_other types fields j q) rs more sets)
        ∙ payloads_append q (since (sets_other types fields j q) rs) more
        ∙ ap (λ (x : Shape). payloads q (counted types fields q x rs) ++ payloads q more) (sym e))
    member_merged j e true other =
        let some = others_set j q slots_behind (gather_all (λ (e : ℕ × Slot). slot_of meaning types fields more e.0 ≡ Some e.1) (slot_of meaning types fields more) fields (λ n s h. h)) other in
        ap slot (ap (λ (x : Shape). payloads q (counted types fields q x (rs ++ more))) e ∙ ap (payloads q) (since_after (sets_other types fields j q) rs more some) ∙ ap (λ (x : Shape). payloads q (counted types fields q x more)) (sym e))

    field_merged : slot (payloads q (counted types fields q f.shape (rs ++ more)))
        ≡ merged_slot merge f.kind (left_slot fields q f.shape slots_behind (slot (payloads q (counted types fields q f.shape rs)))) (slot (payloads q (counted types fields q f.shape more)))
    field_merged = by f.shape refl
      where
        plain : (shape : Shape) → f.shape ≡ shape → ((xs : List Record) → counted types fields q shape xs ≡ xs)
            → slot (payloads q (counted types fields q f.shape (rs ++ more))) ≡ merged_slot merge f.kind (slot (payloads q (counted types fields q f.shape rs))) (slot (payloads q (counted types fields q f.shape more)))
        plain shape e all =
            let here : (xs : List Record) → counted types fields q f.shape xs ≡ xs = λ xs. ap (λ (x : Shape). counted types fields q x xs) e ∙ all xs in
            all_counted (ap (payloads q) (here more)) (ap (payloads q) (here (rs ++ more)) ∙ payloads_append q rs more ∙ ap (λ (xs : List Record). payloads q xs ++ payloads q more) (sym (here rs)))

        by : (shape : Shape) → f.shape ≡ shape
            → slot (payloads q (counted types fields q f.shape (rs ++ more)))
            ≡ merged_slot merge f.kind (left_slot fields q shape slots_behind (slot (payloads q (counted types fields q f.shape rs)))) (slot (payloads q (counted types fields q f.shape more)))
        by Single e = plain Single e (λ xs. refl)
        by ManyOf e = plain ManyOf e (λ xs. refl)
        by (MapOf s) e = plain (MapOf s) e (λ xs. refl)
        by (Member j) e = member_merged j e (has_other fields j q slots_behind) refl

  -- the slots of all records are those of both, merged
  pub slots_merge : KeepEach → gather (slot_of meaning types fields (rs ++ more)) fields ≡ gather (slot_merged merge fields slots_before slots_behind) fields
  slots_merge keep = gather_same (slot_of meaning types fields (rs ++ more)) (slot_merged merge fields slots_before slots_behind) fields (λ q. each q (field_in fields q) refl)
    where
      each : (q : ℕ) (o : Option Field) → field_in fields q ≡ o
          → option_and_then (λ (f : Field). slot_by meaning types f.presence f.shape f.kind (payloads q (counted types fields q f.shape (rs ++ more)))) o
          ≡ option_and_then (λ (f : Field). merged_slot merge f.kind (left_slot fields q f.shape slots_behind (slot_in slots_before q)) (slot_in slots_behind q)) o
      each q None e = refl
      each q (Some f) e =
          field_merged keep q f e
          ∙ ap₂ (λ (x y : Option Slot). merged_slot merge f.kind (left_slot fields q f.shape slots_behind x) y) (sym (gathered_at rs q f e)) (sym (gathered_at more q f e))
