-- Bytes that are whole records of one field number, told by their payloads.
use Rattle.std.proofs.Common.{◌≡◌, ◌≢◌, ◌+◌, ◌-◌, ◌^◌, ◌≤◌, ◌<◌, ◌==◌, ℕ, Bool, true, false, cond, List, [], ◌∷◌, ◌++◌, length, map, Ok, arith, refl, ap, ap₂, sym, ◌∙◌, subst, length-append, flat_map}
use Rattle.std.specs.List.{AllByRecursion}
use Rattle.std.proofs.lemmas.Bool.{eqb-true, eq-eqb}
use Rattle.std.proofs.lemmas.List.Concat.{flat_map-cons}
use Rattle.wire_format.specs.FieldValues.{payloads}
use Rattle.wire_records.specs.WholeRecords.{AreWhole}
use Rattle.wire_records.specs.WireRecord.{IsPlainWire, Record, Payload, payload_in, record_in, records}
use Rattle.wire_records.specs.RecordBytes.{tag}
use Rattle.std.proofs.lemmas.List.{drop_all}
use Rattle.wire_records.specs.RecordSteps.{no_record, records_begin}
use Rattle.wire_records.specs.JoinedRecords.{whole_stable, records_joined, whole_joined}
use Rattle.wire_records.specs.WrittenRecords.{record_of, piece_of, record_read}
use Rattle.base.proofs.EachLemmas.{each_joined}

-- bytes are whole records of one number with these payloads
pub record AreRecordsOf (k n : ℕ) (bytes : List ℕ) (ps : List Payload) : Type 0 where
  pub found : List Record
  pub whole : AreWhole k 0 bytes
  pub are : records k 0 bytes ≡ found
  pub numbers : AllByRecursion (λ (r : Record). r.number ≡ n) found
  pub payloads : map (λ (r : Record). r.payload) found ≡ ps

skip_all : (k : ℕ) (bs : List ℕ) → AreWhole k (length bs) bs
skip_all k [] = refl
skip_all k (b ∷ bs) = skip_all k bs

-- a record that takes all bytes is whole
whole_one : (k : ℕ) (bytes : List ℕ) (r : Record) → record_in k bytes ≡ Ok r → r.size ≡ length bytes → AreWhole k 0 bytes
whole_one k [] r h e = absurd (no_record k r h)
whole_one k (b ∷ bs) r h e =
    let rest : r.size - 1 ≡ length bs = omega arith in
    rw (h, rest) (skip_all k bs)

-- no bytes are no records
pub records_none : (k n : ℕ) → AreRecordsOf k n [] []
records_none k n = record { found = []; whole = refl; are = refl; numbers = tt; payloads = refl }

-- one record
pub records_one : (k n w : ℕ) (body : List ℕ) (p : Payload) → 0 < n → n < 2 ^ 29 → IsPlainWire w → payload_in w body ≡ Ok (piece_of p body) → AreRecordsOf k n (tag n w ++ body) (p ∷ [])
records_one k n w body p some small plain h =
    let r = record_of n w p body in
    let read : record_in k (tag n w ++ body) ≡ Ok r = record_read k n w body p some small plain h in
    let all : length (tag n w) + length body ≡ length (tag n w ++ body) = sym (length-append (tag n w) body) in
    let size : 1 ≤ r.size = (whole_stable k (tag n w ++ body) [] r read).1 in
    record {
      found = r ∷ [];
      whole = whole_one k (tag n w ++ body) r read all;
      are = records_begin k (tag n w ++ body) r size read ∙ ap (λ (bs : List ℕ). r ∷ records k 0 bs) (drop_all (length (tag n w) + length body) (tag n w ++ body) (omega arith));
      numbers = (refl, tt);
      payloads = refl;
    }

payload_in_order : (xs ys : List Record) → map (λ (r : Record). r.payload) (xs ++ ys) ≡ map (λ (r : Record). r.payload) xs ++ map (λ (r : Record). r.payload) ys
payload_in_order [] ys = refl
payload_in_order (x ∷ xs) ys = ap (λ (ps : List Payload). x.payload ∷ ps) (payload_in_order xs ys)

-- records, and more behind them
pub records_both : (k n : ℕ) (a b : List ℕ) (ps qs : List Payload) → AreRecordsOf k n a ps → AreRecordsOf k n b qs → AreRecordsOf k n (a ++ b) (ps ++ qs)
records_both k n a b ps qs x y = record {
  found = x.found ++ y.found;
  whole = whole_joined k 0 a b x.whole y.whole;
  are = records_joined k 0 a b x.whole ∙ ap₂ (λ (rs ss : List Record). rs ++ ss) x.are y.are;
  numbers = each_joined (λ (r : Record). r.number ≡ n) x.found y.found x.numbers y.numbers;
  payloads = payload_in_order x.found y.found ∙ ap₂ (λ (us vs : List Payload). us ++ vs) x.payloads y.payloads;
}

-- one record an item
pub records_each : {A : Type 0} (k n : ℕ) (f : A → List ℕ) (p : A → Payload) (xs : List A) → AllByRecursion (λ (x : A). AreRecordsOf k n (f x) (p x ∷ [])) xs → AreRecordsOf k n (flat_map f xs) (map p xs)
records_each k n f p [] h = records_none k n
records_each k n f p (x ∷ xs) h =
    subst (λ (bs : List ℕ). AreRecordsOf k n bs (p x ∷ map p xs)) (sym (flat_map-cons f x xs)) (records_both k n (f x) (flat_map f xs) (p x ∷ []) (map p xs) h.0 (records_each k n f p xs h.1))

-- ---- the payloads of a number

-- numbers that differ do not pass the test of equality
pub eqb_apart : (m n : ℕ) → m ≢ n → (m == n) ≡ false
eqb_apart m n h = by (m == n) (eqb-true m n)
  where
    by : (b : Bool) → (b ≡ true → m ≡ n) → b ≡ false
    by true p = absurd (h (p refl))
    by false p = refl

choice_append : (b : Bool) (p : Payload) (xs ys : List Payload) → cond b (p ∷ (xs ++ ys)) (xs ++ ys) ≡ cond b (p ∷ xs) xs ++ ys
choice_append true p xs ys = refl
choice_append false p xs ys = refl

-- the payloads of joined records are those of both, joined
pub payloads_append : (n : ℕ) (xs ys : List Record) → payloads n (xs ++ ys) ≡ payloads n xs ++ payloads n ys
payloads_append n [] ys = refl
payloads_append n (x ∷ xs) ys =
    ap (λ (ps : List Payload). cond (x.number == n) (x.payload ∷ ps) ps) (payloads_append n xs ys)
    ∙ choice_append (x.number == n) x.payload (payloads n xs) (payloads n ys)

-- records of this number
pub payloads_same : (n : ℕ) (rs : List Record) → AllByRecursion (λ (r : Record). r.number ≡ n) rs → payloads n rs ≡ map (λ (r : Record). r.payload) rs
payloads_same n [] h = refl
payloads_same n (r ∷ rs) h = rw (eq-eqb r.number n h.0) (ap (λ (ps : List Payload). r.payload ∷ ps) (payloads_same n rs h.1))

-- records of another
pub payloads_other : (m n : ℕ) (rs : List Record) → m ≢ n → AllByRecursion (λ (r : Record). r.number ≡ m) rs → payloads n rs ≡ []
payloads_other m n [] d h = refl
payloads_other m n (r ∷ rs) d h = rw (eqb_apart r.number n (λ e. d (sym h.0 ∙ e))) (payloads_other m n rs d h.1)

-- what holds of the payloads holds of their records
pub payloads_all : (P : Payload → Type 0) (rs : List Record) (ps : List Payload) → map (λ (r : Record). r.payload) rs ≡ ps → AllByRecursion P ps → AllByRecursion (λ (r : Record). P r.payload) rs
payloads_all P rs ps e h = each rs (subst (AllByRecursion P) (sym e) h)
  where
    each : (rs : List Record) → AllByRecursion P (map (λ (r : Record). r.payload) rs) → AllByRecursion (λ (r : Record). P r.payload) rs
    each [] h = tt
    each (r ∷ rs) h = (h.0, each rs h.1)
