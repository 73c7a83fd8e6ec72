-- A whole record stays one, whatever follows: so the records of bytes that are joined are those of each, joined.
use Rattle.std.proofs.Common.{◌≡◌, ◌+◌, ◌-◌, ◌/◌, ◌%◌, ◌^◌, ◌≤◌, ◌==◌, ◌&&◌, ℕ, zero, suc, Bool, true, false, cond, List, [], ◌∷◌, ◌++◌, length, take, drop, Option, Some, None, Result, Ok, Err, nat_lt, arith, refl, ap, sym, ◌∙◌, subst, length-append, length-drop}
use Rattle.std.specs.Int.{w32, w64, from_le_bytes}
use Rattle.std.proofs.lemmas.Bool.{ltb-false, le-ltb}
use Rattle.std.proofs.lemmas.List.{take-append-le, drop-append-le}
use Rattle.wire_records.specs.Outcome.{◌>>=◌}
use Rattle.base.proofs.GroupLemmas.{groups_stable}
use Rattle.base.proofs.GroupSizeLemmas.{groups_within}
use Rattle.base.specs.Base128.{groups_in}
use Rattle.base.specs.declared.base128.GroupFault.{GroupFault}
use Rattle.wire_records.specs.Varint.{low_bits, number_in}
use Rattle.wire_records.specs.declared.fault.WireKind.{WireKind}
use Rattle.wire_records.specs.declared.fault.WireKind.TheVariants.{Short, BadTag, BadGroup}
use Rattle.wire_records.specs.WireRecord.{Tag, is_tag, tag_in, number, eight, sized, group, four, Piece, sized_in, payload_in, Record, Stop, at_front, onward, record_with, end_of, group_step, group_rest, group_in, whole, record_in, and_records, records}
use Rattle.wire_records.specs.WholeRecords.{AndWhole, AreWhole}

-- what two readings give, the first gives the second
pub bind_ok : {A B E : Type 0} (r : Result A E) (f : A → Result B E) (y : B) → (r >>= f) ≡ Ok y → (x : A) × (r ≡ Ok x) × (f x ≡ Ok y)
bind_ok (Ok x) f y e = (x, refl, e)
bind_ok (Err d) f y e = absurd cc

-- what a test lets by is that value
pub guard_ok : {A E : Type 0} (b : Bool) (d : E) (x y : A) → cond b (Err d) (Ok x) ≡ Ok y → (b ≡ false) × (x ≡ y)
guard_ok true d x y e = absurd cc
guard_ok false d x y e = (refl, cc)

test_ok : {A E : Type 0} (b : Bool) (d : E) (x y : A) → cond b (Ok x) (Err d) ≡ Ok y → (b ≡ true) × (x ≡ y)
test_ok true d x y e = (refl, cc)
test_ok false d x y e = absurd cc

-- ---- varints

-- a varint that is read is a number in groups
pub low_ok : (x : Result (ℕ × ℕ) GroupFault) (r : ℕ × ℕ) → low_bits x ≡ Ok r → (q : ℕ × ℕ) × (x ≡ Ok q) × ((q.0 % 2 ^ 64, q.1) ≡ r)
low_ok (Ok q) r h = (q, refl, cc)
low_ok (Err e) r h = absurd cc

-- a varint that is read is the same, whatever comes behind it
pub number_stable : (bytes more : List ℕ) (r : ℕ × ℕ) → number_in bytes ≡ Ok r → (number_in (bytes ++ more) ≡ Ok r) × (1 ≤ r.1) × (r.1 ≤ length bytes)
unfolding number_in
number_stable bytes more r h =
    let a = low_ok (groups_in 10 bytes) r h in
    let w = groups_within 10 bytes a.0 a.1 in (
      ap low_bits (groups_stable 10 bytes more a.0 a.1) ∙ ap (λ (q : ℕ × ℕ). Ok q) a.2,
      subst (λ (q : ℕ × ℕ). 1 ≤ q.1) a.2 w.0,
      subst (λ (q : ℕ × ℕ). q.1 ≤ length bytes) a.2 w.1,
    )

-- ---- tags

-- a tag that is read stays, whatever comes behind it
pub record TagStays (bytes more : List ℕ) (t : Tag) : Type 0 where
  pub same : tag_in (bytes ++ more) ≡ Ok t
  pub some : 1 ≤ t.len
  pub within : t.len ≤ length bytes

-- a tag that is read is the same, whatever comes behind it
pub tag_stable : (bytes more : List ℕ) (t : Tag) → tag_in bytes ≡ Ok t → TagStays bytes more t
unfolding tag_in
tag_stable bytes more t h =
    let f : ℕ × ℕ → Result Tag WireKind = λ n. cond (is_tag n.0) (Ok (record { number = n.0 / 8; wire = n.0 % 8; len = n.1 })) (Err BadTag) in
    let a = bind_ok (number_in bytes) f t h in
    let s = number_stable bytes more a.0 a.1 in
    let g = test_ok (is_tag a.0.0) BadTag (record { number = a.0.0 / 8; wire = a.0.0 % 8; len = a.0.1 }) t a.2 in
    record {
      same = rw s.0 a.2;
      some = subst (λ (q : Tag). 1 ≤ q.len) g.1 s.1;
      within = subst (λ (q : Tag). q.len ≤ length bytes) g.1 s.2;
    }

-- ---- payloads

fixed_stable : (n : ℕ) (make : List ℕ → Piece) (rest more : List ℕ) (p : Piece) → ((bs : List ℕ) → (make bs).to ≡ n) → cond (nat_lt (length rest) n) (Err Short) (Ok (make (take n rest))) ≡ Ok p
    → (cond (nat_lt (length (rest ++ more)) n) (Err Short) (Ok (make (take n (rest ++ more)))) ≡ Ok p) × (p.to ≤ length rest)
fixed_stable n make rest more p to h =
    let g = guard_ok (nat_lt (length rest) n) Short (make (take n rest)) p h in
    let long : n ≤ length rest = ltb-false (length rest) n g.0 in
    let longer : nat_lt (length (rest ++ more)) n ≡ false = le-ltb (length (rest ++ more)) n (omega (arith, length-append rest more)) in
    (rw (longer, take-append-le) (ap (λ (q : Piece). Ok q) g.1), subst (λ (q : Piece). q.to ≤ length rest) g.1 (rw to long))

abbrev sized_at : List ℕ → ℕ × ℕ → Result Piece WireKind
sized_at rest n = sized_in n.0 n.1 (drop n.1 rest)

sized_stable : (rest more : List ℕ) (p : Piece) → (number_in rest >>= sized_at rest) ≡ Ok p → ((number_in (rest ++ more) >>= sized_at (rest ++ more)) ≡ Ok p) × (p.to ≤ length rest)
sized_stable rest more p h =
    let a = bind_ok (number_in rest) (sized_at rest) p h in
    let s = number_stable rest more a.0 a.1 in
    let m = a.0.0 in
    let behind = drop a.0.1 rest in
    let g = guard_ok (nat_lt (length behind) m) Short (record { payload = sized (take m behind); from = a.0.1; to = a.0.1 + m }) p a.2 in
    let long : m ≤ length behind = ltb-false (length behind) m g.0 in
    let at : a.0.1 ≤ length rest = s.2 in
    let all : length behind ≡ length rest - a.0.1 = length-drop a.0.1 rest in
    let longer : nat_lt (length (behind ++ more)) m ≡ false = le-ltb _ _ (omega (arith, length-append behind more)) in
    (rw (s.0, drop-append-le, longer, take-append-le) (ap (λ (q : Piece). Ok q) g.1), subst (λ (q : Piece). q.to ≤ length rest) g.1 (omega arith))

varint_piece : (rest more : List ℕ) (p : Piece) → (number_in rest >>= λ n. Ok (record { payload = number n.0; from = 0; to = n.1 })) ≡ Ok p
    → ((number_in (rest ++ more) >>= λ n. Ok (record { payload = number n.0; from = 0; to = n.1 })) ≡ Ok p) × (p.to ≤ length rest)
varint_piece rest more p h =
    let f : ℕ × ℕ → Result Piece WireKind = λ n. Ok (record { payload = number n.0; from = 0; to = n.1 }) in
    let a = bind_ok (number_in rest) f p h in
    let s = number_stable rest more a.0 a.1 in
    (rw s.0 a.2, subst (λ (q : Piece). q.to ≤ length rest) (piece_is (record { payload = number a.0.0; from = 0; to = a.0.1 }) p a.2) s.2)
  where
    piece_is : (x y : Piece) → ◌≡◌ {A = Result Piece WireKind} (Ok x) (Ok y) → x ≡ y
    piece_is x y e = cc

by_wire : {A B C D A' B' C' D' : Result Piece WireKind} (P : Piece → Type 0) (x y z : Bool) (p : Piece)
    → (A ≡ Ok p → (A' ≡ Ok p) × P p) → (B ≡ Ok p → (B' ≡ Ok p) × P p) → (C ≡ Ok p → (C' ≡ Ok p) × P p) → (D ≡ Ok p → (D' ≡ Ok p) × P p)
    → cond x A (cond y B (cond z C D)) ≡ Ok p → (cond x A' (cond y B' (cond z C' D')) ≡ Ok p) × P p
by_wire P true y z p a b c d h = a h
by_wire P false true z p a b c d h = b h
by_wire P false false true p a b c d h = c h
by_wire P false false false p a b c d h = d h

-- a payload that is read is the same, whatever comes behind it
pub payload_stable : (wire : ℕ) (rest more : List ℕ) (p : Piece) → payload_in wire rest ≡ Ok p → (payload_in wire (rest ++ more) ≡ Ok p) × (p.to ≤ length rest)
unfolding payload_in
payload_stable wire rest more p h =
    by_wire (λ q. q.to ≤ length rest) (wire == 0) (wire == 1) (wire == 2) p
    (varint_piece rest more p)
    (fixed_stable 8 (λ bs. record { payload = eight (from_le_bytes w64 bs); from = 0; to = 8 }) rest more p (λ bs. refl))
    (sized_stable rest more p)
    (fixed_stable 4 (λ bs. record { payload = four (from_le_bytes w32 bs); from = 0; to = 4 }) rest more p (λ bs. refl))
    h

-- ---- records and groups

-- a group that is read stays, whatever comes behind it
pub record InnerStays (inner : ℕ → ℕ → List ℕ → Result ℕ Stop) : Type 0 where
  pub stays : (len n : ℕ) (rest more : List ℕ) (size : ℕ) → inner len n rest ≡ Ok size → (inner len n (rest ++ more) ≡ Ok size) × (len ≤ size) × (size ≤ len + length rest)

-- a record that is read stays, whatever comes behind it
pub record RecordStays (inner : ℕ → ℕ → List ℕ → Result ℕ Stop) (bytes more : List ℕ) (r : Record) : Type 0 where
  pub same : record_with inner (bytes ++ more) ≡ Ok r
  pub some : 1 ≤ r.size
  pub within : r.size ≤ length bytes

-- what is found at the front is found
pub front_ok : {A : Type 0} (x : Result A WireKind) (y : A) → at_front x ≡ Ok y → x ≡ Ok y
front_ok (Ok x) y h = cc
front_ok (Err e) y h = absurd cc

abbrev group_rec : Tag → ℕ → Result Record Stop
group_rec t size = Ok (record { number = t.number; payload = group; head = t.len; size = size })

abbrev plain_rec : Tag → Piece → Result Record Stop
plain_rec t p = Ok (record { number = t.number; payload = p.payload; head = t.len + p.from; size = t.len + p.to })

-- equal answers are of equal records
pub rec_is : (x y : Record) → ◌≡◌ {A = Result Record Stop} (Ok x) (Ok y) → x ≡ y
rec_is x y e = cc

module _ (inner : ℕ → ℕ → List ℕ → Result ℕ Stop) (ok : InnerStays inner) where
  abbrev behind : Tag → List ℕ → Bool → Bool → Result Record Stop
  behind t rest x y = cond x (inner t.len t.number rest >>= group_rec t) (cond y (Err (Some (0, BadGroup))) (at_front (payload_in t.wire rest) >>= plain_rec t))

  behind_stable : (t : Tag) (rest more : List ℕ) (r : Record) (x y : Bool) → behind t rest x y ≡ Ok r → (behind t (rest ++ more) x y ≡ Ok r) × (t.len ≤ r.size) × (r.size ≤ t.len + length rest)
  behind_stable t rest more r true y h =
      let a = bind_ok (inner t.len t.number rest) (group_rec t) r h in
      let s = ok.stays t.len t.number rest more a.0 a.1 in
      let e = rec_is (record { number = t.number; payload = group; head = t.len; size = a.0 }) r a.2 in
      (rw s.0 a.2, subst (λ (q : Record). t.len ≤ q.size) e s.1, subst (λ (q : Record). q.size ≤ t.len + length rest) e s.2)
  behind_stable t rest more r false true h = absurd cc
  behind_stable t rest more r false false h =
      let a = bind_ok (at_front (payload_in t.wire rest)) (plain_rec t) r h in
      let s = payload_stable t.wire rest more a.0 (front_ok (payload_in t.wire rest) a.0 a.1) in
      let e = rec_is (record { number = t.number; payload = a.0.payload; head = t.len + a.0.from; size = t.len + a.0.to }) r a.2 in
      (rw s.0 a.2, subst (λ (q : Record). t.len ≤ q.size) e (omega arith), subst (λ (q : Record). q.size ≤ t.len + length rest) e (omega (arith, s.1)))

  -- a record is the same, whatever comes behind it, where the groups in it are
  pub record_stable : (bytes more : List ℕ) (r : Record) → record_with inner bytes ≡ Ok r → RecordStays inner bytes more r
  unfolding record_with
  record_stable bytes more r h =
      let f : Tag → Result Record Stop = λ t. behind t (drop t.len bytes) (t.wire == 3) (t.wire == 4) in
      let a = bind_ok (at_front (tag_in bytes)) f r h in
      let t = a.0 in
      let s = tag_stable bytes more t (front_ok (tag_in bytes) t a.1) in
      let b = behind_stable t (drop t.len bytes) more r (t.wire == 3) (t.wire == 4) a.2 in
      let within : t.len ≤ length bytes = s.within in
      record {
        same = rw (s.same, drop-append-le) b.0;
        some = omega (arith, s.some, b.1);
        within = omega (arith, b.2, length-drop t.len bytes);
      }

  -- the tag of a record
  record_tag : (bytes : List ℕ) (r : Record) → record_with inner bytes ≡ Ok r → (t : Tag) × (tag_in bytes ≡ Ok t)
  unfolding record_with
  record_tag bytes r h =
      let f : Tag → Result Record Stop = λ t. behind t (drop t.len bytes) (t.wire == 3) (t.wire == 4) in
      let a = bind_ok (at_front (tag_in bytes)) f r h in
      (a.0, front_ok (tag_in bytes) a.0 a.1)

  onward_ok : (a : ℕ) (x : Result ℕ Stop) (len : ℕ) → onward a x ≡ Ok len → (m : ℕ) × (x ≡ Ok m) × (a + m ≡ len)
  onward_ok a (Ok m) len h = (m, refl, cc)
  onward_ok a (Err None) len h = absurd cc
  onward_ok a (Err (Some e)) len h = absurd cc

  group_case : (n b : ℕ) (bs more : List ℕ) (len : ℕ) (o : Option ℕ) (x : Result Record Stop) → o ≡ end_of n (tag_in (b ∷ bs)) → record_with inner (b ∷ bs) ≡ x
      → ((skip m : ℕ) → group_rest inner n skip bs ≡ Ok m → (group_rest inner n skip (bs ++ more) ≡ Ok m) × (m ≤ length bs))
      → group_step o x (λ skip. group_rest inner n skip bs) ≡ Ok len
      → (group_step (end_of n (tag_in (b ∷ (bs ++ more)))) (record_with inner (b ∷ (bs ++ more))) (λ skip. group_rest inner n skip (bs ++ more)) ≡ Ok len) × (len ≤ length bs + 1)
  group_case n b bs more len (Some m) x e g ih h =
      let t = end_tag (tag_in (b ∷ bs)) n m e in
      let s = tag_stable (b ∷ bs) more t.0 t.1 in
      let l : m ≡ len = ok_ℕ m len h in
      let k : end_of n (tag_in (b ∷ (bs ++ more))) ≡ Some m = ap (end_of n) s.same ∙ sym (ap (end_of n) t.1) ∙ sym e in
      (rw k h, omega (arith, s.within, t.2))
    where
      ok_ℕ : (x y : ℕ) → ◌≡◌ {A = Result ℕ Stop} (Ok x) (Ok y) → x ≡ y
      ok_ℕ x y e = cc

      end_if : (t : Tag) (m : ℕ) (c : Bool) → Some m ≡ cond c (Some t.len) None → m ≡ t.len
      end_if t m true e = cc
      end_if t m false e = absurd cc

      end_tag : (y : Result Tag WireKind) (n m : ℕ) → Some m ≡ end_of n y → (t : Tag) × (y ≡ Ok t) × (m ≡ t.len)
      end_tag (Ok t) n m e = (t, refl, end_if t m (t.wire == 4 && t.number == n) e)
      end_tag (Err d) n m e = absurd cc
  group_case n b bs more len None (Err stop) e g ih h = absurd cc
  group_case n b bs more len None (Ok r) e g ih h =
      let t = record_tag (b ∷ bs) r g in
      let s = tag_stable (b ∷ bs) more t.0 t.1 in
      let rs = record_stable (b ∷ bs) more r g in
      let k : end_of n (tag_in (b ∷ (bs ++ more))) ≡ None = ap (end_of n) s.same ∙ sym (ap (end_of n) t.1) ∙ sym e in
      let o = onward_ok 1 (group_rest inner n (r.size - 1) bs) len h in
      let i = ih (r.size - 1) o.0 o.1 in
      (rw (k, rs.same, i.0) (rw o.1 at h), omega (arith, i.1, o.2))

  -- what is left of a group is the same, whatever comes behind it
  pub group_rest_stable : (n skip : ℕ) (bytes more : List ℕ) (len : ℕ) → group_rest inner n skip bytes ≡ Ok len → (group_rest inner n skip (bytes ++ more) ≡ Ok len) × (len ≤ length bytes)
  group_rest_stable n skip [] more len h = absurd (none_stop skip h)
    where
      none_stop : (s : ℕ) → group_rest inner n s [] ≡ Ok len → ⊥
      none_stop zero e = cc
      none_stop (suc s) e = cc
  group_rest_stable n (suc skip) (b ∷ bs) more len h =
      let o = onward_ok 1 (group_rest inner n skip bs) len h in
      let i = group_rest_stable n skip bs more o.0 o.1 in
      (rw i.0 (rw o.1 at h), omega (arith, i.1, o.2))
  group_rest_stable n zero (b ∷ bs) more len h =
      let c = group_case n b bs more len (end_of n (tag_in (b ∷ bs))) (record_with inner (b ∷ bs)) refl refl (λ skip m e. group_rest_stable n skip bs more m e) h in
      (c.0, omega (arith, c.1))

-- a group is the same, whatever comes behind it
pub group_stable : (k : ℕ) → InnerStays (group_in k)
unfolding group_in
group_stable zero = record { stays = λ len n rest more size h. absurd cc }
group_stable (suc k) = record {
  stays = λ len n rest more size h.
      let o = onward_is len (group_rest (group_in k) n 0 rest) size h in
      let s = group_rest_stable (group_in k) (group_stable k) n 0 rest more o.0 o.1 in
      (rw s.0 (rw o.1 at h), omega (arith, o.2), omega (arith, o.2, s.1));
}
  where
    onward_is : (a : ℕ) (x : Result ℕ Stop) (len : ℕ) → onward a x ≡ Ok len → (m : ℕ) × (x ≡ Ok m) × (a + m ≡ len)
    onward_is a (Ok m) len h = (m, refl, cc)
    onward_is a (Err None) len h = absurd cc
    onward_is a (Err (Some e)) len h = absurd cc

-- a whole record is a record
pub whole_ok : (x : Result Record Stop) (r : Record) → whole x ≡ Ok r → x ≡ Ok r
whole_ok (Ok x) r h = cc
whole_ok (Err None) r h = absurd cc
whole_ok (Err (Some e)) r h = absurd cc

-- a record that is read is the same, whatever comes behind it
pub whole_stable : (k : ℕ) (bytes more : List ℕ) (r : Record) → record_in k bytes ≡ Ok r → (record_in k (bytes ++ more) ≡ Ok r) × (1 ≤ r.size) × (r.size ≤ length bytes)
unfolding record_in
whole_stable k bytes more r h =
    let s = record_stable (group_in k) (group_stable k) bytes more r (whole_ok (record_with (group_in k) bytes) r h) in
    (rw s.same refl, s.some, s.within)

-- ---- the records of joined bytes

join_step : (k b : ℕ) (bs more : List ℕ) (x : Result Record (ℕ × WireKind)) → record_in k (b ∷ bs) ≡ x → AndWhole x (λ skip. AreWhole k skip bs)
    → ((skip : ℕ) → AreWhole k skip bs → records k skip (bs ++ more) ≡ records k skip bs ++ records k 0 more)
    → records k 0 (b ∷ (bs ++ more)) ≡ and_records x (λ skip. records k skip bs) ++ records k 0 more
join_step k b bs more (Err e) g w ih = absurd w
join_step k b bs more (Ok r) g w ih =
    let s = whole_stable k (b ∷ bs) more r g in
    rw s.0 (ap (λ (rs : List Record). r ∷ rs) (ih (r.size - 1) w))

-- the records of whole records and of bytes behind them are those of both, joined
pub records_joined : (k skip : ℕ) (bytes more : List ℕ) → AreWhole k skip bytes → records k skip (bytes ++ more) ≡ records k skip bytes ++ records k 0 more
records_joined k skip [] more w = rw w refl
records_joined k (suc skip) (b ∷ bs) more w = records_joined k skip bs more w
records_joined k zero (b ∷ bs) more w = join_step k b bs more (record_in k (b ∷ bs)) refl w (λ skip v. records_joined k skip bs more v)

whole_step : (k b : ℕ) (bs more : List ℕ) (x : Result Record (ℕ × WireKind)) → record_in k (b ∷ bs) ≡ x → AndWhole x (λ skip. AreWhole k skip bs)
    → ((skip : ℕ) → AreWhole k skip bs → AreWhole k skip (bs ++ more))
    → AreWhole k 0 (b ∷ (bs ++ more))
whole_step k b bs more (Err e) g w ih = absurd w
whole_step k b bs more (Ok r) g w ih =
    let s = whole_stable k (b ∷ bs) more r g in
    rw s.0 (ih (r.size - 1) w)

-- whole records behind whole records are whole
pub whole_joined : (k skip : ℕ) (bytes more : List ℕ) → AreWhole k skip bytes → AreWhole k 0 more → AreWhole k skip (bytes ++ more)
whole_joined k skip [] more w v = rw w v
whole_joined k (suc skip) (b ∷ bs) more w v = whole_joined k skip bs more w v
whole_joined k zero (b ∷ bs) more w v = whole_step k b bs more (record_in k (b ∷ bs)) refl w (λ skip u. whole_joined k skip bs more u v)
