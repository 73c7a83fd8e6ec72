-- Where a field of the dynamic table lies in the ring of bytes.
use Rattle.std.proofs.Common.{◌≡◌, ◌+◌, ◌-◌, ◌≤◌, ◌<◌, ◌++◌, ℕ, zero, suc, List, [], ◌∷◌, length, get_or, take, drop, refl, ap, sym, ◌∙◌, arith, length-append, length-drop}
use Rattle.std.specs.Prelude.{slice_get, Some}
use Rattle.std.proofs.lemmas.Option.{get_or_from_slice_get}
use Rattle.std.proofs.lemmas.List.{get_or_append_left, length-take}
use Rattle.std.proofs.Math.Seq.{get_or-append_seam, drop-drop}
use Rattle.hpack_codec.specs.StaticTable.{HeaderField}
use Rattle.hpack_codec.specs.TableRings.{front_field, newest_first, bytes_len, table_of, IsFieldStart}
use Rattle.hpack_codec.specs.DynamicTable.{HeaderTable}
use Rattle.hpack_codec.proofs.RangeLemmas.{two_ranges}
use Rattle.hpack_codec.specs.declared.dynamic_table.FieldLengths.{FieldLengths}

-- as many fields as lengths
pub newest_len : (ls : List FieldLengths) (bytes : List ℕ) → length (newest_first ls bytes) ≡ length ls
newest_len [] bytes = refl
newest_len (l ∷ ls) bytes =
    let rest = newest_len ls (drop (l.name + l.value) bytes) in
    rw length-append (omega (arith, rest))

-- the field whose lengths have the index j, from the oldest on, begins behind the bytes of those before it
pub newest_at : (ls : List FieldLengths) (bytes : List ℕ) (j k : ℕ) (d : HeaderField) (e : FieldLengths) → j + k + 1 ≡ length ls
    → get_or (newest_first ls bytes) k d ≡ front_field (get_or ls j e) (drop (bytes_len (take j ls)) bytes)
newest_at [] bytes j k d e h = absurd (omega arith)
newest_at (l ∷ ls) bytes zero k d e h =
    let front = newest_first ls (drop (l.name + l.value) bytes) in
    let len : k ≡ length front = omega (arith, newest_len ls (drop (l.name + l.value) bytes)) in
    ap (λ (n : ℕ). get_or (front ++ front_field l bytes ∷ []) n d) len ∙ get_or-append_seam front (front_field l bytes) [] d
newest_at (l ∷ ls) bytes (suc j) k d e h =
    let n = l.name + l.value in
    let front = newest_first ls (drop n bytes) in
    let within : k < length front = omega (arith, newest_len ls (drop n bytes)) in
    get_or_append_left front (front_field l bytes ∷ []) d k within
    ∙ (newest_at ls (drop n bytes) j k d e (omega arith) ∙ ap (front_field (get_or ls j e)) (drop-drop (bytes_len (take j ls)) n bytes))

-- fewer fields have fewer bytes
pub take_len : (n : ℕ) (ls : List FieldLengths) → bytes_len (take n ls) ≤ bytes_len ls
take_len zero ls = omega arith
take_len (suc n) [] = omega arith
take_len (suc n) (l ∷ ls) = omega (arith, take_len n ls)

take_more : (n : ℕ) (ls : List FieldLengths) (d : FieldLengths) → n < length ls → bytes_len (take (n + 1) ls) ≡ bytes_len (take n ls) + ((get_or ls n d).name + (get_or ls n d).value)
take_more n [] d h = absurd (omega arith)
take_more zero (l ∷ ls) d h = omega arith
take_more (suc n) (l ∷ ls) d h =
    let e : suc n + 1 ≡ suc (n + 1) = omega arith in
    let rest = take_more n ls d (omega arith) in
    rw e (omega (arith, rest))

-- the bytes of one field more
pub take_next : (n : ℕ) (ls : List FieldLengths) (l : FieldLengths) → n < length ls → slice_get ls n ≡ Some l → bytes_len (take (n + 1) ls) ≡ bytes_len (take n ls) + (l.name + l.value)
take_next n ls l h e = rw (get_or_from_slice_get ls n l l e) at (take_more n ls l h)

-- one more field does not have more bytes than all
pub next_within : (n : ℕ) (ls : List FieldLengths) (l : FieldLengths) → n < length ls → slice_get ls n ≡ Some l → bytes_len (take n ls) + (l.name + l.value) ≤ bytes_len ls
next_within n ls l h e = omega (arith, take_next n ls l h e, take_len (n + 1) ls)

-- the field that begins there
pub field_of : (ls : List FieldLengths) (bytes : List ℕ) (i start : ℕ) (l : FieldLengths) → i < length ls → IsFieldStart ls i start l → get_or (newest_first ls bytes) i ([], []) ≡ front_field l (drop start bytes)
field_of ls bytes i start l h p =
    let j = length ls - 1 - i in
    let count : j + i + 1 ≡ length ls = omega arith in
    newest_at ls bytes j i ([], []) l count
    ∙ (ap (λ (x : FieldLengths). front_field x (drop (bytes_len (take j ls)) bytes)) (get_or_from_slice_get ls j l l p.lengths)
    ∙ ap (λ (n : ℕ). front_field l (drop n bytes)) (sym p.before))

-- the bytes of the older fields are before a field
pub field_starts : (ls : List FieldLengths) (n i start : ℕ) (l : FieldLengths) → n ≡ length ls → i < length ls → slice_get ls (n - 1 - i) ≡ Some l → start ≡ bytes_len (take (n - 1 - i) ls) → IsFieldStart ls i start l
field_starts ls n i start l e h g b =
    let found : slice_get ls (length ls - 1 - i) ≡ Some l = rw e at g in
    let sum : start ≡ bytes_len (take (length ls - 1 - i) ls) = rw e at b in
    record { lengths = found; before = sum; within = omega (arith, next_within (length ls - 1 - i) ls l (omega arith) found) }

-- a field of the table has its lengths
pub within_lengths : (ls : List FieldLengths) (bytes : List ℕ) (max_size i : ℕ) (t : HeaderTable) → table_of ls bytes max_size ≡ t → i < length t.fields → i < length ls
within_lengths ls bytes max_size i t v h =
    let len : length (newest_first ls bytes) ≡ length t.fields = ap (λ (x : HeaderTable). length x.fields) v in
    omega (arith, newest_len ls bytes)

-- the table's field that begins there
field_in_table : (ls : List FieldLengths) (bytes : List ℕ) (max_size i start : ℕ) (l : FieldLengths) (t : HeaderTable) → table_of ls bytes max_size ≡ t → i < length t.fields → IsFieldStart ls i start l
    → front_field l (drop start bytes) ≡ get_or t.fields i ([], [])
field_in_table ls bytes max_size i start l t v h p =
    sym (field_of ls bytes i start l (within_lengths ls bytes max_size i t v h) p) ∙ ap (λ (x : HeaderTable). get_or x.fields i ([], [])) v

-- the name of a field is what is appended of its first bytes
pub name_put : (ls : List FieldLengths) (bytes : List ℕ) (max_size i start : ℕ) (l : FieldLengths) (t : HeaderTable) (old : List ℕ) → table_of ls bytes max_size ≡ t → i < length t.fields → IsFieldStart ls i start l
    → old ++ take (start + l.name - start) (drop start bytes) ≡ old ++ (get_or t.fields i ([], [])).0
name_put ls bytes max_size i start l t old v h p =
    let n : start + l.name - start ≡ l.name = omega arith in
    ap (λ (k : ℕ). old ++ take k (drop start bytes)) n ∙ ap (λ (f : HeaderField). old ++ f.0) (field_in_table ls bytes max_size i start l t v h p)

-- name and value of a field are what is appended of all its bytes
pub field_put : (ls : List FieldLengths) (bytes : List ℕ) (max_size i start : ℕ) (l : FieldLengths) (t : HeaderTable) (old : List ℕ) → table_of ls bytes max_size ≡ t → i < length t.fields → IsFieldStart ls i start l
    → bytes_len ls ≡ length bytes → old ++ take (start + l.name + l.value - start) (drop start bytes) ≡ old ++ ((get_or t.fields i ([], [])).0 ++ (get_or t.fields i ([], [])).1)
field_put ls bytes max_size i start l t old v h p b =
    let n : start + l.name + l.value - start ≡ l.name + l.value = omega arith in
    let left : l.name + l.value ≤ length (drop start bytes) = rw length-drop (omega (arith, p.within)) in
    ap (λ (k : ℕ). old ++ take k (drop start bytes)) n
    ∙ (ap (λ (xs : List ℕ). old ++ xs) (two_ranges l.name l.value (drop start bytes) left)
    ∙ ap (λ (f : HeaderField). old ++ (f.0 ++ f.1)) (field_in_table ls bytes max_size i start l t v h p))

-- the first length of a field is that of its name
pub name_len : (ls : List FieldLengths) (bytes : List ℕ) (max_size i start : ℕ) (l : FieldLengths) (t : HeaderTable) → table_of ls bytes max_size ≡ t → i < length t.fields → IsFieldStart ls i start l
    → bytes_len ls ≡ length bytes → l.name ≡ length (get_or t.fields i ([], [])).0
name_len ls bytes max_size i start l t v h p b =
    let len : length (take l.name (drop start bytes)) ≡ l.name = rw (length-take, length-drop) (omega (arith, p.within)) in
    sym len ∙ ap (λ (f : HeaderField). length f.0) (field_in_table ls bytes max_size i start l t v h p)
