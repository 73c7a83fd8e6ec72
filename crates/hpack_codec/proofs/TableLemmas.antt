-- The dynamic table in its rings, and evictions.
use Rattle.std.proofs.Common.{◌≡◌, ◌+◌, ◌-◌, ◌*◌, ◌≤◌, ◌<◌, ◌++◌, ℕ, Bool, true, false, List, [], ◌∷◌, length, take, drop, if◌then◌else◌, refl, ap, sym, ◌∙◌, arith, append_assoc, length-append, length-drop}
use Rattle.std.specs.Prelude.{nat_le}
use Rattle.std.proofs.lemmas.Bool.Decides.{nat_tests}
use Rattle.std.proofs.lemmas.List.{drop-append-le, take-append-le, length-take}
use Rattle.std.proofs.Math.Seq.{take-length, drop-append_seam, take-append_seam}
use borrow.Author.Tests.{leb-true}
use Rattle.hpack_codec.specs.StaticTable.{HeaderField}
use Rattle.hpack_codec.specs.DynamicTable.{HeaderTable, fields_size, field_size, kept_within}
use Rattle.hpack_codec.specs.TableRings.{front_field, newest_first, bytes_len, table_of, IsEvicted}
use Rattle.hpack_codec.specs.declared.dynamic_table.FieldLengths.{FieldLengths}
use Rattle.circular_buffer.specs.Buffer.{keep_last}
use Rattle.hpack_codec.proofs.FieldLemmas.{size_append}

-- all fields are kept where they fit
kept_all_by : (n : ℕ) (f : HeaderField) (fs kept : List HeaderField) (test : Bool) → nat_le (field_size f) n ≡ test → field_size f ≤ n → kept ≡ fs → (if test then f ∷ kept else []) ≡ f ∷ fs
kept_all_by n f fs kept true e h k = ap (λ (xs : List HeaderField). f ∷ xs) k
kept_all_by n f fs kept false e h k = absurd (grind (arith, nat_tests))

-- fields that fit are all kept
pub kept_all : (n : ℕ) (fs : List HeaderField) → fields_size fs ≤ n → kept_within n fs ≡ fs
kept_all n [] h = refl
kept_all n (f ∷ fs) h = kept_all_by n f fs (kept_within (n - field_size f) fs) (nat_le (field_size f) n) refl (omega arith) (kept_all (n - field_size f) fs (omega arith))

-- the oldest is evicted where all do not fit
kept_less_by : (n : ℕ) (f : HeaderField) (more less : List HeaderField) (test : Bool) → nat_le (field_size f) n ≡ test → (field_size f ≤ n → more ≡ less) → (if test then f ∷ more else []) ≡ (if test then f ∷ less else [])
kept_less_by n f more less true e k = ap (λ (xs : List HeaderField). f ∷ xs) (k (leb-true (field_size f) n e))
kept_less_by n f more less false e k = refl

kept_none_by : (n : ℕ) (f : HeaderField) (test : Bool) → nat_le (field_size f) n ≡ test → n < field_size f → (if test then f ∷ [] else []) ≡ []
kept_none_by n f true e h = absurd (omega (arith, leb-true (field_size f) n e))
kept_none_by n f false e h = refl

-- where fields do not fit, they are kept as without the oldest
pub kept_less : (n : ℕ) (fs : List HeaderField) (old : HeaderField) → n < fields_size (fs ++ old ∷ []) → kept_within n (fs ++ old ∷ []) ≡ kept_within n fs
kept_less n [] old h = kept_none_by n old (nat_le (field_size old) n) refl (omega arith)
kept_less n (f ∷ fs) old h =
    kept_less_by n f (kept_within (n - field_size f) (fs ++ old ∷ [])) (kept_within (n - field_size f) fs) (nat_le (field_size f) n) refl
    (λ l. kept_less (n - field_size f) fs old (omega arith))

-- the size of the fields is that of their bytes, and 32 for each
pub size_is : (ls : List FieldLengths) (bytes : List ℕ) → bytes_len ls ≡ length bytes → fields_size (newest_first ls bytes) ≡ length bytes + 32 * length ls
size_is [] bytes h = omega arith
size_is (l ∷ ls) bytes h =
    let n = l.name + l.value in
    let rest : bytes_len ls ≡ length (drop n bytes) = rw length-drop (omega arith) in
    let size = size_is ls (drop n bytes) rest in
    let front : length (take l.name bytes) ≡ l.name = rw length-take (omega arith) in
    let back : length (take l.value (drop l.name bytes)) ≡ l.value = rw (length-take, length-drop) (omega arith) in
    let left : length (drop n bytes) + n ≡ length bytes = rw length-drop (omega arith) in
    rw size_append (omega arith)

evicted_size : (fs : List HeaderField) (old : HeaderField) → fields_size (fs ++ old ∷ []) ≡ fields_size fs + field_size old
evicted_size fs old = rw size_append (omega arith)

-- fewer fields are a shorter list
pub evicted_shorter : (old new : HeaderTable) → IsEvicted old new → length new.fields < length old.fields
evicted_shorter old new e = rw (e.fields, length-append) (omega arith)

-- where the fields of a table do not fit, they are kept as without the one that was evicted
pub evicted_kept : (old new : HeaderTable) (n : ℕ) → n < fields_size old.fields → IsEvicted old new → kept_within n old.fields ≡ kept_within n new.fields
evicted_kept old new n h e = let l : n < fields_size (new.fields ++ e.oldest ∷ []) = rw e.fields at h in rw e.fields (kept_less n new.fields e.oldest l)

-- a field that is appended is the newest
front_kept : (l : FieldLengths) (bytes more : List ℕ) → l.name + l.value ≤ length bytes → front_field l (bytes ++ more) ≡ front_field l bytes
front_kept l bytes more h =
    let short : l.value ≤ length (drop l.name bytes) = rw length-drop (omega arith) in
    ap (λ (x : List ℕ). (x, take l.value (drop l.name (bytes ++ more)))) (take-append-le l.name bytes more (omega arith))
    ∙ ap (λ (y : List ℕ). (take l.name bytes, y)) (ap (take l.value) (drop-append-le l.name bytes more (omega arith)) ∙ take-append-le l.value (drop l.name bytes) more short)

-- bytes and lengths that are appended are the newest field
pub appended : (ls : List FieldLengths) (l : FieldLengths) (bytes name value : List ℕ) → bytes_len ls ≡ length bytes → l.name ≡ length name → l.value ≡ length value
    → newest_first (ls ++ l ∷ []) (bytes ++ (name ++ value)) ≡ (name, value) ∷ newest_first ls bytes
appended [] l [] name value h a b =
    let p1 : take l.name (name ++ value) ≡ name = rw a (take-append_seam name value) in
    let p2 : drop l.name (name ++ value) ≡ value = rw a (drop-append_seam name value) in
    let p3 : take l.value (drop l.name (name ++ value)) ≡ value = rw (p2, b) (take-length value) in
    ap (λ (x : List ℕ). (x, take l.value (drop l.name (name ++ value))) ∷ []) p1 ∙ ap (λ (y : List ℕ). (name, y) ∷ []) p3
appended [] l (x ∷ xs) name value h a b = absurd (omega arith)
appended (m ∷ ms) l bytes name value h a b =
    let n = m.name + m.value in
    let rest : bytes_len ms ≡ length (drop n bytes) = rw length-drop (omega arith) in
    let cut : drop n (bytes ++ (name ++ value)) ≡ drop n bytes ++ (name ++ value) = drop-append-le n bytes (name ++ value) (omega arith) in
    let first = front_kept m bytes (name ++ value) (omega arith) in
    ap (λ (xs : List ℕ). newest_first (ms ++ l ∷ []) xs ++ front_field m (bytes ++ (name ++ value)) ∷ []) cut
    ∙ (ap (λ (fs : List HeaderField). fs ++ front_field m (bytes ++ (name ++ value)) ∷ []) (appended ms l (drop n bytes) name value rest a b)
    ∙ ap (λ (f : HeaderField). ((name, value) ∷ newest_first ms (drop n bytes)) ++ f ∷ []) first)

-- the bytes of one field more
pub len_append : (ls : List FieldLengths) (l : FieldLengths) → bytes_len (ls ++ l ∷ []) ≡ bytes_len ls + (l.name + l.value)
len_append [] l = omega arith
len_append (m ∷ ms) l = rw (len_append ms l) (omega arith)

-- one more item, where there is room
pub keep_fits : {X : Type 0} (n : ℕ) (xs : List X) → length xs ≤ n → keep_last n xs ≡ xs
keep_fits n xs h = let e : length xs - n ≡ 0 = omega arith in rw e refl

-- what is appended part by part is the newest field
pub appended_by : (ls new : List FieldLengths) (l : FieldLengths) (bytes name value middle all : List ℕ) → bytes_len ls ≡ length bytes → l.name ≡ length name → l.value ≡ length value
    → new ≡ ls ++ l ∷ [] → middle ≡ bytes ++ name → all ≡ middle ++ value → newest_first new all ≡ (name, value) ∷ newest_first ls bytes
appended_by ls new l bytes name value middle all h a b e f g =
    let whole : all ≡ bytes ++ (name ++ value) = g ∙ (ap (λ (xs : List ℕ). xs ++ value) f ∙ append_assoc bytes name value) in
    rw (e, whole) (appended ls l bytes name value h a b)

-- what is appended part by part has its bytes
pub len_by : (ls new : List FieldLengths) (l : FieldLengths) → new ≡ ls ++ l ∷ [] → bytes_len new ≡ bytes_len ls + (l.name + l.value)
len_by ls new l e = rw e (len_append ls l)

-- what the rings use
pub used_is : (ls : List FieldLengths) (bytes : List ℕ) (size max_size : ℕ) (t : HeaderTable) → bytes_len ls ≡ length bytes → size ≡ length bytes + 32 * length ls → table_of ls bytes max_size ≡ t → size ≡ fields_size t.fields
used_is ls bytes size max_size t h e v = e ∙ (sym (size_is ls bytes h) ∙ ap (λ (x : HeaderTable). fields_size x.fields) v)

-- after one field was evicted, the fields that are kept are those of the table before
pub evicted_table : (old middle new : HeaderTable) (n : ℕ) → n < fields_size old.fields → IsEvicted old middle → new ≡ record middle { fields = kept_within n middle.fields } → new ≡ record old { fields = kept_within n old.fields }
evicted_table old middle new n h e f =
    f ∙ (ap (λ (fs : List HeaderField). record middle { fields = fs }) (sym (evicted_kept old middle n h e)) ∙ ap (λ (m : ℕ). record old { fields = kept_within n old.fields; max_size = m }) e.max_size)

-- a table whose fields fit keeps them
pub kept_table : (t : HeaderTable) (n : ℕ) → fields_size t.fields ≤ n → t ≡ record t { fields = kept_within n t.fields }
kept_table t n h = ap (λ (fs : List HeaderField). record t { fields = fs }) (sym (kept_all n t.fields h))
