-- What is left of entries when they are evicted, in the words of the standard.
use Rattle.std.proofs.Common.{◌≡◌, ◌↔◌, ◌⊎◌, inl, inr, ◌-◌, ◌<◌, ◌≤◌, ℕ, Bool, true, false, List}
use Rattle.std.proofs.Common.{[], ◌∷◌, if◌then◌else◌, refl, ap, sym, ◌∙◌, subst, arith}
use Rattle.std.specs.Prelude.{nat_le}
use Rattle.std.proofs.lemmas.Bool.{cases_lt}
use Rattle.std.proofs.lemmas.Bool.Decides.{nat_tests}
use Rattle.hpack_codec.specs.StaticTable.{HeaderField}
use Rattle.hpack_codec.specs.DynamicTable.{HeaderTable, added_to, field_size, kept_within, resized_to}
use Rattle.hpack_codec.specs.AddedEntries.{HadToGo, IsAdded, IsEvictedTo, IsResized}

-- one entry that stays before those that are evicted
stays : (size : ℕ) (f : HeaderField) (old kept : List HeaderField) → field_size f ≤ size
    → IsEvictedTo (size - field_size f) old kept
    → IsEvictedTo size (f ∷ old) (f ∷ kept)
stays size f old kept l e = record {
  evicted = e.evicted;
  from_the_end = ap (λ (fs : List HeaderField). f ∷ fs) e.from_the_end;
  fits = omega (arith, e.fits, l);
  no_more = had_to_go e.evicted e.no_more;
}
  where
    had_to_go : (gone : List HeaderField) → HadToGo (size - field_size f) kept gone → HadToGo size (f ∷ kept) gone
    had_to_go [] h = tt
    had_to_go (g ∷ gs) h = omega (arith, h, l)

-- an entry that is evicted, and all behind it
goes : (size : ℕ) (f : HeaderField) (old : List HeaderField) → size < field_size f → IsEvictedTo size (f ∷ old) []
goes size f old l = record { evicted = f ∷ old; from_the_end = refl; fits = omega arith; no_more = omega (arith, l) }

kept_by : (size : ℕ) (f : HeaderField) (fs : List HeaderField) (test : Bool) → nat_le (field_size f) size ≡ test
    → ((left : ℕ) → IsEvictedTo left fs (kept_within left fs))
    → IsEvictedTo size (f ∷ fs) (if test then f ∷ kept_within (size - field_size f) fs else [])
kept_by size f fs true e ih = stays size f fs (kept_within (size - field_size f) fs) (grind (arith, nat_tests))
    (ih (size - field_size f))
kept_by size f fs false e ih = goes size f fs (grind (arith, nat_tests))

-- what is kept is what eviction leaves
kept_is : (size : ℕ) (old : List HeaderField) → IsEvictedTo size old (kept_within size old)
kept_is size [] = record { evicted = []; from_the_end = refl; fits = omega arith; no_more = tt }
kept_is size (f ∷ fs) = kept_by size f fs (nat_le (field_size f) size) refl (λ left. kept_is left fs)

too_large : (size : ℕ) (f : HeaderField) (fs gone : List HeaderField) → f ∷ fs ≡ gone → HadToGo size [] gone
    → size < field_size f
too_large size f fs [] g h = absurd (cc)
too_large size f fs (x ∷ xs) g h = let same : f ≡ x = cc in rw same (omega (arith, h))

none_kept : (size : ℕ) (f : HeaderField) (fs : List HeaderField) (test : Bool) → nat_le (field_size f) size ≡ test
    → size < field_size f
    → [] ≡ (if test then f ∷ kept_within (size - field_size f) fs else [])
none_kept size f fs true g l = absurd (grind (arith, nat_tests, l))
none_kept size f fs false g l = refl

some_kept : (size : ℕ) (f : HeaderField) (fs ks : List HeaderField) (test : Bool) → nat_le (field_size f) size ≡ test
    → field_size f ≤ size
    → ks ≡ kept_within (size - field_size f) fs
    → f ∷ ks ≡ (if test then f ∷ kept_within (size - field_size f) fs else [])
some_kept size f fs ks true g l e = ap (λ (xs : List HeaderField). f ∷ xs) e
some_kept size f fs ks false g l e = absurd (grind (arith, nat_tests, l))

-- what is left behind the newest, where that stays
left_behind : (size : ℕ) (f : HeaderField) (fs ks : List HeaderField) → IsEvictedTo size (f ∷ fs) (f ∷ ks)
    → IsEvictedTo (size - field_size f) fs ks
left_behind size f fs ks e = record {
  evicted = e.evicted;
  from_the_end = let whole = e.from_the_end in cc;
  fits = omega (arith, e.fits);
  no_more = had_to_go e.evicted e.no_more;
}
  where
    had_to_go : (gone : List HeaderField) → HadToGo size (f ∷ ks) gone → HadToGo (size - field_size f) ks gone
    had_to_go [] h = tt
    had_to_go (g ∷ gs) h = omega (arith, h, e.fits)

-- eviction leaves one list
one_kept : (size : ℕ) (old kept : List HeaderField) → IsEvictedTo size old kept → kept ≡ kept_within size old
one_kept size [] [] e = refl
one_kept size [] (k ∷ ks) e = let no = e.from_the_end in absurd (cc)
one_kept size (f ∷ fs) [] e = none_kept size f fs (nat_le (field_size f) size) refl
    (too_large size f fs e.evicted e.from_the_end e.no_more)
one_kept size (f ∷ fs) (k ∷ ks) e =
    let same : k ≡ f = let whole = e.from_the_end in sym (cc) in
    let kept = subst (λ (x : HeaderField). IsEvictedTo size (f ∷ fs) (x ∷ ks)) same e in
    ap (λ (x : HeaderField). x ∷ ks) same
    ∙ some_kept size f fs ks (nat_le (field_size f) size) refl (omega (arith, kept.fits))
    (one_kept (size - field_size f) fs ks (left_behind size f fs ks kept))

-- eviction leaves exactly what is kept
pub evicted_is : (size : ℕ) (old kept : List HeaderField) → IsEvictedTo size old kept ↔ (kept ≡ kept_within size old)
evicted_is size old kept = (one_kept size old kept, λ e. subst (IsEvictedTo size old) (sym e) (kept_is size old))

-- an entry that has room is the newest, and one that is larger than the table leaves none
room_for : (t : HeaderTable) (f : HeaderField) → field_size f ≤ t.max_size
    → (added_to t f).fields ≡ f ∷ kept_within (t.max_size - field_size f) t.fields
room_for t f l = by_test (nat_le (field_size f) t.max_size) refl
  where
    by_test : (test : Bool) → nat_le (field_size f) t.max_size ≡ test
        → (if test then f ∷ kept_within (t.max_size - field_size f) t.fields else [])
        ≡ f ∷ kept_within (t.max_size - field_size f) t.fields
    by_test true e = refl
    by_test false e = absurd (grind (arith, nat_tests, l))

no_room_for : (t : HeaderTable) (f : HeaderField) → t.max_size < field_size f → (added_to t f).fields ≡ []
no_room_for t f l = by_test (nat_le (field_size f) t.max_size) refl
  where
    by_test : (test : Bool) → nat_le (field_size f) t.max_size ≡ test
        → (if test then f ∷ kept_within (t.max_size - field_size f) t.fields else []) ≡ []
    by_test true e = absurd (grind (arith, nat_tests, l))
    by_test false e = refl

table_is : (a b : HeaderTable) → a.fields ≡ b.fields → a.max_size ≡ b.max_size → a ≡ b
table_is a b e f =
    ap (λ (fs : List HeaderField). record { fields = fs; max_size = a.max_size }) e
    ∙ ap (λ (n : ℕ). record { fields = b.fields; max_size = n }) f

added_by : (old : HeaderTable) (f : HeaderField) (new : HeaderTable) → IsAdded old f new
    → (old.max_size < field_size f) ⊎ (field_size f ≤ old.max_size) → new ≡ added_to old f
added_by old f new a (inl l) = table_is new (added_to old f) (a.larger l ∙ sym (no_room_for old f l)) a.max_size
added_by old f new a (inr l) =
    let kept = one_kept (old.max_size - field_size f) old.fields a.kept (a.evicts l) in
    table_is new (added_to old f) (a.newest l
    ∙ (ap (λ (fs : List HeaderField). f ∷ fs) kept ∙ sym (room_for old f l))) a.max_size

added_holds : (old : HeaderTable) (f : HeaderField) → IsAdded old f (added_to old f)
added_holds old f = record {
  max_size = refl;
  larger = no_room_for old f;
  kept = kept_within (old.max_size - field_size f) old.fields;
  evicts = λ l. kept_is (old.max_size - field_size f) old.fields;
  newest = room_for old f;
}

-- a table with a field added is exactly that of the standard
pub added_is : (old : HeaderTable) (f : HeaderField) (new : HeaderTable) → IsAdded old f new ↔ (new ≡ added_to old f)
added_is old f new = (
  λ a. added_by old f new a (cases_lt old.max_size (field_size f)),
  λ e. subst (IsAdded old f) (sym e) (added_holds old f),
)

-- a table whose size is changed is exactly that of the standard
pub resized_is : (old : HeaderTable) (size : ℕ) (new : HeaderTable)
    → IsResized old size new ↔ (new ≡ resized_to old size)
resized_is old size new = (
  λ r. table_is new (resized_to old size) (one_kept size old.fields new.fields r.evicts) r.max_size,
  λ e. subst (IsResized old size) (sym e) (record { max_size = refl; evicts = kept_is size old.fields }),
)
