-- The fields that were read of a block, before those that the rest spells.
use Rattle.std.proofs.Common.{◌≡◌, ◌==◌, ◌+◌, ◌-◌, ◌≤◌, ◌<◌, ◌++◌, ℕ, Bool, true, false, not, List, [], ◌∷◌, length, take, drop, Option, Some, None, Ok, Err, refl, ap, sym, subst, ◌∙◌, arith, append_assoc, append-nil, length-append, length-drop}
use Rattle.std.specs.Option.{IsSomeAnd}
use Rattle.std.proofs.lemmas.Bool.Decides.{nat_tests}
use Rattle.std.proofs.lemmas.List.{take_rest, drop_all, drop-drop}
use Rattle.hpack_codec.specs.StaticTable.{HeaderField}
use Rattle.hpack_codec.specs.DynamicTable.{HeaderTable, field_size, fields_size}
use Rattle.hpack_codec.specs.FieldRepresentation.{Representation, representation_in}
use Rattle.hpack_codec.specs.HeaderBlock.{BlockPoint, block_from, header_block, header_block_within, with_field}
use Rattle.hpack_codec.specs.RepresentationReads.{field_list, is_late, IsReadAs}
use Rattle.hpack_codec.specs.declared.fault.BlockFault.TheVariants.{Bad, TooLong}
use Rattle.hpack_codec.proofs.FieldLemmas.{size_append}
use Rattle.hpack_codec.proofs.BlockLemmas.{BlockResult, long_field, no_field, no_representation, one_field, rest_of}

-- fields before those that follow
abbrev pub with_fields : List HeaderField → BlockResult → BlockResult
with_fields fs (Ok r) = Ok (record { fields = fs ++ r.fields; table = r.table })
with_fields fs (Err e) = Err e

-- where the reading stands behind these fields
abbrev pub point : List HeaderField → HeaderTable → ℕ → BlockPoint
point fields table offset = record { offset = offset; table = table; late = is_late fields; room = 65536 - fields_size fields }

-- what was read, and what the bytes from the offset on spell
abbrev pub so_far : List HeaderField → HeaderTable → ℕ → List ℕ → BlockResult
so_far fields table offset bytes = with_fields fields (block_from (point fields table offset) 0 bytes)

-- no fields before others
pub before_none : (x : BlockResult) → with_fields [] x ≡ x
before_none (Ok r) = refl
before_none (Err e) = refl

before_field : (fs : List HeaderField) (f : HeaderField) (x : BlockResult) → with_fields fs (with_field f x) ≡ with_fields (fs ++ f ∷ []) x
before_field fs f (Ok r) = ap (λ (gs : List HeaderField). Ok (record { fields = gs; table = r.table })) (sym (append_assoc fs (f ∷ []) r.fields))
before_field fs f (Err e) = refl

-- nothing was read of the whole block
pub at_start : (t : HeaderTable) (block : List ℕ) → header_block t block ≡ so_far [] t 0 (drop 0 block)
unfolding header_block header_block_within
at_start t block = sym (before_none (block_from (point [] t 0) 0 block))

not_empty : (n : ℕ) (test : Bool) → (n == 0) ≡ test → 0 < n → not test ≡ true
not_empty n true e h = absurd (grind (arith, nat_tests))
not_empty n false e h = refl

late_now : (fs : List HeaderField) (f : HeaderField) → is_late (fs ++ f ∷ []) ≡ true
late_now fs f = not_empty (length (fs ++ f ∷ [])) (length (fs ++ f ∷ []) == 0) refl (rw length-append (omega arith))

-- one more representation
next_field : (fields : List HeaderField) (f : HeaderField) (table next : HeaderTable) (offset len : ℕ) (bytes : List ℕ) → 0 < length bytes → 1 ≤ len
    → representation_in table (is_late fields) bytes ≡ Some (record { field = Some f; table = next; len = len }) → fields_size (fields ++ f ∷ []) ≤ 65536
    → so_far fields table offset bytes ≡ so_far (fields ++ f ∷ []) next (offset + len) (drop len bytes)
next_field fields f table next offset len bytes l h e s =
    let size : fields_size (fields ++ f ∷ []) ≡ fields_size fields + (field_size f + 0) = size_append fields (f ∷ []) in
    let room : (65536 - fields_size fields) - field_size f ≡ 65536 - fields_size (fields ++ f ∷ []) = omega arith in
    let at : BlockPoint = point fields table offset in
    ap (with_fields fields) (one_field at bytes f next len l h (omega arith) e)
    ∙ (before_field fields f (rest_of bytes len (record { offset = offset + len; table = next; late = true; room = (65536 - fields_size fields) - field_size f }))
    ∙ (ap (λ (n : ℕ). with_fields (fields ++ f ∷ []) (rest_of bytes len (record { offset = offset + len; table = next; late = true; room = n }))) room
    ∙ ap (λ (b : Bool). with_fields (fields ++ f ∷ []) (rest_of bytes len (record { offset = offset + len; table = next; late = b; room = 65536 - fields_size (fields ++ f ∷ []) }))) (sym (late_now fields f))))

next_size : (fields : List HeaderField) (table next : HeaderTable) (offset len : ℕ) (bytes : List ℕ) → 0 < length bytes → 1 ≤ len
    → representation_in table (is_late fields) bytes ≡ Some (record { field = None; table = next; len = len })
    → so_far fields table offset bytes ≡ so_far fields next (offset + len) (drop len bytes)
next_size fields table next offset len bytes l h e = ap (with_fields fields) (no_field (point fields table offset) bytes next len l h e)

next_of : (field : Option HeaderField) (fields new : List HeaderField) (table next : HeaderTable) (offset len : ℕ) (bytes : List ℕ) → 0 < length bytes → 1 ≤ len
    → representation_in table (is_late fields) bytes ≡ Some (record { field = field; table = next; len = len }) → new ≡ fields ++ field_list field → fields_size new ≤ 65536
    → so_far fields table offset bytes ≡ so_far new next (offset + len) (drop len bytes)
next_of None fields new table next offset len bytes l h e g s =
    let same : fields ≡ new = sym (append-nil fields) ∙ sym g in
    next_size fields table next offset len bytes l h e ∙ ap (λ (fs : List HeaderField). so_far fs next (offset + len) (drop len bytes)) same
next_of (Some f) fields new table next offset len bytes l h e g s =
    let size : fields_size (fields ++ f ∷ []) ≤ 65536 = rw g at s in
    next_field fields f table next offset len bytes l h e size ∙ ap (λ (fs : List HeaderField). so_far fs next (offset + len) (drop len bytes)) (sym g)

-- the slice that the code reads is the rest of the block
pub rest_read : (P : List ℕ → Type 0) (block : List ℕ) (offset : ℕ) → P (take (length block - offset) (drop offset block)) → P (drop offset block)
rest_read P block offset p = subst P (take_rest block offset) p

-- a representation that is read leaves the whole to the rest
pub reads_on : (whole : BlockResult) (fields new : List HeaderField) (table next : HeaderTable) (offset len : ℕ) (block : List ℕ) → offset < length block → 1 ≤ len
    → IsReadAs (representation_in table (is_late fields) (take (length block - offset) (drop offset block))) next fields new len
    → whole ≡ so_far fields table offset (drop offset block) → whole ≡ so_far new next (offset + len) (drop (offset + len) block)
reads_on whole fields new table next offset len block l h r w =
    let some : 0 < length (drop offset block) = rw length-drop (omega arith) in
    let is = rest_read (λ (xs : List ℕ). representation_in table (is_late fields) xs ≡ Some (record { field = r.field; table = next; len = len })) block offset r.is in
    w ∙ (next_of r.field fields new table next offset len (drop offset block) some h is r.fields r.size
    ∙ ap (so_far new next (offset + len)) (drop-drop len offset block))

-- what is no representation is the fault of the block
pub is_bad : (whole : BlockResult) (fields : List HeaderField) (table : HeaderTable) (offset : ℕ) (block : List ℕ) → offset < length block
    → representation_in table (is_late fields) (take (length block - offset) (drop offset block)) ≡ None
    → whole ≡ so_far fields table offset (drop offset block) → whole ≡ Err (Bad offset)
is_bad whole fields table offset block l e w =
    let some : 0 < length (drop offset block) = rw length-drop (omega arith) in
    let is = rest_read (λ (xs : List ℕ). representation_in table (is_late fields) xs ≡ None) block offset e in
    w ∙ ap (with_fields fields) (no_representation (point fields table offset) (drop offset block) some is)

too_long_of : (fields : List HeaderField) (table : HeaderTable) (offset : ℕ) (bytes : List ℕ) (r : Representation) (field : Option HeaderField) → 0 < length bytes → representation_in table (is_late fields) bytes ≡ Some r
    → r.field ≡ field → IsSomeAnd field (λ f. 65536 < fields_size fields + field_size f) → so_far fields table offset bytes ≡ Err TooLong
too_long_of fields table offset bytes r None l e g h = absurd h
too_long_of fields table offset bytes r (Some f) l e g h = ap (with_fields fields) (long_field (point fields table offset) bytes f r l (omega arith) e g)

too_long_by : (fields : List HeaderField) (table : HeaderTable) (offset : ℕ) (bytes : List ℕ) (read : Option Representation) → 0 < length bytes → representation_in table (is_late fields) bytes ≡ read
    → IsSomeAnd read (λ r. IsSomeAnd r.field (λ f. 65536 < fields_size fields + field_size f)) → so_far fields table offset bytes ≡ Err TooLong
too_long_by fields table offset bytes None l e h = absurd h
too_long_by fields table offset bytes (Some r) l e h = too_long_of fields table offset bytes r r.field l e refl h

-- a field past the limit is the fault of the block
pub is_too_long : (whole : BlockResult) (fields : List HeaderField) (table : HeaderTable) (offset : ℕ) (block : List ℕ) → offset < length block
    → IsSomeAnd (representation_in table (is_late fields) (take (length block - offset) (drop offset block))) (λ r. IsSomeAnd r.field (λ f. 65536 < fields_size fields + field_size f))
    → whole ≡ so_far fields table offset (drop offset block) → whole ≡ Err TooLong
is_too_long whole fields table offset block l h w =
    let some : 0 < length (drop offset block) = rw length-drop (omega arith) in
    let is = rest_read (λ (xs : List ℕ). IsSomeAnd (representation_in table (is_late fields) xs) (λ r. IsSomeAnd r.field (λ f. 65536 < fields_size fields + field_size f))) block offset h in
    w ∙ too_long_by fields table offset (drop offset block) (representation_in table (is_late fields) (drop offset block)) some refl is

-- with no byte left, what was read is what the block spells
pub is_read : (whole : BlockResult) (fields : List HeaderField) (table : HeaderTable) (offset : ℕ) (block : List ℕ) → length block ≤ offset
    → whole ≡ so_far fields table offset (drop offset block) → whole ≡ Ok (record { fields = fields; table = table })
is_read whole fields table offset block l w =
    w ∙ (ap (so_far fields table offset) (drop_all offset block l) ∙ ap (λ (fs : List HeaderField). Ok (record { fields = fs; table = table })) (append-nil fields))

-- what is read of the rest ends within the block
pub within_block : (block : List ℕ) (offset len : ℕ) → offset < length block → len ≤ length (take (length block - offset) (drop offset block)) → offset + len ≤ length block
within_block block offset len l h =
    let size : length (take (length block - offset) (drop offset block)) ≡ length block - offset = ap length (take_rest block offset) ∙ length-drop offset block in
    omega arith
