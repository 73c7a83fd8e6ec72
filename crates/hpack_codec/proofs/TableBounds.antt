-- Representations, blocks and connections keep a table within its size.
use Rattle.std.proofs.Common.{◌≡◌, ◌⊎◌, inl, inr, ◌+◌, ◌<◌, ◌≤◌, ℕ, Bool, List, [], ◌∷◌, drop, Some, Ok, Err}
use Rattle.std.proofs.Common.{refl, ap, sym, subst, arith}
use Rattle.std.proofs.lemmas.Bool.{cases_lt}
use Rattle.hpack_codec.specs.StaticTable.{HeaderField}
use Rattle.hpack_codec.specs.DynamicTable.{HeaderTable, field_size, fields_size, first_table}
use Rattle.hpack_codec.specs.AddedEntries.{IsAdded, IsResized, IsWithinSize}
use Rattle.hpack_codec.specs.FieldRepresentation.{Representation, representation_in}
use Rattle.hpack_codec.specs.BlockRepresentations.{AreRepresentations, RepresentationStart, block_start, next_start}
use Rattle.hpack_codec.specs.HeaderBlock.{HeaderBlock, header_block}
use Rattle.hpack_codec.specs.ConnectionBlocks.{blocks_step, header_blocks}
use Rattle.hpack_codec.proofs.BlockLemmas.{BlockResult}
use Rattle.hpack_codec.proofs.BlockEnds.{block_is}
use Rattle.hpack_codec.proofs.RoomLemmas.{limit_is}
use Rattle.hpack_codec.proofs.TableChanges.{adds, alone_keeps, indexed_keeps, resizes}

-- the table of a new connection
pub first_within : IsWithinSize first_table
first_within = record { within = omega arith; largest = omega arith }

-- with a field added
added_within : (old new : HeaderTable) (f : HeaderField) → IsAdded old f new → IsWithinSize old
    → (old.max_size < field_size f) ⊎ (field_size f ≤ old.max_size)
    → IsWithinSize new
added_within old new f a w (inl l) =
    let none : fields_size new.fields ≡ 0 = ap fields_size (a.larger l) in
    record { within = omega (arith, none); largest = omega (arith, a.max_size, w.largest) }
added_within old new f a w (inr l) =
    let size : fields_size new.fields ≡ field_size f + fields_size a.kept = ap fields_size (a.newest l) in
    let fits = (a.evicts l).fits in
    record {
      within = omega (arith, size, fits, a.max_size, l);
      largest = omega (arith, a.max_size, w.largest);
    }

-- with the size changed
resized_within : (old : HeaderTable) (size : ℕ) (new : HeaderTable) → IsResized old size new → size ≤ 4096
    → IsWithinSize new
resized_within old size new r l =
    record { within = omega (arith, r.evicts.fits, r.max_size); largest = omega (arith, r.max_size, l) }

-- behind a representation, by its first byte
one_within : (t : HeaderTable) (late : Bool) (b : ℕ) (bs : List ℕ) (r : Representation)
    → representation_in t late (b ∷ bs) ≡ Some r
    → IsWithinSize t
    → (b < 32) ⊎ (32 ≤ b)
    → (b < 64) ⊎ (64 ≤ b)
    → (b < 128) ⊎ (128 ≤ b)
    → IsWithinSize r.table
one_within t late b bs r e w (inl l) m n =
    let kept = alone_keeps t late b bs r l e in subst IsWithinSize (sym kept.2) w
one_within t late b bs r e w (inr l) (inl m) n =
    let set = resizes t late b bs r l m e in resized_within t set.0 r.table set.4 set.2
one_within t late b bs r e w (inr l) (inr m) (inl n) =
    let added = adds t late b bs r m n e in
    added_within t r.table added.0 added.2 w (cases_lt t.max_size (field_size added.0))
one_within t late b bs r e w (inr l) (inr m) (inr n) =
    let kept = indexed_keeps t late b bs r n e in subst IsWithinSize (sym kept.2) w

-- behind any representation
representation_within : (t : HeaderTable) (late : Bool) (bytes : List ℕ) (r : Representation)
    → representation_in t late bytes ≡ Some r
    → IsWithinSize t
    → IsWithinSize r.table
unfolding representation_in
representation_within t late [] r e w = absurd (cc)
representation_within t late (b ∷ bs) r e w =
    one_within t late b bs r e w (cases_lt b 32) (cases_lt b 64) (cases_lt b 128)

-- behind representations
all_within : (block : List ℕ) (rs : List Representation) (s end : RepresentationStart)
    → AreRepresentations block s rs end
    → IsWithinSize s.table
    → IsWithinSize end.table
all_within block [] s end a w = subst (λ (x : RepresentationStart). IsWithinSize x.table) a w
all_within block (r ∷ rs) s end a w =
    all_within block rs (next_start s r) end a.1
    (representation_within s.table s.late (drop s.offset block) r a.0 w)

-- behind a block
block_within : (t : HeaderTable) (block : List ℕ) (r : HeaderBlock) → header_block t block ≡ Ok r → IsWithinSize t
    → IsWithinSize r.table
block_within t block r e w =
    let list = (block_is t block r.fields r.table).0 ((limit_is t block r).0 e).0 in
    subst IsWithinSize list.table_is
    (all_within block list.front.representations (block_start t) list.front.end list.front.are w)

behind_block : (t : HeaderTable) (blocks : List (List ℕ)) (x : BlockResult) → IsWithinSize t
    → ((r : HeaderBlock) → x ≡ Ok r → IsWithinSize r.table)
    → ((after : HeaderTable) → IsWithinSize after → IsWithinSize (header_blocks after blocks).table)
    → IsWithinSize (blocks_step t x (λ after. header_blocks after blocks)).table
behind_block t blocks (Ok r) w one more = more r.table (one r refl)
behind_block t blocks (Err fault) w one more = w

-- behind the blocks of a connection
pub blocks_within : (t : HeaderTable) (blocks : List (List ℕ)) → IsWithinSize t
    → IsWithinSize (header_blocks t blocks).table
blocks_within t [] w = w
blocks_within t (block ∷ blocks) w =
    behind_block t blocks (header_block t block) w (λ r e. block_within t block r e w)
    (λ after. blocks_within after blocks)
