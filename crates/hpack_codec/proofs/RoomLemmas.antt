-- The limit of a list matters to nothing but whether the list is too long.
use Rattle.std.proofs.Common.{◌≡◌, ◌+◌, ◌-◌, ◌≤◌, ◌↔◌, ℕ, zero, suc, Bool, true, false, List, [], ◌∷◌, Option, Some, None, Ok, Err, if◌then◌else◌, refl, ap, ◌∙◌, arith}
use Rattle.std.specs.Prelude.{nat_lt}
use Rattle.std.proofs.lemmas.Bool.Decides.{nat_tests}
use Rattle.hpack_codec.specs.StaticTable.{HeaderField}
use Rattle.hpack_codec.specs.DynamicTable.{HeaderTable, field_size, fields_size}
use Rattle.hpack_codec.specs.FieldRepresentation.{Representation, representation_in}
use Rattle.hpack_codec.specs.HeaderBlock.{HeaderBlock, BlockPoint, DecodesBlock, behind, block_from, block_step, field_step, header_block, header_block_within, with_field}
use Rattle.hpack_codec.specs.declared.fault.BlockFault.TheVariants.{TooLong}
use Rattle.hpack_codec.proofs.BlockLemmas.{BlockResult}

-- the size of the fields, if there are any
abbrev pub size_of : BlockResult → ℕ
size_of (Ok r) = fields_size r.fields
size_of (Err e) = 0

size_with : (f : HeaderField) (x : BlockResult) → size_of (with_field f x) ≤ field_size f + size_of x
size_with f (Ok r) = omega arith
size_with f (Err e) = omega arith

-- the fields fit the room
fits_test : (room : ℕ) (f : HeaderField) (x : BlockResult) (test : Bool) → nat_lt room (field_size f) ≡ test → size_of x ≤ room - field_size f → size_of (if test then Err TooLong else with_field f x) ≤ room
fits_test room f x true e h = omega arith
fits_test room f x false e h = let l : field_size f ≤ room = grind (arith, nat_tests) in omega (arith, size_with f x)

fits_field : (at : BlockPoint) (r : Representation) (field : Option HeaderField) (bs : List ℕ) → ((next : BlockPoint) (skip : ℕ) → size_of (block_from next skip bs) ≤ next.room)
    → size_of (field_step at r field (λ next skip. block_from next skip bs)) ≤ at.room
fits_field at r None bs ih = ih (behind at r at.late at.room) (r.len - 1)
fits_field at r (Some f) bs ih = fits_test at.room f (block_from (behind at r true (at.room - field_size f)) (r.len - 1) bs) (nat_lt at.room (field_size f)) refl (ih (behind at r true (at.room - field_size f)) (r.len - 1))

fits_step : (at : BlockPoint) (read : Option Representation) (bs : List ℕ) → ((next : BlockPoint) (skip : ℕ) → size_of (block_from next skip bs) ≤ next.room)
    → size_of (block_step at read (λ next skip. block_from next skip bs)) ≤ at.room
fits_step at None bs ih = omega arith
fits_step at (Some r) bs ih = fits_field at r r.field bs ih

fits_room : (bs : List ℕ) (at : BlockPoint) (skip : ℕ) → size_of (block_from at skip bs) ≤ at.room
fits_room [] at zero = omega arith
fits_room [] at (suc skip) = omega arith
fits_room (b ∷ bs) at (suc skip) = fits_room bs at skip
fits_room (b ∷ bs) at zero = fits_step at (representation_in at.table at.late (b ∷ bs)) bs (fits_room bs)

-- what was spelled is spelled with any room that it fits
abbrev pub AnyRoom : List ℕ → Type 0
AnyRoom bs = (at : BlockPoint) (skip n : ℕ) (r : HeaderBlock) → block_from at skip bs ≡ Ok r → fields_size r.fields ≤ n → block_from (record at { room = n }) skip bs ≡ Ok r

any_test : (room n : ℕ) (f : HeaderField) (x y : BlockResult) (r : HeaderBlock) (old new : Bool) → nat_lt room (field_size f) ≡ old → nat_lt n (field_size f) ≡ new
    → ((s : HeaderBlock) → x ≡ Ok s → fields_size s.fields ≤ n - field_size f → y ≡ Ok s)
    → (if old then Err TooLong else with_field f x) ≡ Ok r → fields_size r.fields ≤ n → (if new then Err TooLong else with_field f y) ≡ Ok r
any_test room n f x y r true new p q ih e h = absurd (cc)
any_test room n f (Err g) y r false new p q ih e h = absurd (cc)
any_test room n f (Ok s) y r false true p q ih e h =
    let size : fields_size (f ∷ s.fields) ≡ fields_size r.fields = ap size_of e in
    absurd (grind (arith, nat_tests))
any_test room n f (Ok s) y r false false p q ih e h =
    let size : fields_size (f ∷ s.fields) ≡ fields_size r.fields = ap size_of e in
    ap (with_field f) (ih s refl (omega arith)) ∙ e

any_field : (at : BlockPoint) (n : ℕ) (p : Representation) (field : Option HeaderField) (bs : List ℕ) (r : HeaderBlock) → AnyRoom bs
    → field_step at p field (λ next skip. block_from next skip bs) ≡ Ok r → fields_size r.fields ≤ n → field_step (record at { room = n }) p field (λ next skip. block_from next skip bs) ≡ Ok r
any_field at n p None bs r ih e h = ih (behind at p at.late at.room) (p.len - 1) n r e h
any_field at n p (Some f) bs r ih e h =
    any_test at.room n f (block_from (behind at p true (at.room - field_size f)) (p.len - 1) bs) (block_from (behind at p true (n - field_size f)) (p.len - 1) bs) r
    (nat_lt at.room (field_size f)) (nat_lt n (field_size f)) refl refl (λ s g k. ih (behind at p true (at.room - field_size f)) (p.len - 1) (n - field_size f) s g k) e h

any_step : (at : BlockPoint) (n : ℕ) (read : Option Representation) (bs : List ℕ) (r : HeaderBlock) → AnyRoom bs
    → block_step at read (λ next skip. block_from next skip bs) ≡ Ok r → fields_size r.fields ≤ n → block_step (record at { room = n }) read (λ next skip. block_from next skip bs) ≡ Ok r
any_step at n None bs r ih e h = absurd (cc)
any_step at n (Some p) bs r ih e h = any_field at n p p.field bs r ih e h

-- each block is spelled with any room that its fields fit
pub any_room : (bs : List ℕ) → AnyRoom bs
any_room [] at zero n r e h = e
any_room [] at (suc skip) n r e h = e
any_room (b ∷ bs) at (suc skip) n r e h = any_room bs at skip n r e h
any_room (b ∷ bs) at zero n r e h = any_step at n (representation_in at.table at.late (b ∷ bs)) bs r (any_room bs) e h

-- a block is read exactly where it spells fields within the limit
pub limit_is : (t : HeaderTable) (block : List ℕ) (r : HeaderBlock) → (header_block t block ≡ Ok r) ↔ (DecodesBlock t block r.fields r.table × (fields_size r.fields ≤ 65536))
unfolding header_block header_block_within
limit_is t block r = (
  λ e. (
    any_room block (record { offset = 0; table = t; late = false; room = 65536 }) 0 (fields_size r.fields) r e (omega arith),
    let fits = fits_room block (record { offset = 0; table = t; late = false; room = 65536 }) 0 in omega (arith, fits, ap size_of e),
  ),
  λ p. any_room block (record { offset = 0; table = t; late = false; room = fields_size r.fields }) 0 65536 r p.0 p.1,
)
