-- A block is read representation by representation: what was read, and what the rest spells from there on.
use Rattle.std.proofs.Common.{◌≡◌, ◌+◌, ◌-◌, ◌≤◌, ◌<◌, ℕ, zero, suc, Bool, true, false, List, [], ◌∷◌, length, drop, Option, Some, None, Result, Err, if◌then◌else◌, refl, ap, ◌∙◌, arith}
use Rattle.std.specs.Prelude.{nat_lt}
use Rattle.std.proofs.lemmas.Bool.Decides.{nat_tests}
use Rattle.hpack_codec.specs.StaticTable.{HeaderField}
use Rattle.hpack_codec.specs.DynamicTable.{HeaderTable, field_size}
use Rattle.hpack_codec.specs.FieldRepresentation.{Representation, representation_in}
use Rattle.hpack_codec.specs.HeaderBlock.{HeaderBlock, BlockPoint, behind, block_from, block_step, field_step, with_field}
use Rattle.hpack_codec.specs.declared.fault.BlockFault.{BlockFault}
use Rattle.hpack_codec.specs.declared.fault.BlockFault.TheVariants.{Bad, TooLong}

-- what a block spells: its fields and the table after it, or the first fault
abbrev pub BlockResult : Type 0
BlockResult = Result HeaderBlock BlockFault

-- skipping bytes is dropping them
block_skip : (at : BlockPoint) (skip : ℕ) (bs : List ℕ) → block_from at skip bs ≡ block_from at 0 (drop skip bs)
block_skip at zero bs = refl
block_skip at (suc skip) [] = refl
block_skip at (suc skip) (b ∷ bs) = block_skip at skip bs

drop_one : (n b : ℕ) (bs : List ℕ) → 1 ≤ n → drop (n - 1) bs ≡ drop n (b ∷ bs)
drop_one zero b bs h = absurd (omega arith)
drop_one (suc n) b bs h = let e : suc n - 1 ≡ n = omega arith in rw e refl

-- what goes on behind a representation of so many bytes
abbrev pub rest_of : List ℕ → ℕ → BlockPoint → BlockResult
rest_of bytes len next = block_from next 0 (drop len bytes)

goes_on : (b : ℕ) (bs : List ℕ) (len : ℕ) (next : BlockPoint) → 1 ≤ len → block_from next (len - 1) bs ≡ rest_of (b ∷ bs) len next
goes_on b bs len next h = block_skip next (len - 1) bs ∙ ap (block_from next 0) (drop_one len b bs h)

-- one representation that is no field
pub no_field : (at : BlockPoint) (bytes : List ℕ) (table : HeaderTable) (len : ℕ) → 0 < length bytes → 1 ≤ len
    → representation_in at.table at.late bytes ≡ Some (record { field = None; table = table; len = len })
    → block_from at 0 bytes ≡ rest_of bytes len (record at { offset = at.offset + len; table = table })
no_field at [] table len l h e = absurd (omega arith)
no_field at (b ∷ bs) table len l h e =
    ap (λ (r : Option Representation). block_step at r (λ next skip. block_from next skip bs)) e ∙ goes_on b bs len (record at { offset = at.offset + len; table = table }) h

-- one that is a field, within the room
room_left : (at : BlockPoint) (f : HeaderField) (test : Bool) (ok : BlockResult) → nat_lt at.room (field_size f) ≡ test → field_size f ≤ at.room → (if test then Err TooLong else ok) ≡ ok
room_left at f true ok e h = absurd (grind (arith, nat_tests))
room_left at f false ok e h = refl

no_room : (at : BlockPoint) (f : HeaderField) (test : Bool) (ok : BlockResult) → nat_lt at.room (field_size f) ≡ test → at.room < field_size f → (if test then Err TooLong else ok) ≡ Err TooLong
no_room at f true ok e h = refl
no_room at f false ok e h = absurd (grind (arith, nat_tests))

-- where the reading stands behind a field
abbrev pub behind_field : BlockPoint → HeaderField → HeaderTable → ℕ → BlockPoint
behind_field at f table len = record { offset = at.offset + len; table = table; late = true; room = at.room - field_size f }

-- a representation that is a field within the room, and what the rest spells
pub one_field : (at : BlockPoint) (bytes : List ℕ) (f : HeaderField) (table : HeaderTable) (len : ℕ) → 0 < length bytes → 1 ≤ len → field_size f ≤ at.room
    → representation_in at.table at.late bytes ≡ Some (record { field = Some f; table = table; len = len })
    → block_from at 0 bytes ≡ with_field f (rest_of bytes len (behind_field at f table len))
one_field at [] f table len l h s e = absurd (omega arith)
one_field at (b ∷ bs) f table len l h s e =
    let rest = with_field f (block_from (behind_field at f table len) (len - 1) bs) in
    ap (λ (r : Option Representation). block_step at r (λ next skip. block_from next skip bs)) e
    ∙ (room_left at f (nat_lt at.room (field_size f)) rest refl s
    ∙ ap (with_field f) (goes_on b bs len (behind_field at f table len) h))

-- a field past the room is the fault
pub long_field : (at : BlockPoint) (bytes : List ℕ) (f : HeaderField) (r : Representation) → 0 < length bytes → at.room < field_size f → representation_in at.table at.late bytes ≡ Some r → r.field ≡ Some f
    → block_from at 0 bytes ≡ Err TooLong
long_field at [] f r l s e g = absurd (omega arith)
long_field at (b ∷ bs) f r l s e g =
    ap (λ (x : Option Representation). block_step at x (λ next skip. block_from next skip bs)) e
    ∙ (ap (λ (x : Option HeaderField). field_step at r x (λ next skip. block_from next skip bs)) g
    ∙ no_room at f (nat_lt at.room (field_size f)) (with_field f (block_from (behind at r true (at.room - field_size f)) (r.len - 1) bs)) refl s)

-- where no representation stands, there is the fault
pub no_representation : (at : BlockPoint) (bytes : List ℕ) → 0 < length bytes → representation_in at.table at.late bytes ≡ None → block_from at 0 bytes ≡ Err (Bad at.offset)
no_representation at [] l e = absurd (omega arith)
no_representation at (b ∷ bs) l e = ap (λ (x : Option Representation). block_step at x (λ next skip. block_from next skip bs)) e
