-- What the faults of a block say: a bad one spells no fields, and one that is too long spells too many.
use Rattle.std.proofs.Common.{◌≡◌, ◌↔◌, ◌⊎◌, inl, inr, ◌-◌, ◌≤◌, ◌<◌, ℕ, zero, suc, Bool, true, false, List, [], ◌∷◌, Option, Some, None, Ok, Err, if◌then◌else◌, refl, ap, sym, ◌∙◌, arith}
use Rattle.std.specs.Prelude.{nat_lt}
use Rattle.std.proofs.lemmas.Bool.{cases_lt}
use Rattle.std.proofs.lemmas.Bool.Decides.{nat_tests}
use Rattle.hpack_codec.specs.StaticTable.{HeaderField}
use Rattle.hpack_codec.specs.DynamicTable.{HeaderTable, field_size, fields_size}
use Rattle.hpack_codec.specs.FieldRepresentation.{Representation, representation_in}
use Rattle.hpack_codec.specs.HeaderBlock.{BlockPoint, DecodesBlock, HeaderBlock, behind, block_from, block_step, field_step, header_block, header_block_within, with_field}
use Rattle.hpack_codec.specs.declared.fault.BlockFault.TheVariants.{Bad, TooLong}
use Rattle.hpack_codec.proofs.BlockLemmas.{BlockResult}
use Rattle.hpack_codec.proofs.RoomLemmas.{any_room, limit_is, size_of}

-- what is bad is bad with more room
abbrev BadWithMore : List ℕ → Type 0
BadWithMore bs =
    (at : BlockPoint) (skip n o : ℕ) → at.room ≤ n → block_from at skip bs ≡ Err (Bad o)
    → block_from (record at { room = n }) skip bs ≡ Err (Bad o)

bad_test : (room n o : ℕ) (f : HeaderField) (x y : BlockResult) (old new : Bool) → room ≤ n
    → nat_lt room (field_size f) ≡ old → nat_lt n (field_size f) ≡ new → (x ≡ Err (Bad o) → y ≡ Err (Bad o))
    → (if old then Err TooLong else with_field f x) ≡ Err (Bad o)
    → (if new then Err TooLong else with_field f y) ≡ Err (Bad o)
bad_test room n o f x y true new l p q ih e = absurd (cc)
bad_test room n o f (Ok s) y false new l p q ih e = absurd (cc)
bad_test room n o f (Err g) y false true l p q ih e = absurd (grind (arith, nat_tests))
bad_test room n o f (Err g) y false false l p q ih e = ap (with_field f) (ih e)

bad_field : (at : BlockPoint) (n o : ℕ) (p : Representation) (field : Option HeaderField) (bs : List ℕ)
    → BadWithMore bs → at.room ≤ n → field_step at p field (λ next skip. block_from next skip bs) ≡ Err (Bad o)
    → field_step (record at { room = n }) p field (λ next skip. block_from next skip bs) ≡ Err (Bad o)
bad_field at n o p None bs ih l e = ih (behind at p at.late at.room) (p.len - 1) n o l e
bad_field at n o p (Some f) bs ih l e =
    let less : at.room - field_size f ≤ n - field_size f = omega arith in
    bad_test at.room n o f
    (block_from (behind at p true (at.room - field_size f)) (p.len - 1) bs)
    (block_from (behind at p true (n - field_size f)) (p.len - 1) bs)
    (nat_lt at.room (field_size f)) (nat_lt n (field_size f)) l refl refl
    (ih (behind at p true (at.room - field_size f)) (p.len - 1) (n - field_size f) o less) e

bad_step : (at : BlockPoint) (n o : ℕ) (read : Option Representation) (bs : List ℕ) → BadWithMore bs → at.room ≤ n
    → block_step at read (λ next skip. block_from next skip bs) ≡ Err (Bad o)
    → block_step (record at { room = n }) read (λ next skip. block_from next skip bs) ≡ Err (Bad o)
bad_step at n o None bs ih l e = e
bad_step at n o (Some p) bs ih l e = bad_field at n o p p.field bs ih l e

bad_more : (bs : List ℕ) → BadWithMore bs
bad_more [] at zero n o l e = absurd (cc)
bad_more [] at (suc skip) n o l e = absurd (cc)
bad_more (b ∷ bs) at (suc skip) n o l e = bad_more bs at skip n o l e
bad_more (b ∷ bs) at zero n o l e =
    bad_step at n o (representation_in at.table at.late (b ∷ bs)) bs (bad_more bs) l e

-- where the reading of a block begins, with this room
abbrev start : HeaderTable → ℕ → BlockPoint
start t room = record { offset = 0; table = t; late = false; room = room }

abbrev spelled : List HeaderField → HeaderTable → HeaderBlock
spelled fields after = record { fields = fields; table = after }

bad_by : (t : HeaderTable) (block : List ℕ) (o : ℕ) (fields : List HeaderField) (after : HeaderTable)
    → header_block t block ≡ Err (Bad o) → DecodesBlock t block fields after
    → (65536 < fields_size fields) ⊎ (fields_size fields ≤ 65536) → ⊥
unfolding header_block header_block_within
bad_by t block o fields after e d (inl l) =
    let more = bad_more block (start t 65536) 0 (fields_size fields) o (omega (arith, l)) e in
    let both : Ok (spelled fields after) ≡ Err (Bad o) = sym d ∙ more in
    absurd (cc (both))
bad_by t block o fields after e d (inr l) =
    let read = (limit_is t block (spelled fields after)).1 (d, l) in
    let both : Ok (spelled fields after) ≡ Err (Bad o) = sym read ∙ e in
    absurd (cc (both))

-- a bad block spells no fields, whatever the limit
pub bad_spells_none : (t : HeaderTable) (block : List ℕ) (o : ℕ) (fields : List HeaderField) (after : HeaderTable)
    → header_block t block ≡ Err (Bad o) → DecodesBlock t block fields after → ⊥
bad_spells_none t block o fields after e d = bad_by t block o fields after e d (cases_lt 65536 (fields_size fields))

past_limit : (t : HeaderTable) (block : List ℕ) (fields : List HeaderField) (after : HeaderTable)
    → DecodesBlock t block fields after → header_block t block ≡ Err TooLong
    → (65536 < fields_size fields) ⊎ (fields_size fields ≤ 65536) → 65536 < fields_size fields
past_limit t block fields after d e (inl l) = l
past_limit t block fields after d e (inr l) =
    let read = (limit_is t block (spelled fields after)).1 (d, l) in
    let both : Ok (spelled fields after) ≡ Err TooLong = sym read ∙ e in
    absurd (cc (both))

read_past : (t : HeaderTable) (block : List ℕ) (fields : List HeaderField) (after : HeaderTable) (r : HeaderBlock)
    → DecodesBlock t block fields after → 65536 < fields_size fields → header_block t block ≡ Ok r → ⊥
unfolding header_block header_block_within
read_past t block fields after r d l e =
    let fits : fields_size r.fields ≤ 65536 = ((limit_is t block r).0 e).1 in
    let more = any_room block (start t 65536) 0 (fields_size fields) r e (omega (arith, fits, l)) in
    let size : fields_size r.fields ≡ fields_size fields = ap size_of (sym more ∙ d) in
    omega (arith, fits, l, size)

too_long_by : (t : HeaderTable) (block : List ℕ) (fields : List HeaderField) (after : HeaderTable) (x : BlockResult)
    → DecodesBlock t block fields after → 65536 < fields_size fields → header_block t block ≡ x → x ≡ Err TooLong
too_long_by t block fields after (Ok r) d l e = absurd (read_past t block fields after r d l e)
too_long_by t block fields after (Err (Bad o)) d l e = absurd (bad_spells_none t block o fields after e d)
too_long_by t block fields after (Err TooLong) d l e = refl

-- a block that spells fields is too long exactly where their sizes pass the limit
pub too_long_is : (t : HeaderTable) (block : List ℕ) (fields : List HeaderField) (after : HeaderTable)
    → DecodesBlock t block fields after → (header_block t block ≡ Err TooLong) ↔ (65536 < fields_size fields)
too_long_is t block fields after d = (
  λ e. past_limit t block fields after d e (cases_lt 65536 (fields_size fields)),
  λ l. too_long_by t block fields after (header_block t block) d l refl,
)
