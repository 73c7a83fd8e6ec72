-- Where the reading of a block stops, and what it gives there: the whole block is representations, none begins, or one
-- passes the limit.
use Rattle.std.proofs.Common.{◌≡◌, ◌↔◌, ◌⊎◌, inl, inr, ◌+◌, ◌-◌, ◌<◌, ◌≤◌, ◌++◌, ◌||◌, ℕ, zero, suc, Bool, true}
use Rattle.std.proofs.Common.{false, List}
use Rattle.std.proofs.Common.{[], ◌∷◌, length, drop, Option, Some, None, Ok, Err, refl, ap, sym, ◌∙◌, subst, arith}
use Rattle.std.proofs.Common.{append_assoc, append-nil, length-drop}
use Rattle.std.specs.Option.{is_some, option_to_list}
use Rattle.std.proofs.lemmas.Bool.{cases_lt}
use Rattle.std.proofs.lemmas.List.{drop_all, drop-drop}
use Rattle.hpack_codec.specs.StaticTable.{HeaderField}
use Rattle.hpack_codec.specs.DynamicTable.{HeaderTable, field_size, fields_size}
use Rattle.hpack_codec.specs.FieldRepresentation.{Representation}
use Rattle.hpack_codec.specs.HeaderBlock.{BlockPoint, DecodesBlock, HeaderBlock, block_from, header_block}
use Rattle.hpack_codec.specs.HeaderBlock.{header_block_within, with_field}
use Rattle.hpack_codec.specs.BlockRepresentations.{RepresentationStart, block_start, representation_at, next_start}
use Rattle.hpack_codec.specs.BlockRepresentations.{AreRepresentations, fields_of, BlockFront, IsListOfRepresentations}
use Rattle.hpack_codec.specs.BlockRepresentations.{IsBadAt, PassesLimit}
use Rattle.hpack_codec.specs.declared.fault.BlockFault.TheVariants.{Bad, TooLong}
use Rattle.hpack_codec.proofs.FieldLemmas.{size_append}
use Rattle.hpack_codec.proofs.BlockLemmas.{BlockResult, behind_field, long_field, no_field, no_representation}
use Rattle.hpack_codec.proofs.BlockLemmas.{one_field}
use Rattle.hpack_codec.proofs.BlockReadLemmas.{before_none, with_fields}
use Rattle.hpack_codec.proofs.RepresentationSizes.{representation_takes}

-- where the reading stands that may add so much to the fields
abbrev point_at : RepresentationStart → ℕ → BlockPoint
point_at s room = record { offset = s.offset; table = s.table; late = s.late; room = room }

-- what the block spells from there on
abbrev spelled_from : List ℕ → RepresentationStart → ℕ → BlockResult
spelled_from block s room = block_from (point_at s room) 0 (drop s.offset block)

with_both : (fs gs : List HeaderField) (x : BlockResult) → with_fields fs (with_fields gs x) ≡ with_fields (fs ++ gs) x
with_both fs gs (Ok r) =
    ap (λ (hs : List HeaderField). Ok (record { fields = hs; table = r.table })) (sym (append_assoc fs gs r.fields))
with_both fs gs (Err e) = refl

with_one : (f : HeaderField) (x : BlockResult) → with_field f x ≡ with_fields (f ∷ []) x
with_one f (Ok r) = refl
with_one f (Err e) = refl

or_false : (b : Bool) → (b || false) ≡ b
or_false true = refl
or_false false = refl

or_true : (b : Bool) → (b || true) ≡ true
or_true true = refl
or_true false = refl

-- the same reading, by its parts
point_is : (block : List ℕ) (offset other room rest : ℕ) (table : HeaderTable) (late last : Bool) → offset ≡ other
    → late ≡ last → room ≡ rest
    → block_from (record { offset = offset; table = table; late = late; room = room }) 0 (drop other block)
    ≡ block_from (record { offset = other; table = table; late = last; room = rest }) 0 (drop other block)
point_is block offset other room rest table late last e f g = rw (e, f, g) refl

-- one representation
go_one : (field : Option HeaderField) (r : Representation) (s : RepresentationStart) (room : ℕ) (block : List ℕ)
    → r.field ≡ field → representation_at block s ≡ Some r → fields_size (option_to_list field) ≤ room
    → spelled_from block s room
    ≡ with_fields (option_to_list field)
    (spelled_from block (next_start s r) (room - fields_size (option_to_list field)))
go_one None r s room block g e h =
    let bytes = drop s.offset block in
    let takes = representation_takes s.table s.late bytes r e in
    let is = e ∙ ap (λ (o : Option HeaderField). Some (record { field = o; table = r.table; len = r.len })) g in
    let late : s.late ≡ (s.late || is_some r.field) = sym (ap (λ (o : Option HeaderField). s.late || is_some o) g
    ∙ or_false s.late) in
    let same : room ≡ room - 0 = omega arith in
    no_field (point_at s room) bytes r.table r.len (omega (arith, takes.0, takes.1)) takes.0 is
    ∙ (ap (block_from (record { offset = s.offset + r.len; table = r.table; late = s.late; room = room }) 0)
    (drop-drop r.len s.offset block)
    ∙ (point_is block (s.offset + r.len) (s.offset + r.len) room (room - 0) r.table s.late (s.late || is_some r.field)
    refl late same
    ∙ sym (before_none (spelled_from block (next_start s r) (room - 0)))))
go_one (Some f) r s room block g e h =
    let bytes = drop s.offset block in
    let takes = representation_takes s.table s.late bytes r e in
    let is = e ∙ ap (λ (o : Option HeaderField). Some (record { field = o; table = r.table; len = r.len })) g in
    let late : true ≡ (s.late || is_some r.field) = sym (ap (λ (o : Option HeaderField). s.late || is_some o) g
    ∙ or_true s.late) in
    let left : room - field_size f ≡ room - (field_size f + 0) = omega arith in
    one_field (point_at s room) bytes f r.table r.len (omega (arith, takes.0, takes.1)) takes.0 (omega (arith, h)) is
    ∙ (with_one f (block_from (behind_field (point_at s room) f r.table r.len) 0 (drop r.len bytes))
    ∙ ap (with_fields (f ∷ []))
    (ap (block_from (behind_field (point_at s room) f r.table r.len) 0) (drop-drop r.len s.offset block)
    ∙ point_is block (s.offset + r.len) (s.offset + r.len) (room - field_size f) (room - (field_size f + 0)) r.table
    true (s.late || is_some r.field) refl late left))

-- representations, and what stands behind them
go_on : (rs : List Representation) (s end : RepresentationStart) (room : ℕ) (block : List ℕ)
    → AreRepresentations block s rs end
    → fields_size (fields_of rs) ≤ room
    → spelled_from block s room ≡ with_fields (fields_of rs)
    (spelled_from block end (room - fields_size (fields_of rs)))
go_on [] s end room block a h =
    let same : room ≡ room - 0 = omega arith in
    ap (λ (e : RepresentationStart). spelled_from block e room) a
    ∙ (ap (spelled_from block end) same ∙ sym (before_none (spelled_from block end (room - 0))))
go_on (r ∷ rs) s end room block a h =
    let one = option_to_list r.field in
    let size : fields_size (one ++ fields_of rs) ≡ fields_size one + fields_size (fields_of rs) =
    size_append one (fields_of rs) in
    let left : (room - fields_size one) - fields_size (fields_of rs) ≡ room - fields_size (one ++ fields_of rs) =
    omega (arith, size) in
    go_one r.field r s room block refl a.0 (omega (arith, size, h))
    ∙ (ap (with_fields one) (go_on rs (next_start s r) end (room - fields_size one) block a.1 (omega (arith, size, h)))
    ∙ (with_both one (fields_of rs) (spelled_from block end ((room - fields_size one) - fields_size (fields_of rs)))
    ∙ ap (λ (n : ℕ). with_fields (one ++ fields_of rs) (spelled_from block end n)) left))

-- what a front gives, by what stands behind it
front_gives : (limit : ℕ) (t : HeaderTable) (block : List ℕ) (front : BlockFront t block)
    → fields_size (fields_of front.representations) ≤ limit
    → header_block_within limit t block
    ≡ with_fields (fields_of front.representations)
    (spelled_from block front.end (limit - fields_size (fields_of front.representations)))
unfolding header_block_within
front_gives limit t block front h = go_on front.representations (block_start t) front.end limit block front.are h

at_end : (block : List ℕ) (s : RepresentationStart) (room : ℕ) → s.offset ≡ length block
    → spelled_from block s room ≡ Ok (record { fields = []; table = s.table })
at_end block s room e = ap (block_from (point_at s room) 0) (drop_all s.offset block (omega (arith, e)))

-- the whole block is representations
whole_gives : (limit : ℕ) (t : HeaderTable) (block : List ℕ) (front : BlockFront t block)
    → fields_size (fields_of front.representations) ≤ limit → front.end.offset ≡ length block
    → header_block_within limit t block
    ≡ Ok (record { fields = fields_of front.representations; table = front.end.table })
whole_gives limit t block front h e =
    front_gives limit t block front h
    ∙ (ap (with_fields (fields_of front.representations))
    (at_end block front.end (limit - fields_size (fields_of front.representations)) e)
    ∙ ap (λ (fs : List HeaderField). Ok (record { fields = fs; table = front.end.table }))
    (append-nil (fields_of front.representations)))

-- none begins
bad_gives : (limit : ℕ) (t : HeaderTable) (block : List ℕ) (offset : ℕ) → IsBadAt limit t block offset
    → header_block_within limit t block ≡ Err (Bad offset)
bad_gives limit t block offset b =
    let fs = fields_of b.front.representations in
    let left : length (drop b.front.end.offset block) ≡ length block - b.front.end.offset =
    length-drop b.front.end.offset block in
    let some : 0 < length (drop b.front.end.offset block) = omega (arith, left, b.within, b.ends_at) in
    front_gives limit t block b.front b.fits
    ∙ (ap (with_fields fs) (no_representation (point_at b.front.end (limit - fields_size fs))
    (drop b.front.end.offset block) some b.none)
    ∙ ap (λ (n : ℕ). Err (Bad n)) b.ends_at)

-- one passes the limit
long_gives : (limit : ℕ) (t : HeaderTable) (block : List ℕ) → PassesLimit limit t block
    → header_block_within limit t block ≡ Err TooLong
long_gives limit t block p =
    let fs = fields_of p.front.representations in
    let s = p.front.end in
    let takes = representation_takes s.table s.late (drop s.offset block) p.next p.is_next in
    front_gives limit t block p.front p.fits
    ∙ ap (with_fields fs) (long_field (point_at s (limit - fields_size fs)) (drop s.offset block) p.field p.next
    (omega (arith, takes.0, takes.1)) (omega (arith, p.passes, p.fits)) p.is_next p.has_field)

-- a representation begins here whose field is larger than the room
record IsLong (block : List ℕ) (s : RepresentationStart) (room : ℕ) : Type 0 where
  next : Representation
  is_next : representation_at block s ≡ Some next
  field : HeaderField
  has_field : next.field ≡ Some field
  long : room < field_size field

-- why the reading goes no further
abbrev Stops : List ℕ → RepresentationStart → ℕ → Type 0
Stops block s room =
    (s.offset ≡ length block)
    ⊎ (((s.offset < length block) × (representation_at block s ≡ None)) ⊎ IsLong block s room)

-- the representations within the room, and why the reading goes no further
record Stop (block : List ℕ) (s : RepresentationStart) (room : ℕ) : Type 0 where
  representations : List Representation
  end : RepresentationStart
  are : AreRepresentations block s representations end
  fits : fields_size (fields_of representations) ≤ room
  stops : Stops block end (room - fields_size (fields_of representations))

stop_here : (block : List ℕ) (s : RepresentationStart) (room : ℕ) → Stops block s room → Stop block s room
stop_here block s room why =
    let same : room ≡ room - 0 = omega arith in
    record { representations = []; end = s; are = refl; fits = omega arith; stops = subst (Stops block s) same why }

stop_behind : (block : List ℕ) (s : RepresentationStart) (room : ℕ) (r : Representation)
    → representation_at block s ≡ Some r
    → fields_size (option_to_list r.field) ≤ room
    → Stop block (next_start s r) (room - fields_size (option_to_list r.field))
    → Stop block s room
stop_behind block s room r e h x =
    let one = option_to_list r.field in
    let size : fields_size (one ++ fields_of x.representations)
    ≡ fields_size one + fields_size (fields_of x.representations) =
    size_append one (fields_of x.representations) in
    let left : (room - fields_size one) - fields_size (fields_of x.representations)
    ≡ room - fields_size (one ++ fields_of x.representations) =
    omega (arith, size) in
    record {
      representations = r ∷ x.representations;
      end = x.end;
      are = (e, x.are);
      fits = omega (arith, size, h, x.fits);
      stops = subst (Stops block x.end) left x.stops;
    }

-- the reading stops where so many bytes are left at most
abbrev AllStop : List ℕ → ℕ → Type 0
AllStop block n =
    (s : RepresentationStart) (room : ℕ) → s.offset ≤ length block → length block ≤ s.offset + n → Stop block s room

stop_field : (block : List ℕ) (n : ℕ) (s : RepresentationStart) (room : ℕ) (r : Representation)
    (field : Option HeaderField)
    → AllStop block n → r.field ≡ field → representation_at block s ≡ Some r → s.offset + r.len ≤ length block
    → length block ≤ s.offset + r.len + n → Stop block s room
stop_field block n s room r None all g e l m =
    let none : fields_size (option_to_list r.field) ≡ 0 =
    ap (λ (o : Option HeaderField). fields_size (option_to_list o)) g in
    stop_behind block s room r e (omega (arith, none))
    (all (next_start s r) (room - fields_size (option_to_list r.field)) l m)
stop_field block n s room r (Some f) all g e l m = by_size (cases_lt room (field_size f))
  where
    by_size : (room < field_size f) ⊎ (field_size f ≤ room) → Stop block s room
    by_size (inl long) = stop_here block s room
        (inr (inr (record { next = r; is_next = e; field = f; has_field = g; long = long })))
    by_size (inr fits) =
        let one : fields_size (option_to_list r.field) ≡ field_size f + 0 =
        ap (λ (o : Option HeaderField). fields_size (option_to_list o)) g in
        stop_behind block s room r e (omega (arith, one, fits))
        (all (next_start s r) (room - fields_size (option_to_list r.field)) l m)

stop_read : (block : List ℕ) (n : ℕ) (s : RepresentationStart) (room : ℕ) (read : Option Representation)
    → AllStop block n
    → representation_at block s ≡ read → s.offset < length block → length block ≤ s.offset + suc n → Stop block s room
stop_read block n s room None all e l m = stop_here block s room (inr (inl (l, e)))
stop_read block n s room (Some r) all e l m =
    let takes = representation_takes s.table s.late (drop s.offset block) r e in
    let left : length (drop s.offset block) ≡ length block - s.offset = length-drop s.offset block in
    stop_field block n s room r r.field all refl e (omega (arith, takes.1, left, l)) (omega (arith, takes.0, m))

stop_by : (block : List ℕ) (n : ℕ) (s : RepresentationStart) (room : ℕ) → AllStop block n → s.offset ≤ length block
    → length block ≤ s.offset + suc n → (s.offset < length block) ⊎ (length block ≤ s.offset) → Stop block s room
stop_by block n s room all l m (inl h) = stop_read block n s room (representation_at block s) all refl h m
stop_by block n s room all l m (inr h) = stop_here block s room (inl (omega arith))

all_stop : (block : List ℕ) (n : ℕ) → AllStop block n
all_stop block zero s room l m = stop_here block s room (inl (omega arith))
all_stop block (suc n) s room l m = stop_by block n s room (all_stop block n) l m (cases_lt s.offset (length block))

-- where the reading of a block stops
stop_of : (limit : ℕ) (t : HeaderTable) (block : List ℕ) → Stop block (block_start t) limit
stop_of limit t block = all_stop block (length block) (block_start t) limit (omega arith) (omega arith)

-- the representations that were read
abbrev front_of : (t : HeaderTable) (block : List ℕ) (limit : ℕ) → Stop block (block_start t) limit → BlockFront t block
front_of t block limit x = record { representations = x.representations; end = x.end; are = x.are }

-- which of the three it is
abbrev Given : (limit : ℕ) (t : HeaderTable) (block : List ℕ) → Type 0
Given limit t block =
    ((r : HeaderBlock) × IsListOfRepresentations t block r.fields r.table × (header_block_within limit t block ≡ Ok r))
    ⊎ (((offset : ℕ) × IsBadAt limit t block offset × (header_block_within limit t block ≡ Err (Bad offset)))
    ⊎ (PassesLimit limit t block × (header_block_within limit t block ≡ Err TooLong)))

given_by : (limit : ℕ) (t : HeaderTable) (block : List ℕ) (x : Stop block (block_start t) limit)
    → Stops block x.end (limit - fields_size (fields_of x.representations)) → Given limit t block
given_by limit t block x (inl whole) = inl (
  record { fields = fields_of x.representations; table = x.end.table },
  record { front = front_of t block limit x; whole = whole; fields_are = refl; table_is = refl },
  whole_gives limit t block (front_of t block limit x) x.fits whole,
)
given_by limit t block x (inr (inl none)) =
    let bad : IsBadAt limit t block x.end.offset = record {
      front = front_of t block limit x;
      fits = x.fits;
      ends_at = refl;
      within = none.0;
      none = none.1;
    } in
    inr (inl (x.end.offset, bad, bad_gives limit t block x.end.offset bad))
given_by limit t block x (inr (inr long)) =
    let past : PassesLimit limit t block = record {
      front = front_of t block limit x;
      fits = x.fits;
      next = long.next;
      is_next = long.is_next;
      field = long.field;
      has_field = long.has_field;
      passes = omega (arith, long.long, x.fits);
    } in
    inr (inr (past, long_gives limit t block past))

given : (limit : ℕ) (t : HeaderTable) (block : List ℕ) → Given limit t block
given limit t block = let x = stop_of limit t block in given_by limit t block x x.stops

-- two answers to one block
ok_is : (x : BlockResult) (a b : HeaderBlock) → x ≡ Ok a → x ≡ Ok b → a ≡ b
ok_is x a b e f = cc

bad_is : (x : BlockResult) (m n : ℕ) → x ≡ Err (Bad m) → x ≡ Err (Bad n) → m ≡ n
bad_is x m n e f = cc

read_from : (limit : ℕ) (t : HeaderTable) (block : List ℕ) (r : HeaderBlock)
    → header_block_within limit t block ≡ Ok r → Given limit t block
    → IsListOfRepresentations t block r.fields r.table
read_from limit t block r e (inl g) =
    subst (λ (x : HeaderBlock). IsListOfRepresentations t block x.fields x.table)
    (ok_is (header_block_within limit t block) g.0 r g.2 e) g.1
read_from limit t block r e (inr (inl g)) = let no = sym g.2 ∙ e in absurd (cc)
read_from limit t block r e (inr (inr g)) = let no = sym g.1 ∙ e in absurd (cc)

bad_from : (limit : ℕ) (t : HeaderTable) (block : List ℕ) (o : ℕ) → header_block_within limit t block ≡ Err (Bad o)
    → Given limit t block
    → IsBadAt limit t block o
bad_from limit t block o e (inl g) = let no = sym g.2 ∙ e in absurd (cc)
bad_from limit t block o e (inr (inl g)) =
    subst (IsBadAt limit t block) (bad_is (header_block_within limit t block) g.0 o g.2 e) g.1
bad_from limit t block o e (inr (inr g)) = let no = sym g.1 ∙ e in absurd (cc)

long_from : (limit : ℕ) (t : HeaderTable) (block : List ℕ) → header_block_within limit t block ≡ Err TooLong
    → Given limit t block
    → PassesLimit limit t block
long_from limit t block e (inl g) = let no = sym g.2 ∙ e in absurd (cc)
long_from limit t block e (inr (inl g)) = let no = sym g.2 ∙ e in absurd (cc)
long_from limit t block e (inr (inr g)) = g.0

-- a block spells fields exactly where it is a list of representations that do
pub block_is : (t : HeaderTable) (block : List ℕ) (fields : List HeaderField) (after : HeaderTable)
    → DecodesBlock t block fields after ↔ IsListOfRepresentations t block fields after
block_is t block fields after = (
  λ e. read_from (fields_size fields) t block (record { fields = fields; table = after }) e
      (given (fields_size fields) t block),
  λ b.
      let size : fields_size (fields_of b.front.representations) ≡ fields_size fields = ap fields_size b.fields_are in
      whole_gives (fields_size fields) t block b.front (omega (arith, size)) b.whole
      ∙ (ap (λ (fs : List HeaderField). Ok (record { fields = fs; table = b.front.end.table })) b.fields_are
      ∙ ap (λ (table : HeaderTable). Ok (record { fields = fields; table = table })) b.table_is),
)

-- a block is bad exactly where no representation begins
pub bad_at : (t : HeaderTable) (block : List ℕ) (offset : ℕ)
    → (header_block t block ≡ Err (Bad offset)) ↔ IsBadAt 65536 t block offset
unfolding header_block
bad_at t block offset = (
  λ e. bad_from 65536 t block offset e (given 65536 t block),
  λ b. bad_gives 65536 t block
      offset b,
)

-- a block is too long exactly where its fields pass the limit
pub passes_limit : (t : HeaderTable) (block : List ℕ) → (header_block t block ≡ Err TooLong) ↔ PassesLimit 65536 t block
unfolding header_block
passes_limit t block = (λ e. long_from 65536 t block e (given 65536 t block), λ p. long_gives 65536 t block p)
