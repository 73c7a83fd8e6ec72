use Rattle.std.proofs.Common.{◌≡◌, ◌∙◌, ◌+◌, ◌∷◌, [], List, length, ap, arith, refl, length-append}
use Rattle.hpack_codec.specs.StaticTable.{HeaderField}
use Rattle.hpack_codec.specs.DynamicTable.{HeaderTable}
use Rattle.hpack_codec.specs.TableRings.{bytes_len}
use Rattle.hpack_codec.specs.declared.dynamic_table.FieldLengths.{FieldLengths}
use Rattle.hpack_codec.proofs.TableLemmas.{used_is, appended_by, len_by}
use Rattle.hpack_codec.proofs.dynamic_table.DynamicTable.append.Goals as goal

pub push_lengths-requires : goal.push_lengths-requires
push_lengths-requires c =
    let u = used_is c.self.inside.lengths.items c.self.inside.bytes.items c.self.inside.size c.self.inside.max_size c.args.self.now c.self.invariant.2 c.self.invariant.3 c.self.view_is in
    let m : c.self.inside.max_size ≡ c.args.self.now.max_size = ap (λ (t : HeaderTable). t.max_size) c.self.view_is in
    omega (arith, u, c.requires)

pub push_bytes-requires : goal.push_bytes-requires
push_bytes-requires c =
    let u = used_is c.self.inside.lengths.items c.self.inside.bytes.items c.self.inside.size c.self.inside.max_size c.args.self.now c.self.invariant.2 c.self.invariant.3 c.self.view_is in
    let m : c.self.inside.max_size ≡ c.args.self.now.max_size = ap (λ (t : HeaderTable). t.max_size) c.self.view_is in
    omega (arith, u, c.requires)

pub push_bytes-requires-2 : goal.push_bytes-requires-2
push_bytes-requires-2 c =
    let u = used_is c.self.inside.lengths.items c.self.inside.bytes.items c.self.inside.size c.self.inside.max_size c.args.self.now c.self.invariant.2 c.self.invariant.3 c.self.view_is in
    let m : c.self.inside.max_size ≡ c.args.self.now.max_size = ap (λ (t : HeaderTable). t.max_size) c.self.view_is in
    let len : length c.push_bytes.new.ring.items ≡ length c.self.inside.bytes.items + length c.args.name.now = ap length c.push_bytes.ensures.items ∙ length-append c.self.inside.bytes.items c.args.name.now in
    omega (arith, u, c.requires)

pub invariant_of-self : goal.invariant_of-self
invariant_of-self c =
    let u = used_is c.self.inside.lengths.items c.self.inside.bytes.items c.self.inside.size c.self.inside.max_size c.args.self.now c.self.invariant.2 c.self.invariant.3 c.self.view_is in
    let m : c.self.inside.max_size ≡ c.args.self.now.max_size = ap (λ (t : HeaderTable). t.max_size) c.self.view_is in
    let l : FieldLengths = record { name = length c.args.name.now; value = length c.args.value.now } in
    let len1 : length c.push_bytes.new.ring.items ≡ length c.self.inside.bytes.items + length c.args.name.now = ap length c.push_bytes.ensures.items ∙ length-append c.self.inside.bytes.items c.args.name.now in
    let len2 : length c.push_bytes-2.new.ring.items ≡ length c.push_bytes.new.ring.items + length c.args.value.now = ap length c.push_bytes-2.ensures.items ∙ length-append c.push_bytes.new.ring.items c.args.value.now in
    let count : length c.push_lengths.new.ring.items ≡ length c.self.inside.lengths.items + 1 = ap length c.push_lengths.ensures.items ∙ length-append c.self.inside.lengths.items (l ∷ []) in
    let sum : bytes_len c.push_lengths.new.ring.items ≡ bytes_len c.self.inside.lengths.items + (l.name + l.value) = len_by c.self.inside.lengths.items c.push_lengths.new.ring.items l c.push_lengths.ensures.items in
    let old = c.self.invariant.2 in (
      c.push_lengths.ensures.capacity ∙ c.self.invariant.0,
      c.push_bytes-2.ensures.capacity ∙ (c.push_bytes.ensures.capacity ∙ c.self.invariant.1),
      omega arith,
      omega arith,
      omega (arith, u, c.requires),
      omega arith,
    )

pub returns : goal.returns
returns c =
    let l : FieldLengths = record { name = length c.args.name.now; value = length c.args.value.now } in
    let fields = appended_by c.self.inside.lengths.items c.push_lengths.new.ring.items l c.self.inside.bytes.items c.args.name.now c.args.value.now c.push_bytes.new.ring.items c.push_bytes-2.new.ring.items
    c.self.invariant.2 refl refl c.push_lengths.ensures.items c.push_bytes.ensures.items c.push_bytes-2.ensures.items in
    ap (λ (fs : List HeaderField). record { fields = fs; max_size = c.self.inside.max_size }) fields
    ∙ ap (λ (t : HeaderTable). record { fields = (c.args.name.now, c.args.value.now) ∷ t.fields; max_size = t.max_size }) c.self.view_is
