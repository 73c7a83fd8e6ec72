use Rattle.std.proofs.Common.{◌≤◌, ◌+◌, ◌-◌, List, ℕ, length, take, drop, sym, subst}
use Rattle.hpack_codec.proofs.RepresentationLemmas.{split_fits}
use Rattle.hpack_codec.proofs.representation.read_added.Goals as goal

pub add-requires : goal.add-requires
add-requires c =
    let m = c.in_ok-middle.middle in
    let read = c.in_ok-middle.ensures.read in
    let fits = split_fits c.read_literal_field.new.scratch.items m c.args.fields.now c.read_literal_field.new.fields read.1 read.2 read.3 in
    subst (λ (xs : List ℕ). length (take m xs) + length (take (length xs - m) (drop m xs)) ≤ 65536) (sym c.as_slice-field.ensures.value) fits
