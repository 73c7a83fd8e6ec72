-- A block that is written spells its fields from every table.
use Rattle.std.proofs.Common.{◌≡◌, ◌+◌, ◌<◌, ◌≤◌, ◌++◌, ℕ, Bool, true, false, List, [], ◌∷◌, length, Some, Ok, None, refl, ap, ◌∙◌, arith, append-nil, length-append}
use Rattle.std.specs.List.{flat_map, AllByRecursion}
use Rattle.std.proofs.Math.Seq.{drop-append_seam}
use Rattle.hpack_codec.specs.StaticTable.{HeaderField}
use Rattle.hpack_codec.specs.DynamicTable.{HeaderTable, fields_size, resized_to}
use Rattle.hpack_codec.specs.FieldRepresentation.{Representation, representation_in}
use Rattle.hpack_codec.specs.HeaderBlock.{BlockPoint, DecodesBlock, block_from, header_block_within, with_field}
use Rattle.hpack_codec.specs.EncodedBlock.{IsShort, encoded_block, encoded_field, table_behind}
use Rattle.hpack_codec.proofs.BlockLemmas.{behind_field, no_field, one_field}
use Rattle.hpack_codec.proofs.WrittenFields.{field_spells}

-- no representation takes no byte
some_byte : (t : HeaderTable) (late : Bool) (bytes : List ℕ) (r : Representation) → representation_in t late bytes ≡ Some r → 0 < length bytes
unfolding representation_in
some_byte t late [] r e = absurd (cc)
some_byte t late (b ∷ bs) r e = omega arith

-- fields that are written are spelled, wherever the reading stands
pub fields_spelled : (at : BlockPoint) (fields : List HeaderField) → AllByRecursion IsShort fields → fields_size fields ≤ at.room
    → block_from at 0 (flat_map encoded_field fields) ≡ Ok (record { fields = fields; table = at.table })
fields_spelled at [] short fits = refl
fields_spelled at (f ∷ fs) short fits =
    let bytes = encoded_field f in
    let more = flat_map encoded_field fs in
    let len = length bytes in
    let spelled = field_spells at.table at.late f more short.0.name short.0.value in
    let alone = some_byte at.table at.late (bytes ++ []) (record { field = Some f; table = at.table; len = len }) (field_spells at.table at.late f [] short.0.name short.0.value) in
    let some : 0 < len = rw (append-nil bytes) at alone in
    let all : 0 < length (bytes ++ more) = rw length-append (omega arith) in
    let next : BlockPoint = behind_field at f at.table len in
    one_field at (bytes ++ more) f at.table len all some (omega arith) spelled
    ∙ (ap (λ (xs : List ℕ). with_field f (block_from next 0 xs)) (drop-append_seam bytes more)
    ∙ ap (with_field f) (fields_spelled next fs short.1 (omega arith)))

size_spelled : (t : HeaderTable) (more : List ℕ) → representation_in t false (0x20 ∷ more) ≡ Some (record { field = None; table = resized_to t 0; len = 1 })
unfolding representation_in
size_spelled t more = refl

-- a block that is written spells its fields, and leaves this table
pub block_spelled : (t : HeaderTable) (first : Bool) (fields : List HeaderField) → AllByRecursion IsShort fields → DecodesBlock t (encoded_block first fields) fields (table_behind first t)
unfolding header_block_within
block_spelled t false fields short = fields_spelled (record { offset = 0; table = t; late = false; room = fields_size fields }) fields short (omega arith)
block_spelled t true fields short =
    let more = flat_map encoded_field fields in
    let at : BlockPoint = record { offset = 0; table = t; late = false; room = fields_size fields } in
    no_field at (0x20 ∷ more) (resized_to t 0) 1 (omega arith) (omega arith) (size_spelled t more)
    ∙ fields_spelled (record { offset = 0 + 1; table = resized_to t 0; late = false; room = fields_size fields }) fields short (omega arith)
