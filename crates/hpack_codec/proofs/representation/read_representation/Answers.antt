use Rattle.std.proofs.Common.{Option, sym, subst, arith}
use Rattle.hpack_codec.specs.FieldRepresentation.{Representation}
use Rattle.hpack_codec.specs.RepresentationReads.{is_late, IsRead}
use Rattle.hpack_codec.proofs.RepresentationLemmas.{alone_in, added_in, indexed_in, none_in, size_in}
use Rattle.hpack_codec.proofs.representation.read_representation.Goals as goal

pub returns-in-None-clause-read : goal.returns-in-None-clause-read
returns-in-None-clause-read c = none_in c.args.table.now (is_late c.args.fields.now) c.args.bytes.now (sym c.in-None.ensures.value)

pub returns-in-Some-0-to-31-clause-read : goal.returns-in-Some-0-to-31-clause-read
returns-in-Some-0-to-31-clause-read c =
    let is = alone_in c.args.table.now (is_late c.args.fields.now) c.args.bytes.now c.in-Some-0-to-31.field-0.now (sym c.in-Some-0-to-31.ensures.value) (omega arith) in
    subst (λ (r : Option Representation). IsRead r c.args.table.now c.args.fields.now c.read_alone.new.fields c.read_alone.result) (sym is) c.read_alone.ensures.read

pub returns-in-Some-32-to-63-clause-read : goal.returns-in-Some-32-to-63-clause-read
returns-in-Some-32-to-63-clause-read c =
    let is = size_in c.args.table.now (is_late c.args.fields.now) c.args.bytes.now c.in-Some-32-to-63.field-0.now (sym c.in-Some-32-to-63.ensures.value) (omega arith) (omega arith) in
    subst (λ (r : Option Representation). IsRead r c.read_size.new.table c.args.fields.now c.read_size.new.fields c.read_size.result) (sym is) c.read_size.ensures.read

pub returns-in-Some-64-to-127-clause-read : goal.returns-in-Some-64-to-127-clause-read
returns-in-Some-64-to-127-clause-read c =
    let is = added_in c.args.table.now (is_late c.args.fields.now) c.args.bytes.now c.in-Some-64-to-127.field-0.now (sym c.in-Some-64-to-127.ensures.value) (omega arith) (omega arith) in
    subst (λ (r : Option Representation). IsRead r c.read_added.new.table c.args.fields.now c.read_added.new.fields c.read_added.result) (sym is) c.read_added.ensures.read

pub returns-in-Some-128-to-255-clause-read : goal.returns-in-Some-128-to-255-clause-read
returns-in-Some-128-to-255-clause-read c =
    let is = indexed_in c.args.table.now (is_late c.args.fields.now) c.args.bytes.now c.in-Some-128-to-255.field-0.now (sym c.in-Some-128-to-255.ensures.value) (omega arith) in
    subst (λ (r : Option Representation). IsRead r c.args.table.now c.args.fields.now c.read_indexed.new.fields c.read_indexed.result) (sym is) c.read_indexed.ensures.read
