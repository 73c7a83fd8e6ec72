use Rattle.std.proofs.Common.{◌∙◌, Err, Ok, List, ap, sym, subst, arith, refl}
use Rattle.hpack_codec.specs.StaticTable.{HeaderField}
use Rattle.hpack_codec.specs.BlockReads.{IsBlockRead}
use Rattle.hpack_codec.specs.HeaderBlock.{header_block}
use Rattle.hpack_codec.specs.declared.fault.BlockFault.TheVariants.{Bad, TooLong}
use Rattle.hpack_codec.proofs.BlockLemmas.{BlockResult}
use Rattle.hpack_codec.proofs.BlockReadLemmas.{at_start, is_bad, is_read, is_too_long, reads_on, so_far, within_block}
use Rattle.hpack_codec.proofs.decoder.read_block.Goals as goal

pub loop-offset-init : goal.loop-offset-init
loop-offset-init c = record {
  read = at_start c.args.table.now c.args.block.now ∙ ap (λ (fs : List HeaderField). so_far fs c.args.table.now 0 c.args.block.now) (sym c.requires.fields);
  within = omega arith;
  capacity = c.requires.capacity;
}

pub loop-offset-preserved : goal.loop-offset-preserved
loop-offset-preserved c = record {
  read = reads_on (header_block c.args.table.now c.args.block.now) c.loop-offset.fields c.read_representation.new.fields c.loop-offset.table c.read_representation.new.table c.loop-offset.offset c.in-Ok.len c.args.block.now
      c.loop-offset-test.true c.in-Ok.ensures.len.0 c.in-Ok.ensures.read c.loop-offset.invariant.read;
  within = within_block c.args.block.now c.loop-offset.offset c.in-Ok.len c.loop-offset-test.true c.in-Ok.ensures.len.1;
  capacity = c.read_representation.ensures.capacity;
}

pub returns-in-Err-Bad-clause-read : goal.returns-in-Err-Bad-clause-read
returns-in-Err-Bad-clause-read c =
    let none = rw c.in-Err-Bad.field-0-is at c.in-Err-Bad.ensures.read in
    let is = is_bad (header_block c.args.table.now c.args.block.now) c.loop-offset.fields c.loop-offset.table c.loop-offset.offset c.args.block.now c.loop-offset-test.true none c.loop-offset.invariant.read in
    subst (λ (r : BlockResult). IsBlockRead r (Err (Bad c.loop-offset.offset)) c.read_representation.new.fields c.read_representation.new.table) (sym is) refl

pub returns-in-Err-TooLong-clause-read : goal.returns-in-Err-TooLong-clause-read
returns-in-Err-TooLong-clause-read c =
    let long = rw c.in-Err-TooLong.field-0-is at c.in-Err-TooLong.ensures.read in
    let is = is_too_long (header_block c.args.table.now c.args.block.now) c.loop-offset.fields c.loop-offset.table c.loop-offset.offset c.args.block.now c.loop-offset-test.true long c.loop-offset.invariant.read in
    subst (λ (r : BlockResult). IsBlockRead r (Err TooLong) c.read_representation.new.fields c.read_representation.new.table) (sym is) refl

pub returns-clause-read : goal.returns-clause-read
returns-clause-read c =
    let is = is_read (header_block c.args.table.now c.args.block.now) c.loop-offset.fields c.loop-offset.table c.loop-offset.offset c.args.block.now (omega arith) c.loop-offset.invariant.read in
    subst (λ (r : BlockResult). IsBlockRead r (Ok tt) c.loop-offset.fields c.loop-offset.table) (sym is) (refl, refl)
