use Rattle.std.proofs.Common.{Some, sym, subst, List, [], ℕ, true}
use Rattle.hpack_codec.specs.DynamicTable.{field_at}
use Rattle.hpack_codec.specs.LiteralReads.{field_split, IsSplitPushed}
use Rattle.hpack_codec.specs.TablePuts.{IsFieldPut}
use Rattle.hpack_codec.proofs.RepresentationLemmas.{indexed_put}
use Rattle.hpack_codec.proofs.representation.read_indexed.Goals as goal

pub returns-then-push_split-clause-read : goal.returns-then-push_split-clause-read
returns-then-push_split-clause-read c =
    let out = c.put_field_at.new.out.items in
    let m = c.in-Some-put_field_at.middle in
    let put : IsFieldPut (field_at c.args.table.now c.in-Some.index) [] out (Some m) =
    subst (λ (xs : List ℕ). IsFieldPut (field_at c.args.table.now c.in-Some.index) xs out (Some m)) c.clear.ensures.items c.in-Some-put_field_at.ensures.put in
    let pushed : IsSplitPushed out m c.args.fields.now c.push_split.new.fields true =
    subst (λ (xs : List ℕ). IsSplitPushed xs m c.args.fields.now c.push_split.new.fields true) c.deref.ensures.value c.if-push_split.ensures in
    record {
      field = Some (field_split m out);
      is = indexed_put c.args.table.now c.args.bytes.now c.in-Some.index c.in-Some.len m out (sym c.in-Some.ensures.value) put;
      fields = pushed.0;
      size = pushed.1;
    }
