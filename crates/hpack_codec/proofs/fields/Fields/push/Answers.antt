use Rattle.std.proofs.Common.{◌≡◌, ◌++◌, ◌∷◌, ◌∙◌, [], ◌+◌, length, ap, sym, List, ℕ, arith, subst, refl, length-append}
use Rattle.hpack_codec.specs.StaticTable.{HeaderField}
use Rattle.hpack_codec.specs.DynamicTable.{fields_size}
use Rattle.hpack_codec.specs.FieldSpans.{AreSpans, fields_in}
use Rattle.hpack_codec.specs.declared.fields.FieldSpan.{FieldSpan}
use Rattle.hpack_codec.proofs.FieldLemmas.{pushed, spans_pushed}
use Rattle.hpack_codec.proofs.fields.Fields.push.Goals as goal

pub invariant_of-self : goal.invariant_of-self
invariant_of-self c =
    let e : c.append_within-2.new.out.items ≡ (c.self.inside.bytes.items ++ c.args.name.now) ++ c.args.value.now =
    c.append_within-2.ensures.items ∙ ap (λ (xs : List ℕ). xs ++ c.args.value.now) c.append_within.ensures.items in
    let s : FieldSpan = record { start = c.len-start.result; middle = c.len-start.result + length c.args.name.now; end = (c.len-start.result + length c.args.name.now) + length c.args.value.now } in
    let spans = spans_pushed c.self.inside.bytes.items c.args.name.now c.args.value.now c.append_within-2.new.out.items c.self.inside.spans.items s c.self.invariant.0 e (omega arith) (omega arith) (omega arith) in
    let size : fields_size (fields_in c.self.inside.bytes.items c.self.inside.spans.items) ≡ fields_size c.args.self.now = ap fields_size c.self.view_is in
    let len : length c.append_within-2.new.out.items ≡ (length c.self.inside.bytes.items + length c.args.name.now) + length c.args.value.now = ap length e ∙ rw (length-append, length-append) refl in
    let old = c.self.invariant.0.size in
    (subst (λ (ss : List FieldSpan). AreSpans c.append_within-2.new.out.items ss) (sym c.in-Ok.ensures.items) spans, omega arith, omega arith, omega arith)

pub returns : goal.returns
returns c =
    let e : c.append_within-2.new.out.items ≡ (c.self.inside.bytes.items ++ c.args.name.now) ++ c.args.value.now =
    c.append_within-2.ensures.items ∙ ap (λ (xs : List ℕ). xs ++ c.args.value.now) c.append_within.ensures.items in
    let s : FieldSpan = record { start = c.len-start.result; middle = c.len-start.result + length c.args.name.now; end = (c.len-start.result + length c.args.name.now) + length c.args.value.now } in
    ap (fields_in c.append_within-2.new.out.items) c.in-Ok.ensures.items
    ∙ (pushed c.self.inside.bytes.items c.args.name.now c.args.value.now c.append_within-2.new.out.items c.self.inside.spans.items s c.self.invariant.0 e (omega arith) (omega arith) (omega arith)
    ∙ ap (λ (fs : List HeaderField). fs ++ (c.args.name.now, c.args.value.now) ∷ []) c.self.view_is)
