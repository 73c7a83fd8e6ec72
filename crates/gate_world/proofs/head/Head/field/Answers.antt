use Rattle.std.proofs.Common.{rules, ◌≡◌, ◌+◌, ◌++◌, ◌∷◌, [], length}
use Rattle.gate_world.specs.declared.head.FieldSpan.{FieldSpan}
use Rattle.gate_world.proofs.HeadLemmas.{field_added}
use Rattle.gate_world.proofs.head.Head.field.Goals as goal

pub returns-clause-head : goal.returns-clause-head
returns-clause-head c =
    let h = c.self.inside in
    let name = c.args.name.now in
    let value = c.args.value.now in
    let span : FieldSpan =
    record { start = c.len-start.result; middle = c.len-middle.result; end = c.len-end.result } in
    let bytes : c.append_within-2.new.out.items ≡ (h.bytes.items ++ name) ++ value = search rules in
    let spans : c.push.new.self.items ≡ h.spans.items ++ span ∷ [] = search rules in
    let start : c.len-start.result ≡ length h.bytes.items = search rules in
    let middle : c.len-middle.result ≡ length h.bytes.items + length name = search rules in
    let end : c.len-end.result ≡ length h.bytes.items + length name + length value = search rules in
    rw (← c.self.view_is, spans)
    (field_added h.bytes.items name value c.append_within-2.new.out.items h.method_end h.target_end h.spans.items span
    h.body h.close h.expect bytes c.self.invariant.0 c.self.invariant.1 c.self.invariant.2 start middle end)
