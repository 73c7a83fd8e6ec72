use Rattle.std.proofs.Common.{◌∙◌, List, ℕ, OnErr, subst, sym}
use Rattle.gate_world.specs.Sinks.{GainsPart}
use Rattle.gateway_run.proofs.LineLemmas.{two_names_line}
use Rattle.gateway_run.proofs.error_lines.write_link_line.Goals as goal

pub returns-clause-written : goal.returns-clause-written
returns-clause-written g c =
    rw (two_names_line c.args.kind c.args.name.now c.args.second.now c.name-kind.result.now c.as_str-2.result.now c.as_str-3.result.now
    (sym c.is_empty.ensures ∙ c.if-is_empty.false) c.name-kind.ensures c.as_str-2.ensures.value c.as_str-3.ensures.value)
    c.write_texts-2.ensures.written

pub returns-clause-part : goal.returns-clause-part
returns-clause-part g c =
    subst (λ (z : List ℕ). OnErr c.write_texts-2.result (GainsPart (g.O.Sink.written c.args.err.now) (g.O.Sink.written c.write_texts-2.new.out) z))
    (sym (two_names_line c.args.kind c.args.name.now c.args.second.now c.name-kind.result.now c.as_str-2.result.now c.as_str-3.result.now
    (sym c.is_empty.ensures ∙ c.if-is_empty.false) c.name-kind.ensures c.as_str-2.ensures.value c.as_str-3.ensures.value))
    c.write_texts-2.ensures.part
