use Rattle.std.proofs.Common.{◌∙◌, List, ℕ, OnErr, ap, subst, sym}
use Rattle.std.specs.Prelude.{decimal}
use Rattle.gate_world.specs.Sinks.{GainsPart}
use Rattle.gateway_run.proofs.LineLemmas.{detail_line}
use Rattle.gateway_run.proofs.error_lines.write_refusal_line.Goals as goal

pub returns-clause-part : goal.returns-clause-part
returns-clause-part g c =
    subst (λ (z : List ℕ). OnErr c.write_texts-2.result (GainsPart (g.O.Sink.written c.args.err.now) (g.O.Sink.written c.write_texts-2.new.out) z))
    (sym (detail_line c.args.refusal c.in-Some.detail c.format-status.result.now c.cause-cause.result.now c.format-number.result.now c.text-fault.result.now
    (sym c.detail.ensures ∙ c.in-Some.is) (c.format-status.ensures.text ∙ ap decimal c.status.ensures) c.cause-cause.ensures c.format-number.ensures.text c.text-fault.ensures))
    c.write_texts-2.ensures.part
