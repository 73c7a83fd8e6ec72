use Rattle.std.proofs.Common.{List, ℕ, OnErr, subst, sym}
use Rattle.gate_world.specs.Sinks.{GainsPart}
use Rattle.gateway_run.proofs.LineLemmas.{not_utf8_line}
use Rattle.gateway_run.proofs.error_lines.write_utf8_line.Goals as goal

pub returns-clause-written : goal.returns-clause-written
returns-clause-written g c =
    rw (not_utf8_line c.args.place c.format-digits.result.now c.format-digits.ensures.text) c.write_texts.ensures.written

pub returns-clause-part : goal.returns-clause-part
returns-clause-part g c =
    subst (λ (z : List ℕ). OnErr c.write_texts.result (GainsPart (g.O.Sink.written c.args.err.now) (g.O.Sink.written c.write_texts.new.out) z))
    (sym (not_utf8_line c.args.place c.format-digits.result.now c.format-digits.ensures.text))
    c.write_texts.ensures.part
