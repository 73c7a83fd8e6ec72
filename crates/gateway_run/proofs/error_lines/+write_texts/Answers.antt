use Rattle.gateway_run.proofs.LineLemmas.{part_on_err}
use Rattle.gateway_run.proofs.error_lines.+write_texts.Goals as goal

pub returns-in_ok-write_all-in-Some-clause-part : goal.returns-in_ok-write_all-in-Some-clause-part
returns-in_ok-write_all-in-Some-clause-part g t c =
    part_on_err c.write_texts.result _ _ _ _ c.in-Some.first.now c.in-Some.rest.now c.args.texts.now c.in-Some.ensures.cases.0 c.as_bytes.ensures.value c.in_ok-write_all-in-Some.ensures.written c.write_texts.ensures.part
