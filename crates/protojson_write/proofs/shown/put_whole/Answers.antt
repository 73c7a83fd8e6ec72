use Rattle.std.proofs.lemmas.Result.{err_from_is_err_and, on_ok_weaker}
use Rattle.known_types.specs.KnownTexts.{known_text}
use Rattle.protojson_write.proofs.ShownLemmas.{shown_within, stop_refused, stops_refused, whole_text}
use Rattle.protojson_write.proofs.shown.put_whole.Goals as goal

pub returns-in_err-put_message-clause-refusal : goal.returns-in_err-put_message-clause-refusal
returns-in_err-put_message-clause-refusal c =
    let p = err_from_is_err_and c.from_residual.result c.from_residual.ensures.1 in rw (p.1, p.2) (stop_refused _ _ _ c.args.within.start c.args.within.limit c.in_err-put_message.field-0.0 (whole_text known_text c.args.within.types.now c.args.within.level c.args.id c.args.value.now c.requires.level c.requires.printable) c.requires.start c.in_err-put_message.ensures.stop)

pub returns-clause-ok : goal.returns-clause-ok
returns-clause-ok c =
    on_ok_weaker c.check.result (λ h. shown_within _ _ _ _ c.args.within.start c.args.within.limit (whole_text known_text c.args.within.types.now c.args.within.level c.args.id c.args.value.now c.requires.level c.requires.printable) c.requires.start c.in_ok-put_message.ensures.ok h) c.check.ensures.ok

pub returns-clause-refusal : goal.returns-clause-refusal
returns-clause-refusal c =
    stops_refused c.check.result _ _ _ _ c.args.within.start c.args.within.limit (whole_text known_text c.args.within.types.now c.args.within.level c.args.id c.args.value.now c.requires.level c.requires.printable) c.requires.start c.in_ok-put_message.ensures.ok c.check.ensures.stop
