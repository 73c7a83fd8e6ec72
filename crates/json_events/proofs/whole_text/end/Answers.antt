use Rattle.std.proofs.Common.{Some, inr, sym, subst}
use Rattle.std.proofs.lemmas.Result.{err_from_is_err_and}
use Rattle.json_events.specs.ReaderState.{Stands}
use Rattle.json_events.specs.ReaderAnswers.{IsWholeWith}
use Rattle.json_events.specs.ReaderRuns.{IsTextToldBy}
use Rattle.json_events.proofs.reading.CallRuns.{told_end, told_cut}
use Rattle.json_events.proofs.whole_text.end.Goals as goal

pub returns-in_err-finish-clause-err : goal.returns-in_err-finish-clause-err
returns-in_err-finish-clause-err c =
    let p = err_from_is_err_and c.from_residual.result c.from_residual.ensures.1 in
    rw (p.1, p.2) (λ bytes h. inr (told_cut c.args.reader.now bytes c.args.out.now _ h c.in_err-finish.ensures.fault))

pub returns-in_ok-push-in-Some-clause-ok : goal.returns-in_ok-push-in-Some-clause-ok
returns-in_ok-push-in-Some-clause-ok c = λ bytes h.
    let whole = subst (IsWholeWith (Stands c.args.reader.now)) c.in-Some.is c.in_ok-finish.ensures.whole in
    let told = told_end c.args.reader.now bytes c.args.out.now (Some c.in-Some.token) h whole in
    subst (IsTextToldBy bytes) (sym c.in_ok-push-in-Some.ensures.ok) told
